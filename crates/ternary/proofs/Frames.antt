-- Frames of a completion, and what their values are allowed to be. Assumes nothing.
use mathlib.Core.Path.{◌≡◌, refl, sym, ap, ap₂, ◌∙◌, subst}
use mathlib.Core.Bool.{Bool, true, false, not, cond, ◌&&◌, ◌||◌, and-false}
use mathlib.Core.List.{List, [], ◌∷◌}
use Prim.Native.Nat.{ℕ, zero, suc, ◌+◌, ◌-◌, ◌*◌, ◌≤◌, ◌<◌}
use native.Mathlib.Decide.{ℕ_discrete}
use native.Mathlib.Omega.{arith}
use borrow.Author.Tests.{eq-eqb, ne_eqb}
use lib.Dec.{T, eqb, eqb→eq}
use lib.ListN.{length, get_or, set, replicate, length-set}
use lib.Seq.{get_or-set_other}
use Rattle.aiger.specs.Lists.{every_below}
use Rattle.aiger.specs.Circuit.{Circuit, Latch, Gate, var}
use Rattle.aiger.specs.Frames.{value}
use Rattle.aiger.specs.Witness.{agrees}
use Rattle.aiger.proofs.Tests.{and, below_at}
use Rattle.literals.specs.Literal.{literal, word_of, complemented}
use Rattle.literals.specs.declared.Lit.{Lit}
use Rattle.layout.specs.Words.{word, circuit_in, gate_in, latch_in}
use Rattle.layout.specs.declared.Layout.{Layout}
use Rattle.meaning.specs.Frame.{input_at, latch_at, gate_at, no_latch, Valuation}
use Rattle.completions.specs.Forms.{Completed, Completes}
use Rattle.witness.specs.Line.{values}
use Rattle.witness.proofs.Lines.{value-at}
use Rattle.frames.specs.Lanes.{Ready}
use Rattle.frames.proofs.Facts.{gates-are, gate-place, gate-room, latches-are, latches-few, latch-place, next-below}
use Rattle.frames.proofs.Places.{inputs_are, input-var, latch-var}
use Rattle.ternary.specs.Cover.{Covers, Allows}
use Rattle.ternary.specs.Entries.{
  may_of,
  line_of,
  next_of,
  row_at,
  put_below,
  gates_below,
  frame_step,
  latches_from,
  entries_at,
  sure,
  sure_below,
  start_agrees,
  starts_agree,
  sees_hit,
}
use Rattle.ternary.specs.declared.May.{May}
use Rattle.ternary.proofs.Entries.{below_length, below-same, below-high, below-low, entries-length, every-fails}
use Rattle.ternary.proofs.Covering.{value-even, Admits, GateFits, read-admits, below-covers, gates-covers, byte-admits}

-- a byte allows what stands for it in a completion
allows-of : (a d : ℕ) → Completed a d → Allows a (eqb d 49)
allows-of a d c =
    record {
      true-one = λ t e. let x : d ≡ a = c.other (λ q. omega arith) in omega (arith, eqb→eq d 49 t);
      false-one = λ t e.
          let x : d ≡ a = c.other (λ q. omega arith) in
          subst (λ (b : Bool). T (not b)) (eq-eqb d 49 (omega arith)) t;
    }

module _ (text u : List ℕ) (c : Completes text u) (at count : ℕ) where
  -- so a line allows its values in a completion
  line-allows : (i : ℕ) → i < count → Allows (get_or text (at + i) 0) (get_or (values u at count) i false)
  line-allows i h =
      subst (Allows (get_or text (at + i) 0)) (sym (value-at u at count i h))
      (allows-of (get_or text (at + i) 0) (get_or u (at + i) 0) (c.at (at + i)))

  pub line-admits : (i : ℕ) → i < count → Admits (line_of text at i) (get_or (values u at count) i false)
  line-admits i h = byte-admits (get_or text (at + i) 0) (get_or (values u at count) i false) (line-allows i h)

-- literal 0 is false
constant-covers : (can : List ℕ) (w : ℕ → Bool) → w 0 ≡ false → Covers can w → Covers (set can 0 0) w
constant-covers can w e c =
    record {
      may = λ l h t.
          elim (ℕ_discrete l 0) [
            | yes q ↦ absurd (subst T (value-even w l 0 (omega arith) ∙ e) t)
            | no n ↦ get_or-set_other can 0 l 0 0 n ∙ c.may l (omega (arith, length-set can 0 0)) t
          ];
    }

module _ {m : List ℕ} {layout : Layout} {order : List ℕ} (R : Ready m layout order 4097) where
  -- the variables of gates and of next literals have entries
  pub gate-fits : (g n : ℕ) → g < length (circuit_in m).gates → 8194 ≤ n → GateFits (gate_at (circuit_in m) g) n
  gate-fits g n h b =
      let l : g < layout.a = omega (arith, gates-are R) in
      let r = gate-room R g l in
      subst (λ (x : Gate). GateFits x n) (sym (gate-place R g l))
      (record { left = omega (arith, r.left); right = omega (arith, r.right) })

  pub next_fits : (j n : ℕ) → j < length (circuit_in m).latches → 8194 ≤ n → 2 * var (latch_at (circuit_in m) j).next + 1 < n
  next_fits j n h b =
      let l : j < layout.l = omega (arith, latches-are R) in
      subst (λ (x : Latch). 2 * var x.next + 1 < n) (sym (latch-place R j l)) (omega (arith, next-below R j l))

  -- a frame whose latches are allowed
  pub frame-covers : (body x : List ℕ) → Completes body x → (at : ℕ) (can : List ℕ) (st : List Bool) (w : ℕ → Bool) → 8194 ≤ length can
      → Valuation (circuit_in m) (values x at (length (circuit_in m).inputs)) st w → Covers can w
      → Covers (frame_step (circuit_in m) order body at can) w
  unfolding frame_step
  frame-covers body x q at can st w b v h =
      let c = circuit_in m in
      let n = length c.inputs in
      let place : ℕ → ℕ = λ i. var (input_at c i) in
      let rows = put_below place (line_of body at) n (set can 0 0) in
      let size : length rows ≡ length can = below_length place (line_of body at) n (set can 0 0) ∙ length-set can 0 0 in
      gates-covers c order (length c.gates) rows w
      (λ k l.
      let g = R.ordered.gate k l in
      (gate-fits (get_or order k 0) (length rows) g (omega arith), v.gate (get_or order k 0) g))
      (below-covers place (line_of body at) n (set can 0 0) w
      (λ i l. subst (Admits (line_of body at i)) (sym (v.input i l)) (line-admits body x q at n i l))
      (constant-covers can w v.constant h))

-- ---- resets

-- start values agree where each does
agrees-each : (ls : List Latch) (bs : List Bool) → length bs ≡ length ls
    → ((j : ℕ) → j < length ls
    → T (eqb (get_or ls j no_latch).reset (get_or ls j no_latch).lit || eqb (get_or ls j no_latch).reset (cond (get_or bs j false) 1 0)))
    → T (agrees ls bs)
unfolding agrees
agrees-each [] bs e h = tt
agrees-each (l ∷ ls) [] e h = absurd (omega arith)
agrees-each (l ∷ ls) (b ∷ bs) e h =
    and (eqb l.reset l.lit || eqb l.reset (cond b 1 0)) (agrees ls bs) (h 0 (omega arith))
    (agrees-each ls bs (omega arith) (λ j k. h (suc j) (omega arith)))

-- what is seen of one start value holds in every completion
start-agrees : (lit reset byte : ℕ) (b : Bool) → Allows byte b → T (start_agrees lit reset byte)
    → T (eqb reset lit || eqb reset (cond b 1 0))
start-agrees lit reset byte b a t = go (eqb reset lit) t
  where
    value_of : (b : Bool) → Allows byte b → T (cond (eqb byte 49) (eqb reset 1) (cond (eqb byte 48) (eqb reset 0) false))
        → T (eqb reset (cond b 1 0))
    value_of true a t =
        elim (ℕ_discrete byte 49) [
          | yes e ↦ subst (λ (z : Bool). T (cond z (eqb reset 1) (cond (eqb byte 48) (eqb reset 0) false))) (eq-eqb byte 49 e) t
          | no d ↦
              let s = subst (λ (z : Bool). T (cond z (eqb reset 1) (cond (eqb byte 48) (eqb reset 0) false))) (ne_eqb byte 49 d) t in
              absurd (subst (λ (z : Bool). T (cond z (eqb reset 0) false)) (ne_eqb byte 48 (a.true-one tt)) s)
        ]
    value_of false a t =
        let s = subst (λ (z : Bool). T (cond z (eqb reset 1) (cond (eqb byte 48) (eqb reset 0) false)))
        (ne_eqb byte 49 (a.false-one tt)) t in
        elim (ℕ_discrete byte 48) [
          | yes e ↦ subst (λ (z : Bool). T (cond z (eqb reset 0) false)) (eq-eqb byte 48 e) s
          | no d ↦ absurd (subst (λ (z : Bool). T (cond z (eqb reset 0) false)) (ne_eqb byte 48 d) s)
        ]

    go : (z : Bool) → T (z || cond (eqb byte 49) (eqb reset 1) (cond (eqb byte 48) (eqb reset 0) false)) → T (z || eqb reset (cond b 1 0))
    go true s = tt
    go false s = value_of b a s

pub starts-agree : (c : Circuit) (body x : List ℕ) → Completes body x → length (values x 0 (length c.latches)) ≡ length c.latches
    → T (starts_agree c body) → T (agrees c.latches (values x 0 (length c.latches)))
starts-agree c body x q e t =
    let n = length c.latches in
    agrees-each c.latches (values x 0 n) e
    (λ j h.
    let z : 0 + j ≡ j = omega arith in
    start-agrees (latch_at c j).lit (latch_at c j).reset (get_or body j 0) (get_or (values x 0 n) j false)
    (subst (λ (i : ℕ). Allows (get_or body i 0) (get_or (values x 0 n) j false)) z (line-allows body x q 0 n j h))
    (below_at n (λ i. start_agrees (latch_at c i).lit (latch_at c i).reset (get_or body i 0)) t j h))

-- ---- sure literals

-- a literal whose complement cannot be true is true
pub sure-true : (can : List ℕ) (w : ℕ → Bool) (k : ℕ) → 2 * var k + 1 < length can → Covers can w → T (sure can k) → T (value w k)
sure-true can w k h c t = go (value w k) (read-admits can w k h c)
  where
    go : (b : Bool) → Admits (may_of can (literal k)) b → T b
    go true a = tt
    go false a = let z = eqb→eq (may_of can (literal k)).low 0 t in omega (arith, a.low-one tt)

-- ---- the code's steps, by the words

module _ {m : List ℕ} {layout : Layout} {order : List ℕ} {count : ℕ} (R : Ready m layout order count) where
  pub frame_is : (body : List ℕ) (at : ℕ) (can rows : List ℕ) {out : List ℕ}
      → rows ≡ put_below (λ i. var (word m (7 + 1 * i))) (line_of body at) layout.i (set can 0 0)
      → out ≡ gates_below (circuit_in m) order layout.a rows → out ≡ frame_step (circuit_in m) order body at can
  unfolding frame_step
  frame_is body at can rows e f =
      let c = circuit_in m in
      let own : ℕ → ℕ = λ i. var (input_at c i) in
      let place : (i : ℕ) → i < layout.i → var (word m (7 + 1 * i)) ≡ var (input_at c i) =
      λ i h. ap (λ (k : ℕ). var (word m k)) (omega arith) ∙ sym (input-var R.held R.layout_of i h) in
      let told : rows ≡ put_below own (line_of body at) (length c.inputs) (set can 0 0) =
      e ∙ below-same (λ i. var (word m (7 + 1 * i))) own (line_of body at) (line_of body at) layout.i (set can 0 0) place (λ i h. refl)
      ∙ ap (λ (n : ℕ). put_below own (line_of body at) n (set can 0 0)) (inputs_are R.held R.layout_of) in
      f ∙ ap₂ (λ (n : ℕ) (r : List ℕ). gates_below c order n r) (gates-are R) told

  -- the latches, whatever they are given
  latches-is : (x y : ℕ → May) (n : ℕ) → ((j : ℕ) → j < layout.l → x j ≡ y j)
      → put_below (λ j. var (word m (layout.latches + 3 * j))) x layout.l (replicate n 1) ≡ latches_from (circuit_in m) y n
  latches-is x y n h =
      let c = circuit_in m in
      let own : ℕ → ℕ = λ j. var (latch_at c j).lit in
      below-same (λ j. var (word m (layout.latches + 3 * j))) own x y layout.l (replicate n 1)
      (λ j l. sym (latch-var R.held R.layout_of j l)) h
      ∙ ap (λ (k : ℕ). put_below own y k (replicate n 1)) (latches-are R)

  pub first-is : (n : ℕ) (body : List ℕ) (all latches : List ℕ) {out : List ℕ} → all ≡ replicate n 1
      → latches ≡ put_below (λ j. var (word m (layout.latches + 3 * j))) (line_of body 0) layout.l all
      → out ≡ frame_step (circuit_in m) order body (layout.l + 1) latches → out ≡ entries_at n (circuit_in m) order body 0
  unfolding entries_at
  first-is n body all latches e f g =
      let c = circuit_in m in
      let row : layout.l + 1 ≡ row_at c 0 = omega (arith, latches-are R) in
      let told : latches ≡ latches_from c (line_of body 0) n =
      f ∙ ap (put_below (λ j. var (word m (layout.latches + 3 * j))) (line_of body 0) layout.l) e
      ∙ latches-is (line_of body 0) (line_of body 0) n (λ j h. refl) in
      g ∙ ap₂ (λ (at : ℕ) (can : List ℕ). frame_step c order body at can) row told

  pub next-is : (n : ℕ) (body : List ℕ) (at : ℕ) (can state saved all latches : List ℕ) {out : List ℕ} → 2048 ≤ length state
      → saved ≡ put_below (λ j. j) (next_of (circuit_in m) can) layout.l state → all ≡ replicate n 1
      → latches
      ≡ put_below (λ j. var (word m (layout.latches + 3 * j))) (λ j. record { high = get_or saved (2 * j) 0; low = get_or saved (2 * j + 1) 0 })
      layout.l all
      → out ≡ frame_step (circuit_in m) order body at latches
      → out ≡ frame_step (circuit_in m) order body at (latches_from (circuit_in m) (next_of (circuit_in m) can) n)
  next-is n body at can state saved all latches room d e f g =
      let c = circuit_in m in
      let x = next_of c can in
      let kept : ℕ → May = λ j. record { high = get_or saved (2 * j) 0; low = get_or saved (2 * j + 1) 0 } in
      let back : (j : ℕ) → j < layout.l → kept j ≡ x j =
      λ j h.
      let few : 2 * layout.l ≤ length state = omega (arith, latches-few R) in
      let one = ap (λ (l : List ℕ). get_or l (2 * j) 0) d ∙ below-high x layout.l j state h few in
      let none = ap (λ (l : List ℕ). get_or l (2 * j + 1) 0) d ∙ below-low x layout.l j state h few in
      λ i. record { high = one i; low = none i } in
      let told : latches ≡ latches_from c x n =
      f ∙ ap (put_below (λ j. var (word m (layout.latches + 3 * j))) kept layout.l) e ∙ latches-is kept x n back in
      g ∙ ap (frame_step c order body at) told

-- one frame more
pub entries_next : (n : ℕ) (c : Circuit) (order body : List ℕ) (t at : ℕ) (can : List ℕ) {out : List ℕ} → can ≡ entries_at n c order body t
    → at ≡ row_at c (suc t) → out ≡ frame_step c order body at (latches_from c (next_of c can) (length can))
    → out ≡ entries_at n c order body (suc t)
unfolding entries_at
entries_next n c order body t at can e f g =
    let size : length can ≡ n = ap length e ∙ entries-length n c order body t in
    g
    ∙ (λ i. frame_step c order body (f i) (latches_from c (next_of c (e i)) (size i)))

-- ---- what is seen

module _ (n : ℕ) (c : Circuit) (order : List ℕ) (b frames : ℕ) (body : List ℕ) where
  abbrev frame_sure : ℕ → Bool
  frame_sure t = sure_below c (entries_at n c order body t)

  abbrev last_sure : Bool
  last_sure = sure (entries_at n c order body (frames - 1)) (get_or c.bads b 0)

  pub sees-start : starts_agree c body ≡ false → false ≡ sees_hit n c order b frames body
  unfolding sees_hit
  sees-start e = sym (ap (λ (x : Bool). x && (every_below frames frame_sure && last_sure)) e)

  pub sees-frame : (t : ℕ) → t < frames → sure_below c (entries_at n c order body t) ≡ false → false ≡ sees_hit n c order b frames body
  unfolding sees_hit
  sees-frame t h e =
      sym (ap (λ (x : Bool). starts_agree c body && (x && last_sure)) (every-fails frame_sure frames t h e) ∙ and-false (starts_agree c body))

  pub sees-last : {r : Bool} → starts_agree c body ≡ true → every_below frames (λ t. sure_below c (entries_at n c order body t)) ≡ true
      → r ≡ sure (entries_at n c order body (frames - 1)) (get_or c.bads b 0) → r ≡ sees_hit n c order b frames body
  unfolding sees_hit
  sees-last e f g = g ∙ sym (ap₂ (λ (x y : Bool). x && (y && last_sure)) e f)

-- ---- what is seen of one start value

module _ (lit reset byte : ℕ) where
  pub start-free : eqb reset lit ≡ true → true ≡ start_agrees lit reset byte
  start-free e = rw e

  module _ (e : eqb reset lit ≡ false) where
    pub start-one : byte ≡ 49 → eqb reset 1 ≡ start_agrees lit reset byte
    start-one h = rw (e, eq-eqb byte 49 h)

    pub start-zero : (byte ≡ 49 → ⊥) → byte ≡ 48 → eqb reset 0 ≡ start_agrees lit reset byte
    start-zero d h = rw (e, ne_eqb byte 49 d, eq-eqb byte 48 h)

    pub start_none : (byte ≡ 49 → ⊥) → (byte ≡ 48 → ⊥) → false ≡ start_agrees lit reset byte
    start_none d h = rw (e, ne_eqb byte 49 d, ne_eqb byte 48 h)

-- a literal is 0 where its complement is 1
pub zero_test : (l : Lit) {k : Lit} → k ≡ complemented l → eqb (word_of k) 1 ≡ eqb (word_of l) 0
zero_test l e = ap (λ (k : Lit). eqb (word_of k) 1) e ∙ go l.0.0 l.1
  where
    go : (v : ℕ) (b : Bool) → eqb (2 * v + cond (not b) 1 0) 1 ≡ eqb (2 * v + cond b 1 0) 0
    go zero true = refl
    go zero false = refl
    go (suc v) true = ne_eqb (2 * suc v + 0) 1 (λ e. omega arith) ∙ sym (ne_eqb (2 * suc v + 1) 0 (λ e. omega arith))
    go (suc v) false = ne_eqb (2 * suc v + 1) 1 (λ e. omega arith) ∙ sym (ne_eqb (2 * suc v + 0) 0 (λ e. omega arith))
