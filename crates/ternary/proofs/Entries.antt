-- Entries of literals, step by step, and where they stand. Assumes nothing.
use mathlib.Core.Path.{◌≡◌, refl, sym, ap, ◌∙◌, subst}
use mathlib.Core.Bool.{Bool, true, false, not, cond, ◌&&◌, and-false}
use mathlib.Core.List.{List}
use Prim.Native.Nat.{ℕ, zero, suc, ◌+◌, ◌-◌, ◌*◌, ◌≤◌, ◌<◌}
use native.Mathlib.Numerals.{add-one}
use native.Mathlib.Decide.{ℕ_discrete}
use native.Mathlib.Omega.{arith}
use borrow.Author.Tests.{eq-eqb, ne_eqb}
use lib.Dec.{T, eqb}
use lib.ListN.{length, get_or, set, replicate, length-set, length-replicate, get_or-replicate}
use lib.Seq.{get_or-set_same, get_or-set_other, ext_get_or}
use Rattle.aiger.specs.Lists.{every_below}
use Rattle.aiger.specs.Circuit.{Circuit, Gate, var}
use Rattle.aiger.proofs.Tests.{T_true, below_at}
pub use Rattle.aiger.proofs.Tests.{below-same as every-same}
use Rattle.literals.specs.Literal.{literal, word_of, complemented}
use Rattle.literals.specs.declared.Lit.{Lit}
use Rattle.literals.specs.declared.Var.{Var}
use Rattle.meaning.specs.Frame.{latch_at, gate_at}
use Rattle.ternary.specs.Entries.{may_of, put, conjunction, put_below, gate_step, gates_below, frame_step, latches_from, next_of, entries_at}
use Rattle.ternary.specs.declared.May.{May}

-- ---- the two entries of a variable

pub put-length : (v : ℕ) (x : May) (can : List ℕ) → length (put v x can) ≡ length can
put-length v x can = length-set (set can (2 * v) x.high) (2 * v + 1) x.low ∙ length-set can (2 * v) x.high

put_other : (v : ℕ) (x : May) (can : List ℕ) (k : ℕ) → (k ≡ 2 * v → ⊥) → (k ≡ 2 * v + 1 → ⊥) → get_or (put v x can) k 0 ≡ get_or can k 0
put_other v x can k p q =
    get_or-set_other (set can (2 * v) x.high) (2 * v + 1) k x.low 0 q ∙ get_or-set_other can (2 * v) k x.high 0 p

put-high : (v : ℕ) (x : May) (can : List ℕ) → 2 * v + 1 < length can → get_or (put v x can) (2 * v) 0 ≡ x.high
put-high v x can h =
    get_or-set_other (set can (2 * v) x.high) (2 * v + 1) (2 * v) x.low 0 (λ e. omega arith)
    ∙ get_or-set_same can (2 * v) x.high 0 (omega arith)

put_low : (v : ℕ) (x : May) (can : List ℕ) → 2 * v + 1 < length can → get_or (put v x can) (2 * v + 1) 0 ≡ x.low
put_low v x can h =
    get_or-set_same (set can (2 * v) x.high) (2 * v + 1) x.low 0 (omega (arith, length-set can (2 * v) x.high))

-- ---- those of some variables, one after the other

module _ (v : ℕ → ℕ) (x : ℕ → May) where
  pub below_none : (can : List ℕ) → can ≡ put_below v x 0 can
  unfolding put_below
  below_none can = refl

  pub below_more : (n : ℕ) (can now : List ℕ) → now ≡ put_below v x n can → put (v n) (x n) now ≡ put_below v x (n + 1) can
  unfolding put_below
  below_more n can now e = ap (put (v n) (x n)) e ∙ ap (λ (k : ℕ). put_below v x k can) (sym (add-one n))

  pub below_length : (n : ℕ) (can : List ℕ) → length (put_below v x n can) ≡ length can
  unfolding put_below
  below_length zero can = refl
  below_length (suc n) can = put-length (v n) (x n) (put_below v x n can) ∙ below_length n can

pub below-same : (v u : ℕ → ℕ) (x y : ℕ → May) (n : ℕ) (can : List ℕ) → ((i : ℕ) → i < n → v i ≡ u i) → ((i : ℕ) → i < n → x i ≡ y i)
    → put_below v x n can ≡ put_below u y n can
unfolding put_below
below-same v u x y zero can e f = refl
below-same v u x y (suc n) can e f =
    let a = e n (omega arith) in
    let b = f n (omega arith) in
    let r = below-same v u x y n can (λ i h. e i (omega arith)) (λ i h. f i (omega arith)) in
    λ i. put (a i) (b i) (r i)

-- what was saved for latch j is read back
pub below-high : (x : ℕ → May) (n j : ℕ) (state : List ℕ) → j < n → 2 * n ≤ length state
    → get_or (put_below (λ i. i) x n state) (2 * j) 0 ≡ (x j).high
unfolding put_below
below-high x zero j state h l = absurd (omega arith)
below-high x (suc n) j state h l =
    let old = put_below (λ i. i) x n state in
    elim (ℕ_discrete j n) [
      | yes e ↦
          ap (λ (k : ℕ). get_or (put n (x n) old) (2 * k) 0) e
          ∙ put-high n (x n) old (omega (arith, below_length (λ i. i) x n state)) ∙ ap (λ (k : ℕ). (x k).high) (sym e)
      | no d ↦ put_other n (x n) old (2 * j) (λ e. d (omega arith)) (λ e. omega arith) ∙ below-high x n j state (omega arith) (omega arith)
    ]

pub below-low : (x : ℕ → May) (n j : ℕ) (state : List ℕ) → j < n → 2 * n ≤ length state
    → get_or (put_below (λ i. i) x n state) (2 * j + 1) 0 ≡ (x j).low
unfolding put_below
below-low x zero j state h l = absurd (omega arith)
below-low x (suc n) j state h l =
    let old = put_below (λ i. i) x n state in
    elim (ℕ_discrete j n) [
      | yes e ↦
          ap (λ (k : ℕ). get_or (put n (x n) old) (2 * k + 1) 0) e
          ∙ put_low n (x n) old (omega (arith, below_length (λ i. i) x n state)) ∙ ap (λ (k : ℕ). (x k).low) (sym e)
      | no d ↦
          put_other n (x n) old (2 * j + 1) (λ e. omega arith) (λ e. d (omega arith)) ∙ below-low x n j state (omega arith) (omega arith)
    ]

-- ---- gates

module _ (c : Circuit) (order : List ℕ) where
  pub gates-none : (can : List ℕ) → can ≡ gates_below c order 0 can
  unfolding gates_below
  gates-none can = refl

  pub gates-more : (n : ℕ) (can now : List ℕ) → now ≡ gates_below c order n can
      → gate_step (gate_at c (get_or order n 0)) now ≡ gates_below c order (n + 1) can
  unfolding gates_below
  gates-more n can now e = ap (gate_step (gate_at c (get_or order n 0))) e ∙ ap (λ (k : ℕ). gates_below c order k can) (sym (add-one n))

  pub gates-length : (n : ℕ) (can : List ℕ) → length (gates_below c order n can) ≡ length can
  unfolding gates_below
  gates-length zero can = refl
  gates-length (suc n) can =
      let g = gate_at c (get_or order n 0) in
      let old = gates_below c order n can in
      put-length (var g.lit) (conjunction (may_of old (literal g.left)) (may_of old (literal g.right))) old ∙ gates-length n can

-- ---- frames

pub frame-length : (c : Circuit) (order body : List ℕ) (at : ℕ) (can : List ℕ) → length (frame_step c order body at can) ≡ length can
unfolding frame_step
frame-length c order body at can = gates-length c order _ _ ∙ below_length _ _ _ _ ∙ length-set can 0 0

pub latches-length : (c : Circuit) (x : ℕ → May) (n : ℕ) → length (latches_from c x n) ≡ n
latches-length c x n =
    below_length (λ j. var (latch_at c j).lit) x (length c.latches) (replicate n 1) ∙ length-replicate {A = ℕ} n 1

pub entries-length : (n : ℕ) (c : Circuit) (order body : List ℕ) (t : ℕ) → length (entries_at n c order body t) ≡ n
unfolding entries_at
entries-length n c order body zero = frame-length c order body _ _ ∙ latches-length c _ n
entries-length n c order body (suc t) = frame-length c order body _ _ ∙ latches-length c _ n

-- ---- all entries 1

pub filled-step : (can : List ℕ) (i : ℕ) → i < length can → ((l : ℕ) → l < i → get_or can l 0 ≡ 1) → (l : ℕ) → l < i + 1
    → get_or (set can i 1) l 0 ≡ 1
filled-step can i k h l b =
    elim (ℕ_discrete l i) [
      | yes e ↦ ap (λ (j : ℕ). get_or (set can i 1) j 0) e ∙ get_or-set_same can i 1 0 k
      | no n ↦ get_or-set_other can i l 1 0 n ∙ h l (omega arith)
    ]

pub filled : (n : ℕ) (can : List ℕ) → length can ≡ n → ((l : ℕ) → l < n → get_or can l 0 ≡ 1) → can ≡ replicate n 1
filled n can e h =
    ext_get_or 0 can (replicate n 1) (e ∙ sym (length-replicate {A = ℕ} n 1))
    (λ i l. h i (omega arith) ∙ sym (get_or-replicate {A = ℕ} n i 1 0 (omega arith)))

-- ---- literals and variables that were read from words

pub read_word : (can : List ℕ) (w : ℕ) {l : Lit} {r : May} → l ≡ literal w → r ≡ may_of can l → r ≡ may_of can (literal w)
read_word can w e h = h ∙ ap (may_of can) e

pub put_word : (can : List ℕ) (w : ℕ) {l : Lit} {v : Var} {x y : May} {out : List ℕ} → l ≡ literal w → v ≡ l.0 → x ≡ y
    → out ≡ put v.0 x can → out ≡ put (var w) y can
put_word can w {y = y} e f g h = h ∙ (λ i. put (f i).0 (g i) can) ∙ ap (λ (l : Lit). put l.0.0 y can) e

-- ---- tests

pub cond-is : (x k a b : ℕ) → x ≡ k → a ≡ cond (eqb x k) a b
cond-is x k a b e = rw (eq-eqb x k e)

pub cond-not : (x k a b : ℕ) → (x ≡ k → ⊥) → b ≡ cond (eqb x k) a b
cond-not x k a b e = rw (ne_eqb x k e)

pub every_more : (p : ℕ → Bool) (n : ℕ) → every_below n p ≡ true → p n ≡ true → every_below (n + 1) p ≡ true
every_more p n e f = ap (λ (k : ℕ). every_below k p) (add-one n) ∙ (λ i. e i && f i)

pub every-fails : (p : ℕ → Bool) (n i : ℕ) → i < n → p i ≡ false → every_below n p ≡ false
every-fails p n i l e = go (every_below n p) refl
  where
    go : (b : Bool) → every_below n p ≡ b → b ≡ false
    go true h = absurd (subst T e (below_at n p (T_true h) i l))
    go false h = refl
