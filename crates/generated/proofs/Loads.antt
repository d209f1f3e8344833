-- A generated text loads, and gives the circuit. Clause 12.12. Assumes nothing.
use mathlib.Core.Path.{◌≡◌, refl, sym, ap, ap₂, ◌∙◌}
use mathlib.Core.Bool.{Bool, true, false, ◌&&◌, ◌||◌}
use mathlib.Core.List.{List, [], ◌∷◌, ◌++◌, map, append_assoc, append-nil}
use mathlib.Core.Option.{some}
use Prim.Native.Nat.{ℕ, zero, suc, ◌+◌, ◌*◌, ◌^◌, ◌≤◌, ◌<◌}
use native.Mathlib.Omega.{arith}
use borrow.Author.Tests.{le-leb}
use lib.Dec.{T, leb, ltb, eqb, leb→le, le→leb, ltb→lt, lt→ltb, lit<, lit≤}
use lib.ListN.{length}
use Rattle.aiger.specs.Lists.{every}
use Rattle.aiger.specs.Text.{bytes}
use Rattle.aiger.specs.Circuit.{Circuit, Latch, Gate, defined, used, literals_right, used_defined, acyclic}
use Rattle.aiger.specs.Binary.{implied}
use Rattle.aiger.specs.File.{is_text, is_binary, header, count_tests, counts_fit, header_of}
use Rattle.aiger.specs.Load.{gives, sections, load, needed}
use Rattle.aiger.specs.Write.{lines_of, line_of}
use Rattle.aiger.proofs.Forms.{counts-text}
use Rattle.aiger.proofs.Tests.{and, and_left, and_right, true-T, all_hold}
use Rattle.meaning.proofs.Defined.{no_gate, gate_at}
use Rattle.meaning.proofs.Lists.{every-at, every-both}
use Rattle.roundtrip.proofs.Text.{below, row_line, every-below}
use Rattle.roundtrip.proofs.LoadValid.{implied-length}
use Rattle.roundtrip.proofs.LoadWrite.{Valid, body_text, body-text, fits}
use Rattle.numbering.proofs.InOrder.{implied-append, listed-right, listed-defined, listed-acyclic}
use Rattle.generated.specs.Generated.{after, drawn_latches, drawn_gates, generated, six_text, generated_text, counts_permitted, few_enough, Permitted}
use Rattle.generated.proofs.Drawn.{
  drawn-latches,
  drawn-gates,
  latches-own,
  gates-own,
  nexts-below,
  resets-zero,
  lower,
  operands-lower,
  lefts-below,
  rights-below,
}
use Rattle.generated.proofs.Short.{text-short}

-- ---- permitted counts

pub permitted : (I L A : ℕ) → counts_permitted I L A ≡ true → Permitted I L A
permitted I L A e =
    let t : T (counts_permitted I L A) = rw e tt in
    let few = few_enough I L A in
    let t4 = and_left (few && leb (I + L + A) 4096 && leb 1 (I + L)) (leb 1 A) t in
    let t3 = and_left (few && leb (I + L + A) 4096) (leb 1 (I + L)) t4 in
    let t2 = and_left few (leb (I + L + A) 4096) t3 in
    let t1 = and_left (leb I 256 && leb L 1024) (leb A 3072) t2 in
    record {
      inputs = leb→le I 256 (and_left (leb I 256) (leb L 1024) t1);
      latches = leb→le L 1024 (and_right (leb I 256) (leb L 1024) t1);
      gates = leb→le A 3072 (and_right (leb I 256 && leb L 1024) (leb A 3072) t2);
      all = leb→le (I + L + A) 4096 (and_right few (leb (I + L + A) 4096) t3);
      operand = leb→le 1 (I + L) (and_right (few && leb (I + L + A) 4096) (leb 1 (I + L)) t4);
      gate = leb→le 1 A (and_right (few && leb (I + L + A) 4096 && leb 1 (I + L)) (leb 1 A) t);
    }

-- ---- six header numbers

abbrev six_row : Circuit → List ℕ
six_row c = length c.inputs ∷ length c.latches ∷ length c.outputs ∷ length c.gates ∷ length c.bads ∷ []

head-six : (c : Circuit) → c.constraints ≡ [] → T (every (below (10 ^ 10)) (c.max_var ∷ six_row c))
    → header (six_text c) ≡ some (header_of c, body_text c)
unfolding is_text header six_text lines_of
head-six c e h = rw e (simp (append_assoc, append-nil, row_line 9 c.max_var (six_row c) (lit< tt) h))

six-text : (c : Circuit) → is_binary (six_text c) ≡ false
unfolding is_binary six_text
six-text c = refl

six-byte : (c : Circuit) → 1 ≤ length (six_text c)
unfolding six_text
six-byte c = omega arith

-- ---- the circuit

module _ (s I L A : ℕ) where
  abbrev M : ℕ
  M = I + L + A

  abbrev made : Circuit
  made = generated s I L A

  made-defined : defined (generated s I L A) ≡ implied 1 (I + L + A)
  unfolding generated defined
  made-defined =
      let n = 2 * (I + L + A) + 2 in
      let l : map (λ (l : Latch). l.lit) (drawn_latches n s (I + 1) L) ≡ implied (1 + I) L =
      latches-own n s (I + 1) L ∙ ap (λ (x : ℕ). implied x L) (omega arith) in
      let g : map (λ (g : Gate). g.lit) (drawn_gates (after L s) (I + L + 1) A) ≡ implied (1 + (I + L)) A =
      gates-own (after L s) (I + L + 1) A ∙ ap (λ (x : ℕ). implied x A) (omega arith) in
      ap₂ (λ (x y : List ℕ). implied 1 I ++ x ++ y) l g
      ∙ ap (λ (x : List ℕ). x ++ implied (1 + (I + L)) A) (implied-append 1 I L) ∙ implied-append 1 (I + L) A

  made-used : T (every (λ x. leb x (2 * (I + L + A) + 1)) (used (generated s I L A)))
  unfolding generated used
  made-used =
      let n = 2 * (I + L + A) + 2 in
      let m = 2 * (I + L + A) + 1 in
      let p : ℕ → Bool = λ x. leb x m in
      let nexts = map (λ (l : Latch). l.next) (drawn_latches n s (I + 1) L) in
      let lefts = map (λ (g : Gate). g.left) (drawn_gates (after L s) (I + L + 1) A) in
      let rights = map (λ (g : Gate). g.right) (drawn_gates (after L s) (I + L + 1) A) in
      let bads : List ℕ = 2 * (I + L + A) ∷ [] in
      let t1 = nexts-below n s (I + 1) L m (omega arith) (omega arith) in
      let t2 = and (leb (2 * (I + L + A)) m) true (le→leb (2 * (I + L + A)) m (omega arith)) tt in
      let t3 = lefts-below (after L s) (I + L + 1) A m (omega arith) (omega arith) in
      let t4 = rights-below (after L s) (I + L + 1) A m (omega arith) (omega arith) in
      every-both p (nexts ++ [] ++ bads ++ [] ++ lefts) rights
      (every-both p (nexts ++ [] ++ bads ++ []) lefts
      (every-both p (nexts ++ [] ++ bads) [] (every-both p (nexts ++ []) bads (every-both p nexts [] t1 tt) t2) tt) t3) t4

  made-resets : T (every (λ (l : Latch). leb l.reset 1 || eqb l.reset l.lit) (generated s I L A).latches)
  unfolding generated
  made-resets = resets-zero (2 * (I + L + A) + 2) s (I + 1) L

  made-below : (i : ℕ) → i < length (generated s I L A).gates
      → ((gate_at (generated s I L A) i).left < (gate_at (generated s I L A) i).lit)
      × ((gate_at (generated s I L A) i).right < (gate_at (generated s I L A) i).lit)
  unfolding generated
  made-below i h =
      let gs = drawn_gates (after L s) (I + L + 1) A in
      let g = gate_at (generated s I L A) i in
      let t = every-at lower gs i no_gate h (operands-lower (after L s) (I + L + 1) A (omega arith)) in (
        ltb→lt g.left g.lit (and_left (ltb g.left g.lit) (ltb g.right g.lit) t),
        ltb→lt g.right g.lit (and_right (ltb g.left g.lit) (ltb g.right g.lit) t),
      )

  made-top : (generated s I L A).max_var ≡ I + L + A
  unfolding generated
  made-top = refl

  made-free : (generated s I L A).constraints ≡ []
  unfolding generated
  made-free = refl

  -- ---- what load tests

  made-listed : defined (generated s I L A) ≡ implied 1 (generated s I L A).max_var
  unfolding generated
  made-listed = made-defined

  made-right : T (literals_right (generated s I L A))
  unfolding generated
  made-right = listed-right (generated s I L A) made-listed made-used made-resets

  -- the counts of the circuit
  inputs-count : length (generated s I L A).inputs ≡ I
  unfolding generated
  inputs-count = implied-length 1 I

  latches-count : length (generated s I L A).latches ≡ L
  unfolding generated
  latches-count = drawn-latches (2 * (I + L + A) + 2) s (I + 1) L

  gates-count : length (generated s I L A).gates ≡ A
  unfolding generated
  gates-count = drawn-gates (after L s) (I + L + 1) A

  outputs-count : length (generated s I L A).outputs ≡ 0
  unfolding generated
  outputs-count = refl

  bads-count : length (generated s I L A).bads ≡ 1
  unfolding generated
  bads-count = refl

  module _ (p : Permitted I L A) where
    made-counts : T (counts_fit (header_of (generated s I L A)))
    unfolding counts_fit
    made-counts =
        let c = generated s I L A in
        let i = length c.inputs in
        let l = length c.latches in
        let o = length c.outputs in
        let a = length c.gates in
        let b = length c.bads in
        let k = length c.constraints in
        let z : k ≡ 0 = ap length made-free in
        let ci : i ≡ I = inputs-count in
        let cl : l ≡ L = latches-count in
        let ca : a ≡ A = gates-count in
        let co : o ≡ 0 = outputs-count in
        let cb : b ≡ 1 = bads-count in
        let ct : c.max_var ≡ I + L + A = made-top in
        all_hold (count_tests (header_of c)) (
          le→leb c.max_var 4096 (omega arith),
          (
            le→leb i 256 (omega arith),
            (
              le→leb l 1024 (omega arith),
              (
                le→leb o 64 (omega arith),
                (
                  le→leb a 3072 (omega arith),
                  (le→leb b 16 (omega arith), (le→leb k 16 (omega arith), (tt, (tt, (le→leb (i + l + a) c.max_var (omega arith), tt))))),
                ),
              ),
            ),
          ),
        )

    -- wherever circuit memory suffices, load accepts the circuit
    pub made-valid : (room : ℕ) → needed (I + L + A) ≤ room → Valid room (generated s I L A)
    made-valid room h =
        let c = generated s I L A in
        record {
          fit = true-T (counts_fit (header_of c)) made-counts;
          held = omega (arith, made-top);
          literals = true-T (literals_right c) made-right;
          uses = true-T (used_defined c) (listed-defined c made-listed made-right);
          order = true-T (acyclic c) (listed-acyclic c made-listed made-below);
        }

    heads-low : T (every (below (10 ^ 10)) ((generated s I L A).max_var ∷ six_row (generated s I L A)))
    heads-low =
        let c = generated s I L A in
        and (low c.max_var) _ (at c.max_var (omega (arith, made-top)))
        (and (low (length c.inputs)) _ (at (length c.inputs) (omega (arith, inputs-count)))
        (and (low (length c.latches)) _ (at (length c.latches) (omega (arith, latches-count)))
        (and (low (length c.outputs)) _ (at (length c.outputs) (omega (arith, outputs-count)))
        (and (low (length c.gates)) _ (at (length c.gates) (omega (arith, gates-count)))
        (and (low (length c.bads)) true (at (length c.bads) (omega (arith, bads-count))) tt)))))
      where
        low : ℕ → Bool
        low = below (10 ^ 10)

        at : (n : ℕ) → n < 10 ^ 4 → T (low n)
        at n h = lt→ltb n (10 ^ 10) (omega arith)

    -- the text loads as the circuit
    pub generated-loads : (room : ℕ) → needed (I + L + A) ≤ room → load room (generated_text s I L A) ≡ gives (generated s I L A)
    unfolding sections load
    generated-loads room h =
        let c = generated s I L A in
        let v = made-valid room h in
        simp (
          le-leb 1 (length (six_text c)) (six-byte c),
          le-leb (length (six_text c)) 65536 (omega (arith, text-short s I L A p)),
          six-text c,
          head-six c made-free heads-low,
          counts-text,
          v.fit,
          le-leb (needed c.max_var) room v.held,
          body-text c (fits v),
          v.literals,
          v.uses,
          v.order,
        )
