-- The numbers that variables get. Assumes nothing.
use mathlib.Core.Path.{◌≡◌, refl, sym, ap, ◌∙◌, subst}
use mathlib.Core.Bool.{Bool, true, false, cond}
use mathlib.Core.List.{List, [], ◌∷◌, map}
use Prim.Native.Nat.{ℕ, zero, suc, ◌+◌, ◌*◌, ◌/◌, ◌≤◌, ◌<◌}
use native.Mathlib.Nat.{not-suc-le-zero}
use native.Mathlib.Omega.{arith}
use borrow.Author.Tests.{eq-eqb, ne_eqb}
use lib.Dec.{T, eqb}
use lib.ListN.{length, get_or, length-map, get_or-map}
use Rattle.aiger.specs.Circuit.{Circuit, Latch, Gate, var, literals_right}
use Rattle.meaning.proofs.Defined.{Apart, Known, constant, input, latch, gate, no_latch, no_gate, input_at, latch_at, gate_at, definition, apart-inputs, apart-latches, apart-gates, input-in, latch-in, gate-in, input-latch, input-gate, latch-gate}
use Rattle.joined.specs.Joined.{place_from, number_of}

-- the variable of the i-th of some literals that are apart
pub place_at : (ls : List ℕ) (n d i : ℕ) → Apart ls → i < length ls → place_from ls n (var (get_or ls i 0)) d ≡ n + i
unfolding place_from
place_at [] n d i a h = absurd (not-suc-le-zero h)
place_at (l ∷ ls) n d zero a h = ap (λ (b : Bool). cond b n (place_from ls (n + 1) (var l) d)) (eq-eqb (var l) (var l) refl) ∙ omega arith
place_at (l ∷ ls) n d (suc i) a h =
    let e = a 0 (suc i) (omega arith) h in
    ap (λ (b : Bool). cond b n (place_from ls (n + 1) (var (get_or ls i 0)) d)) (ne_eqb (var l) (var (get_or ls i 0)) e)
    ∙ place_at ls (n + 1) d i (λ p q lt k. a (suc p) (suc q) (omega arith) (omega arith)) (omega arith) ∙ omega arith

-- a variable of none of the literals
pub place_out : (ls : List ℕ) (n v d : ℕ) → ((i : ℕ) → i < length ls → var (get_or ls i 0) ≡ v → ⊥) → place_from ls n v d ≡ d
unfolding place_from
place_out [] n v d h = refl
place_out (l ∷ ls) n v d h =
    ap (λ (b : Bool). cond b n (place_from ls (n + 1) v d)) (ne_eqb (var l) v (h 0 (omega arith)))
    ∙ place_out ls (n + 1) v d (λ i k. h (suc i) (omega arith))

module _ (c : Circuit) (right : T (literals_right c)) (p q : ℕ) where
  abbrev latch_lits : List ℕ
  latch_lits = map (λ l. l.lit) c.latches

  abbrev gate_lits : List ℕ
  gate_lits = map (λ g. g.lit) c.gates

  latch-lit : (j : ℕ) → get_or latch_lits j 0 ≡ (latch_at c j).lit
  latch-lit j = get_or-map (λ l. l.lit) c.latches j no_latch

  gate-lit : (i : ℕ) → get_or gate_lits i 0 ≡ (gate_at c i).lit
  gate-lit i = get_or-map (λ g. g.lit) c.gates i no_gate

  -- inputs are numbered from 1 on
  pub number-input : (i : ℕ) → i < length c.inputs → number_of c p q (var (input_at c i)) ≡ 1 + i
  unfolding number_of
  number-input i h = place_at c.inputs 1 _ i (apart-inputs c right) h

  -- latches from p on
  pub number-latch : (j : ℕ) → j < length c.latches → number_of c p q (var (latch_at c j).lit) ≡ p + j
  unfolding number_of
  number-latch j h =
      place_out c.inputs 1 (var (latch_at c j).lit) _ (λ i k e. input-latch c right i j k h e)
      ∙ ap (λ (x : ℕ). place_from latch_lits p (var x) (place_from gate_lits q (var (latch_at c j).lit) 0)) (sym (latch-lit j))
      ∙ place_at latch_lits p _ j (apart-latches c right) (simp length-map h)

  -- gates from q on
  pub number-gate : (i : ℕ) → i < length c.gates → number_of c p q (var (gate_at c i).lit) ≡ q + i
  unfolding number_of
  number-gate i h =
      let v = var (gate_at c i).lit in
      place_out c.inputs 1 v _ (λ k l e. input-gate c right k i l h e)
      ∙ place_out latch_lits p v _ (λ j l e. latch-gate c right j i (simp length-map at l) h (ap var (sym (latch-lit j)) ∙ e))
      ∙ ap (λ (x : ℕ). place_from gate_lits q (var x) 0) (sym (gate-lit i))
      ∙ place_at gate_lits q 0 i (apart-gates c right) (simp length-map h)

  -- what is not defined has the number 0
  pub number-none : (v : ℕ) → ((i : ℕ) → i < length c.inputs → var (input_at c i) ≡ v → ⊥)
      → ((j : ℕ) → j < length c.latches → var (latch_at c j).lit ≡ v → ⊥)
      → ((i : ℕ) → i < length c.gates → var (gate_at c i).lit ≡ v → ⊥) → number_of c p q v ≡ 0
  unfolding number_of
  number-none v ni nl ng =
      place_out c.inputs 1 v _ ni
      ∙ place_out latch_lits p v _ (λ j l e. nl j (simp length-map at l) (ap var (sym (latch-lit j)) ∙ e))
      ∙ place_out gate_lits q v _ (λ i l e. ng i (simp length-map at l) (ap var (sym (gate-lit i)) ∙ e))

  -- the constant keeps its number
  pub number-zero : number_of c p q 0 ≡ 0
  number-zero =
      number-none 0 (λ i h e. omega (arith, (definition c right (input_at c i) (input-in c i h)).0))
      (λ j h e. omega (arith, (definition c right (latch_at c j).lit (latch-in c j h)).0))
      (λ i h e. omega (arith, (definition c right (gate_at c i).lit (gate-in c i h)).0))
