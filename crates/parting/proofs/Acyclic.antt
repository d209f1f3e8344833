-- The gates of a joined circuit by position, and that none depends on itself. Assumes nothing.
use mathlib.Core.Path.{◌≡◌, refl, sym, ap, ap₂, ◌∙◌, subst}
use mathlib.Core.Bool.{Bool, true, false, cond}
use mathlib.Core.List.{List, [], ◌∷◌, ◌++◌, map}
use Prim.Native.Nat.{ℕ, zero, suc, ◌+◌, ◌*◌, ◌/◌, ◌%◌, ◌-◌, ◌≤◌, ◌<◌}
use native.Mathlib.Nat.{not-suc-le-zero}
use native.Mathlib.Decide.{dec_lt}
use native.Mathlib.Omega.{arith}
use borrow.Author.Tests.{lt-ltb, le-ltb}
use lib.Dec.{T, ltb}
use lib.ListN.{length, get_or, length-map, length-append, get_or-append}
use lib.Seq.{get_or-append-add}
use Rattle.aiger.specs.Circuit.{Circuit, Latch, Gate, var, literals_right, used_defined, acyclic}
use Rattle.meaning.proofs.Lists.{get_or-map}
use Rattle.meaning.proofs.Defined.{Known, constant, input, latch, gate, no_gate, input_at, latch_at, gate_at, left-known, right-known, output-known}
use Rattle.meaning.proofs.Cycles.{ranked}
use Rattle.joined.specs.Joined.{number_of, literal_under, gate_under, complement, pair_gates, pairs_gates, first_number, second_number, pairs_from, joined}
use Rattle.parting.proofs.Numbers.{number-input, number-latch, number-gate, number-zero}
use Rattle.parting.proofs.Ranks.{rank, rank_most, left-rank, right-rank}

-- what holds of each element of two lists holds of each of both
pub two-parts : {A : Type 0} (P : A → Type 0) (xs ys : List A) (d : A) → ((i : ℕ) → i < length xs → P (get_or xs i d)) → ((i : ℕ) → i < length ys → P (get_or ys i d))
    → (i : ℕ) → i < length (xs ++ ys) → P (get_or (xs ++ ys) i d)
two-parts P xs ys d p q i h =
    elim (dec_lt i (length xs)) [
      | yes l ↦ subst P (sym (get_or-append xs ys d i l)) (p i l)
      | no l ↦
          let e : length xs + (i - length xs) ≡ i = omega arith in
          subst (λ (k : ℕ). P (get_or (xs ++ ys) k d)) e
          (subst P (sym (get_or-append-add xs ys (i - length xs) d)) (q (i - length xs) (omega (arith, length-append xs ys))))
    ]

-- what holds of the gates of each pair holds of each of all pairs' gates
pub pairs-all : (P : Gate → Type 0) (v : ℕ) (ps qs : List ℕ)
    → ((j : ℕ) → j < length ps → (i : ℕ) → i < 3 → P (get_or (pair_gates (v + 3 * j) (get_or ps j 0) (get_or qs j 0)) i no_gate))
    → (i : ℕ) → i < length (pairs_gates v ps qs) → P (get_or (pairs_gates v ps qs) i no_gate)
unfolding pairs_gates
pairs-all P v [] qs h = λ i k. absurd (not-suc-le-zero k)
pairs-all P v (p ∷ ps) [] h = λ i k. absurd (not-suc-le-zero k)
pairs-all P v (p ∷ ps) (q ∷ qs) h =
    let z : v + 3 * 0 ≡ v = omega arith in
    two-parts P (pair_gates v p q) (pairs_gates (v + 3) ps qs) no_gate
    (λ i k. subst (λ (x : ℕ). P (get_or (pair_gates x p q) i no_gate)) z (h 0 (omega arith) i k))
    (pairs-all P (v + 3) ps qs
    (λ j k i m.
    let e : v + 3 * suc j ≡ v + 3 + 3 * j = omega arith in
    subst (λ (x : ℕ). P (get_or (pair_gates x (get_or ps j 0) (get_or qs j 0)) i no_gate)) e (h (suc j) (omega arith) i m)))

pub under-var : (σ : ℕ → ℕ) (l : ℕ) → var (literal_under σ l) ≡ σ (var l)
under-var σ l = omega arith

complement-var : (l : ℕ) → var (complement l) ≡ var l
complement-var l = omega arith

module _ (c d : Circuit) (right : T (literals_right c)) (known : T (used_defined c)) (a : T (acyclic c)) (right' : T (literals_right d)) (known' : T (used_defined d))
    (a' : T (acyclic d)) (inputs : length c.inputs ≡ length d.inputs) (outputs : length c.outputs ≡ length d.outputs) where
  abbrev A : ℕ
  A = length c.gates

  abbrev B : ℕ
  B = length d.gates

  -- the variables of the first circuit's first gate, of the second's, and of the pairs'
  abbrev first : ℕ
  first = length c.inputs + length c.latches + length d.latches + 1

  abbrev second : ℕ
  second = length c.inputs + length c.latches + length d.latches + A + 1

  abbrev third : ℕ
  third = pairs_from c d

  abbrev σ : ℕ → ℕ
  σ = first_number c d

  abbrev τ : ℕ → ℕ
  τ = second_number c d

  abbrev rank_first : ℕ → ℕ
  rank_first v = rank c right a (var (gate_at c (v - first)).lit)

  abbrev rank_second : ℕ → ℕ
  rank_second v = rank d right' a' (var (gate_at d (v - second)).lit)

  unfoldable rank_of : ℕ → ℕ
  rank_of v = cond (ltb v first) 0 (cond (ltb v second) (rank_first v) (cond (ltb v third) (rank_second v) (A + B + 1 + (v - third))))

  rank-leaf : (v : ℕ) → v < first → rank_of v ≡ 0
  unfolding rank_of
  rank-leaf v h = rw (lt-ltb v first h) refl

  rank-first : (i : ℕ) → i < A → rank_of (first + i) ≡ rank c right a (var (gate_at c i).lit)
  unfolding rank_of
  rank-first i h =
      let e : first + i - first ≡ i = omega arith in
      rw (le-ltb (first + i) first (omega arith), lt-ltb (first + i) second (omega arith)) (ap (λ (k : ℕ). rank c right a (var (gate_at c k).lit)) e)

  rank-second : (i : ℕ) → i < B → rank_of (second + i) ≡ rank d right' a' (var (gate_at d i).lit)
  unfolding rank_of
  rank-second i h =
      let e : second + i - second ≡ i = omega arith in
      rw (le-ltb (second + i) first (omega arith), le-ltb (second + i) second (omega arith), lt-ltb (second + i) third (omega arith))
      (ap (λ (k : ℕ). rank d right' a' (var (gate_at d k).lit)) e)

  rank-third : (k : ℕ) → rank_of (third + k) ≡ A + B + 1 + k
  unfolding rank_of
  rank-third k =
      rw (le-ltb (third + k) first (omega arith), le-ltb (third + k) second (omega arith), le-ltb (third + k) third (omega arith)) (omega arith)

  -- a number's rank is at most that of its variable
  below-first : (v : ℕ) → Known c v → rank_of (σ v) ≤ rank c right a v
  below-first v (constant e) = let z = ap rank_of (ap σ e ∙ number-zero c right _ _) ∙ rank-leaf 0 (omega arith) in omega arith
  below-first v (input i h e) = let z = ap rank_of (ap σ (sym e) ∙ number-input c right _ _ i h) ∙ rank-leaf (1 + i) (omega arith) in omega arith
  below-first v (latch j h e) =
      let z = ap rank_of (ap σ (sym e) ∙ number-latch c right _ _ j h) ∙ rank-leaf (length c.inputs + 1 + j) (omega arith) in omega arith
  below-first v (gate i h e) =
      let z = ap rank_of (ap σ (sym e) ∙ number-gate c right _ _ i h) ∙ rank-first i h in
      let w = ap (rank c right a) e in omega arith

  below-second : (v : ℕ) → Known d v → rank_of (τ v) ≤ rank d right' a' v
  below-second v (constant e) = let z = ap rank_of (ap τ e ∙ number-zero d right' _ _) ∙ rank-leaf 0 (omega arith) in omega arith
  below-second v (input i h e) = let z = ap rank_of (ap τ (sym e) ∙ number-input d right' _ _ i h) ∙ rank-leaf (1 + i) (omega arith) in omega arith
  below-second v (latch j h e) =
      let z = ap rank_of (ap τ (sym e) ∙ number-latch d right' _ _ j h) ∙ rank-leaf (length c.inputs + length c.latches + 1 + j) (omega arith) in omega arith
  below-second v (gate i h e) =
      let z = ap rank_of (ap τ (sym e) ∙ number-gate d right' _ _ i h) ∙ rank-second i h in
      let w = ap (rank d right' a') e in omega arith

  -- the operands of a gate have lower ranks
  abbrev Lower : Gate → Type 0
  Lower g = (rank_of (var g.left) < rank_of (var g.lit)) × (rank_of (var g.right) < rank_of (var g.lit))

  lower-first : (i : ℕ) → i < length (map (gate_under σ) c.gates) → Lower (get_or (map (gate_under σ) c.gates) i no_gate)
  lower-first i h =
      let k : i < A = omega (arith, length-map c.gates (gate_under σ)) in
      let g = gate_at c i in
      let own : rank_of (var (literal_under σ g.lit)) ≡ rank c right a (var g.lit) =
      ap rank_of (under-var σ g.lit ∙ number-gate c right _ _ i k) ∙ rank-first i k in
      let l = ap rank_of (under-var σ g.left) in
      let r = ap rank_of (under-var σ g.right) in
      subst Lower (sym (get_or-map (gate_under σ) c.gates i no_gate no_gate k)) (
        omega (arith, own, l, below-first (var g.left) (left-known c known i), left-rank c right a i k),
        omega (arith, own, r, below-first (var g.right) (right-known c known i), right-rank c right a i k),
      )

  lower-second : (i : ℕ) → i < length (map (gate_under τ) d.gates) → Lower (get_or (map (gate_under τ) d.gates) i no_gate)
  lower-second i h =
      let k : i < B = omega (arith, length-map d.gates (gate_under τ)) in
      let g = gate_at d i in
      let own : rank_of (var (literal_under τ g.lit)) ≡ rank d right' a' (var g.lit) =
      ap rank_of (under-var τ g.lit ∙ number-gate d right' _ _ i k) ∙ rank-second i k in
      let l = ap rank_of (under-var τ g.left) in
      let r = ap rank_of (under-var τ g.right) in
      subst Lower (sym (get_or-map (gate_under τ) d.gates i no_gate no_gate k)) (
        omega (arith, own, l, below-second (var g.left) (left-known d known' i), left-rank d right' a' i k),
        omega (arith, own, r, below-second (var g.right) (right-known d known' i), right-rank d right' a' i k),
      )

  abbrev ps : List ℕ
  ps = map (literal_under σ) c.outputs

  abbrev qs : List ℕ
  qs = map (literal_under τ) d.outputs

  -- an output's rank is below those of the pairs
  low_first : (j : ℕ) → j < length ps → rank_of (var (get_or ps j 0)) ≤ A
  low_first j h =
      let n : j < length c.outputs = omega (arith, length-map c.outputs (literal_under σ)) in
      let o = get_or c.outputs j 0 in
      let e = ap (λ (l : ℕ). rank_of (var l)) (get_or-map (literal_under σ) c.outputs j 0 0 n) ∙ ap rank_of (under-var σ o) in
      omega (arith, e, below-first (var o) (output-known c known j), rank_most c right a (var o))

  low_second : (j : ℕ) → j < length ps → rank_of (var (get_or qs j 0)) ≤ B
  low_second j h =
      let n : j < length d.outputs = omega (arith, length-map c.outputs (literal_under σ)) in
      let o = get_or d.outputs j 0 in
      let e = ap (λ (l : ℕ). rank_of (var l)) (get_or-map (literal_under τ) d.outputs j 0 0 n) ∙ ap rank_of (under-var τ o) in
      omega (arith, e, below-second (var o) (output-known d known' j), rank_most d right' a' (var o))

  rank-at : (v k : ℕ) → v ≡ third + k → rank_of v ≡ A + B + 1 + k
  rank-at v k e = ap rank_of e ∙ rank-third k

  lower-pair : (j : ℕ) → j < length ps → (i : ℕ) → i < 3 → Lower (get_or (pair_gates (third + 3 * j) (get_or ps j 0) (get_or qs j 0)) i no_gate)
  lower-pair j h zero k =
      let own = rank-at (var (2 * (third + 3 * j))) (3 * j) (omega arith) in
      let q = ap rank_of (complement-var (get_or qs j 0)) in
      (omega (arith, own, low_first j h), omega (arith, own, q, low_second j h))
  lower-pair j h (suc zero) k =
      let own = rank-at (var (2 * (third + 3 * j + 1))) (3 * j + 1) (omega arith) in
      let p = ap rank_of (complement-var (get_or ps j 0)) in
      (omega (arith, own, p, low_first j h), omega (arith, own, low_second j h))
  lower-pair j h (suc (suc zero)) k =
      let own = rank-at (var (2 * (third + 3 * j + 2))) (3 * j + 2) (omega arith) in
      let l = rank-at (var (2 * (third + 3 * j) + 1)) (3 * j) (omega arith) in
      let r = rank-at (var (2 * (third + 3 * j + 1) + 1)) (3 * j + 1) (omega arith) in
      (omega (arith, own, l), omega (arith, own, r))
  lower-pair j h (suc (suc (suc i))) k = absurd (omega arith)

  -- number 8 is no cause
  pub joined-acyclic : T (acyclic (joined c d))
  unfolding joined
  joined-acyclic =
      let xs = map (gate_under σ) c.gates in
      let ys = map (gate_under τ) d.gates in
      ranked (joined c d) rank_of
      (two-parts Lower (xs ++ ys) (pairs_gates third ps qs) no_gate (two-parts Lower xs ys no_gate lower-first lower-second) (pairs-all Lower third ps qs lower-pair))
