-- The definitions of a joined circuit are the literals 2, 4 and so on, in order. Assumes nothing.
use mathlib.Core.Path.{◌≡◌, refl, sym, ap, ap₂, ◌∙◌}
use mathlib.Core.List.{List, [], ◌∷◌, ◌++◌, map, map-append}
use Prim.Native.Nat.{ℕ, zero, suc, ◌+◌, ◌*◌, ◌<◌}
use native.Mathlib.Nat.{not-suc-le-zero}
use native.Mathlib.Omega.{arith}
use lib.Dec.{T}
use lib.ListN.{length, get_or, length-map}
use Rattle.aiger.specs.Lists.{upto}
use Rattle.aiger.specs.Circuit.{Circuit, defined, literals_right}
use Rattle.meaning.proofs.Lists.{length-map-upto, get_d-map-upto}
use Rattle.meaning.proofs.Defined.{no_latch, no_gate, latch_at, gate_at, definition, latch-in, gate-in}
use Rattle.joined.specs.Joined.{number_of, literal_under, latch_under, gate_under, pairs_gates, first_number, second_number, pairs_from, joined}
use Rattle.parting.proofs.Numbers.{number-latch, number-gate}

-- n even literals, those of the variables from s on
unfoldable pub evens : ℕ → ℕ → List ℕ
evens s zero = []
evens s (suc n) = 2 * s ∷ evens (s + 1) n

pub evens-of : (xs : List ℕ) (s : ℕ) → ((i : ℕ) → i < length xs → get_or xs i 0 ≡ 2 * (s + i)) → xs ≡ evens s (length xs)
unfolding evens
evens-of [] s h = refl
evens-of (x ∷ xs) s h =
    ap₂ ◌∷◌ (h 0 (omega arith) ∙ omega arith) (evens-of xs (s + 1) (λ i k. h (suc i) (omega arith) ∙ omega arith))

map-evens : {A : Type 0} (f : A → A) (lit : A → ℕ) (xs : List A) (none : A) (s : ℕ)
    → ((i : ℕ) → i < length xs → lit (f (get_or xs i none)) ≡ 2 * (s + i)) → map lit (map f xs) ≡ evens s (length xs)
unfolding evens
map-evens f lit [] none s h = refl
map-evens f lit (x ∷ xs) none s h =
    ap₂ ◌∷◌ (h 0 (omega arith) ∙ omega arith) (map-evens f lit xs none (s + 1) (λ i k. h (suc i) (omega arith) ∙ omega arith))

pub evens-append : (s n k : ℕ) → evens s n ++ evens (s + n) k ≡ evens s (n + k)
unfolding evens
evens-append s zero k =
    let e : s + 0 ≡ s = omega arith in
    let f : 0 + k ≡ k = omega arith in
    ap (λ (x : ℕ). evens x k) e ∙ ap (evens s) (sym f)
evens-append s (suc n) k =
    let e : s + suc n ≡ s + 1 + n = omega arith in
    let f : suc n + k ≡ suc (n + k) = omega arith in
    ap (λ (x : ℕ). 2 * s ∷ (evens (s + 1) n ++ evens x k)) e ∙ ap (λ (l : List ℕ). 2 * s ∷ l) (evens-append (s + 1) n k) ∙ ap (evens s) (sym f)

pub evens_at : (s n i : ℕ) → i < n → get_or (evens s n) i 0 ≡ 2 * (s + i)
unfolding evens
evens_at s zero i h = absurd (not-suc-le-zero h)
evens_at s (suc n) zero h = omega arith
evens_at s (suc n) (suc i) h = evens_at (s + 1) n i (omega arith) ∙ omega arith

pub evens-length : (s n : ℕ) → length (evens s n) ≡ n
unfolding evens
evens-length s zero = refl
evens-length s (suc n) = ap suc (evens-length (s + 1) n)

-- the literals of the gates of the pairs
pub pairs-evens : (v : ℕ) (ps qs : List ℕ) → length ps ≡ length qs → map (λ g. g.lit) (pairs_gates v ps qs) ≡ evens v (3 * length ps)
unfolding pairs_gates evens
pairs-evens v [] qs h = refl
pairs-evens v (p ∷ ps) [] h = absurd (omega arith)
pairs-evens v (p ∷ ps) (q ∷ qs) h =
    let e : 3 * suc (length ps) ≡ suc (suc (suc (3 * length ps))) = omega arith in
    let f : v + 3 ≡ v + 1 + 1 + 1 = omega arith in
    let g : 2 * (v + 2) ≡ 2 * (v + 1 + 1) = omega arith in
    ap (λ (x : ℕ). 2 * v ∷ 2 * (v + 1) ∷ x ∷ map (λ g. g.lit) (pairs_gates (v + 3) ps qs)) g
    ∙ ap (λ (l : List ℕ). 2 * v ∷ 2 * (v + 1) ∷ 2 * (v + 1 + 1) ∷ l) (pairs-evens (v + 3) ps qs (omega arith) ∙ ap (λ (x : ℕ). evens x (3 * length ps)) f)
    ∙ ap (evens v) (sym e)

pub pairs-length : (v : ℕ) (ps qs : List ℕ) → length ps ≡ length qs → length (pairs_gates v ps qs) ≡ 3 * length ps
pairs-length v ps qs h =
    sym (length-map (pairs_gates v ps qs) (λ g. g.lit)) ∙ ap length (pairs-evens v ps qs h) ∙ evens-length v (3 * length ps)

module _ (c : Circuit) (right : T (literals_right c)) (p q : ℕ) where
  abbrev number : ℕ → ℕ
  number = number_of c p q

  latch-even : (j : ℕ) → j < length c.latches → literal_under number (latch_at c j).lit ≡ 2 * (p + j)
  latch-even j h = omega (arith, number-latch c right p q j h, (definition c right (latch_at c j).lit (latch-in c j h)).1)

  gate-even : (i : ℕ) → i < length c.gates → literal_under number (gate_at c i).lit ≡ 2 * (q + i)
  gate-even i h = omega (arith, number-gate c right p q i h, (definition c right (gate_at c i).lit (gate-in c i h)).1)

  -- the literals of the renumbered latches and gates
  pub latches-evens : map (λ l. l.lit) (map (latch_under number) c.latches) ≡ evens p (length c.latches)
  latches-evens = map-evens (latch_under number) (λ l. l.lit) c.latches no_latch p latch-even

  pub gates-evens : map (λ g. g.lit) (map (gate_under number) c.gates) ≡ evens q (length c.gates)
  gates-evens = map-evens (gate_under number) (λ g. g.lit) c.gates no_gate q gate-even

module _ (c d : Circuit) (right : T (literals_right c)) (right' : T (literals_right d)) (outputs : length c.outputs ≡ length d.outputs) where
  inputs-evens : map (λ i. 2 * (i + 1)) (upto (length c.inputs)) ≡ evens 1 (length c.inputs)
  inputs-evens =
      let n = length c.inputs in
      let l : length (map (λ i. 2 * (i + 1)) (upto n)) ≡ n = length-map-upto (λ i. 2 * (i + 1)) n in
      evens-of (map (λ i. 2 * (i + 1)) (upto n)) 1 (λ i h. get_d-map-upto (λ i. 2 * (i + 1)) n i 0 (omega arith) ∙ omega arith) ∙ ap (evens 1) l

  -- the variables of a joined circuit's definitions are 1 to M, in order
  pub joined-defined : defined (joined c d) ≡ evens 1 (joined c d).max_var
  unfolding defined joined
  joined-defined =
      let I = length c.inputs in
      let L = length c.latches in
      let K = length d.latches in
      let A = length c.gates in
      let B = length d.gates in
      let O = length c.outputs in
      let σ = first_number c d in
      let τ = second_number c d in
      let ps = map (literal_under σ) c.outputs in
      let qs = map (literal_under τ) d.outputs in
      let same : length ps ≡ length qs = length-map c.outputs (literal_under σ) ∙ outputs ∙ sym (length-map d.outputs (literal_under τ)) in
      let latches : map (λ l. l.lit) (map (latch_under σ) c.latches ++ map (latch_under τ) d.latches) ≡ evens (1 + I) (L + K) =
      map-append (λ l. l.lit) (map (latch_under σ) c.latches) (map (latch_under τ) d.latches)
      ∙ ap₂ (λ (x y : List ℕ). x ++ y) (latches-evens c right (I + 1) (I + L + K + 1)) (latches-evens d right' (I + L + 1) (I + L + K + A + 1))
      ∙ ap₂ (λ (x y : ℕ). evens x L ++ evens y K) (omega arith) (omega arith) ∙ evens-append (1 + I) L K in
      let pairs : map (λ g. g.lit) (pairs_gates (pairs_from c d) ps qs) ≡ evens (1 + I + L + K + A + B) (3 * O) =
      pairs-evens (pairs_from c d) ps qs same ∙ ap₂ evens (omega arith) (ap (λ (n : ℕ). 3 * n) (length-map c.outputs (literal_under σ))) in
      let both : map (λ g. g.lit) (map (gate_under σ) c.gates ++ map (gate_under τ) d.gates) ≡ evens (1 + I + (L + K)) (A + B) =
      map-append (λ g. g.lit) (map (gate_under σ) c.gates) (map (gate_under τ) d.gates)
      ∙ ap₂ (λ (x y : List ℕ). x ++ y) (gates-evens c right (I + 1) (I + L + K + 1)) (gates-evens d right' (I + L + 1) (I + L + K + A + 1))
      ∙ ap₂ (λ (x y : ℕ). evens x A ++ evens y B) (omega arith) (omega arith) ∙ evens-append (1 + I + (L + K)) A B in
      let gates : map (λ g. g.lit) (map (gate_under σ) c.gates ++ map (gate_under τ) d.gates ++ pairs_gates (pairs_from c d) ps qs)
      ≡ evens (1 + (I + (L + K))) (A + B + 3 * O) =
      map-append (λ g. g.lit) (map (gate_under σ) c.gates ++ map (gate_under τ) d.gates) (pairs_gates (pairs_from c d) ps qs)
      ∙ ap₂ (λ (x y : List ℕ). x ++ y) both pairs
      ∙ ap₂ (λ (x y : ℕ). evens x (A + B) ++ evens y (3 * O)) (omega arith) (omega arith) ∙ evens-append (1 + (I + (L + K))) (A + B) (3 * O) in
      ap₂ (λ (x y : List ℕ). x ++ y) (ap₂ (λ (x y : List ℕ). x ++ y) inputs-evens latches ∙ evens-append 1 I (L + K)) gates
      ∙ evens-append 1 (I + (L + K)) (A + B + 3 * O) ∙ ap (evens 1) (omega arith)
