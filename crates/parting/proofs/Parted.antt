-- A run of a joined circuit is a run of both circuits on the same inputs; a bad line is true where the outputs of its pair differ.
-- Assumes nothing.
use mathlib.Core.Path.{◌≡◌, refl, sym, ap, ap₂, ◌∙◌, subst}
use mathlib.Core.Bool.{Bool, true, false, not, cond, ◌&&◌, beq, not-not}
use mathlib.Core.List.{List, [], ◌∷◌, ◌++◌, map}
use mathlib.Core.Logic.{inl, inr}
use Prim.Native.Nat.{ℕ, zero, suc, ◌+◌, ◌*◌, ◌/◌, ◌%◌, ◌-◌, ◌≤◌, ◌<◌}
use native.Mathlib.Nat.{mod-lt}
use native.Mathlib.Omega.{arith}
use lib.Dec.{T}
use lib.ListN.{length, get_or, take, drop, length-map, length-append, get_or-append}
use lib.Seq.{get_or-append-add, get_or-take, get_or-drop}
use Rattle.aiger.specs.Lists.{every, upto}
use Rattle.aiger.specs.Circuit.{Circuit, Latch, Gate, var, literals_right, used_defined, acyclic}
use Rattle.aiger.specs.Frames.{Run, value_at}
use Rattle.meaning.proofs.Lists.{get_or-map, length-map-upto, get_d-map-upto}
use Rattle.meaning.proofs.Defined.{Known, no_latch, no_gate, input_at, latch_at, gate_at, output-known}
use Rattle.meaning.proofs.Values.{complement-value, gate-value}
use Rattle.meaning.proofs.Embedding.{Embeds, embedded-value}
use Rattle.joined.specs.Joined.{number_of, literal_under, latch_under, gate_under, complement, pair_gates, pairs_gates, first_number, second_number, pairs_from, joined}
use Rattle.parting.proofs.Numbers.{number-input, number-latch, number-gate, number-zero}
use Rattle.parting.proofs.Shape.{pairs-length}
use Rattle.parting.proofs.Accepted.{joined-right, joined-known}
use Rattle.parting.proofs.Acyclic.{under-var, joined-acyclic}

-- gate i of pair j
pub pairs-at : (v : ℕ) (ps qs : List ℕ) (j i : ℕ) → length ps ≡ length qs → j < length ps → i < 3
    → get_or (pairs_gates v ps qs) (3 * j + i) no_gate ≡ get_or (pair_gates (v + 3 * j) (get_or ps j 0) (get_or qs j 0)) i no_gate
unfolding pairs_gates
pairs-at v [] qs j i e h k = absurd (omega arith)
pairs-at v (p ∷ ps) [] j i e h k = absurd (omega arith)
pairs-at v (p ∷ ps) (q ∷ qs) zero i e h k =
    let z : 3 * 0 + i ≡ i = omega arith in
    let w : v + 3 * 0 ≡ v = omega arith in
    ap (λ (x : ℕ). get_or (pair_gates v p q ++ pairs_gates (v + 3) ps qs) x no_gate) z
    ∙ get_or-append (pair_gates v p q) (pairs_gates (v + 3) ps qs) no_gate i k ∙ ap (λ (x : ℕ). get_or (pair_gates x p q) i no_gate) (sym w)
pairs-at v (p ∷ ps) (q ∷ qs) (suc j) i e h k =
    let z : 3 * suc j + i ≡ 3 + (3 * j + i) = omega arith in
    let w : v + 3 + 3 * j ≡ v + 3 * suc j = omega arith in
    ap (λ (x : ℕ). get_or (pair_gates v p q ++ pairs_gates (v + 3) ps qs) x no_gate) z
    ∙ get_or-append-add (pair_gates v p q) (pairs_gates (v + 3) ps qs) (3 * j + i) no_gate
    ∙ pairs-at (v + 3) ps qs j i (omega arith) (omega arith) k
    ∙ ap (λ (x : ℕ). get_or (pair_gates x (get_or ps j 0) (get_or qs j 0)) i no_gate) w

differ : (x y : Bool) → not (not (x && not y) && not (not x && y)) ≡ not (beq x y)
differ true true = refl
differ true false = refl
differ false true = refl
differ false false = refl

-- the complement of a literal has the other value
pub complement-not : (c : Circuit) (r : Run) (t l : ℕ) → value_at c r t (complement l) ≡ not (value_at c r t l)
complement-not c r t l = go (l % 2) refl (mod-lt l (omega arith))
  where
    go : (m : ℕ) → l % 2 ≡ m → m < 2 → value_at c r t (complement l) ≡ not (value_at c r t l)
    go zero e h =
        let x : complement l ≡ 2 * var l + 1 = omega arith in
        let y : l ≡ 2 * var l = omega arith in
        ap (value_at c r t) x ∙ complement-value c r t (var l) ∙ ap (λ (k : ℕ). not (value_at c r t k)) (sym y)
    go (suc zero) e h =
        let x : complement l ≡ 2 * var l = omega arith in
        let y : l ≡ 2 * var l + 1 = omega arith in
        ap (value_at c r t) x ∙ sym (not-not (value_at c r t (2 * var l))) ∙ ap not (sym (complement-value c r t (var l))) ∙ ap (λ (k : ℕ). not (value_at c r t k)) (sym y)
    go (suc (suc m)) e h = absurd (omega arith)

-- the runs of the two circuits that a run of the joined one is, on the same inputs: the first circuit's latches come first
abbrev pub first_run : Circuit → Run → Run
first_run c s = record { start = take (length c.latches) s.start; rows = s.rows }

abbrev pub second_run : Circuit → Run → Run
second_run c s = record { start = drop (length c.latches) s.start; rows = s.rows }

module _ (c d : Circuit) (right : T (literals_right c)) (known : T (used_defined c)) (a : T (acyclic c)) (right' : T (literals_right d)) (known' : T (used_defined d))
    (a' : T (acyclic d)) (inputs : length c.inputs ≡ length d.inputs) (outputs : length c.outputs ≡ length d.outputs) where
  abbrev J : Circuit
  J = joined c d

  abbrev σ : ℕ → ℕ
  σ = first_number c d

  abbrev τ : ℕ → ℕ
  τ = second_number c d

  abbrev L : ℕ
  L = length c.latches

  abbrev A : ℕ
  A = length c.gates

  abbrev B : ℕ
  B = length d.gates

  abbrev ps : List ℕ
  ps = map (literal_under σ) c.outputs

  abbrev qs : List ℕ
  qs = map (literal_under τ) d.outputs

  abbrev pair_list : List Gate
  pair_list = pairs_gates (pairs_from c d) ps qs

  -- ---- the parts of the joined circuit by position

  input-at : (i : ℕ) → i < length c.inputs → (i < length J.inputs) × (input_at J i ≡ 2 * (i + 1))
  unfolding joined
  input-at i h =
      (omega (arith, length-map-upto (λ i. 2 * (i + 1)) (length c.inputs)), get_d-map-upto (λ i. 2 * (i + 1)) (length c.inputs) i 0 h)

  first-latch : (j : ℕ) → j < L → (j < length J.latches) × (latch_at J j ≡ latch_under σ (latch_at c j))
  unfolding joined
  first-latch j h =
      let xs = map (latch_under σ) c.latches in
      let ys = map (latch_under τ) d.latches in (
        omega (arith, length-append xs ys, length-map c.latches (latch_under σ)),
        get_or-append xs ys no_latch j (omega (arith, length-map c.latches (latch_under σ))) ∙ get_or-map (latch_under σ) c.latches j no_latch no_latch h,
      )

  second-latch : (j : ℕ) → j < length d.latches → (L + j < length J.latches) × (latch_at J (L + j) ≡ latch_under τ (latch_at d j))
  unfolding joined
  second-latch j h =
      let xs = map (latch_under σ) c.latches in
      let ys = map (latch_under τ) d.latches in
      let n : length xs ≡ L = length-map c.latches (latch_under σ) in (
        omega (arith, length-append xs ys, n, length-map d.latches (latch_under τ)),
        ap (λ (k : ℕ). get_or (xs ++ ys) (k + j) no_latch) (sym n) ∙ get_or-append-add xs ys j no_latch ∙ get_or-map (latch_under τ) d.latches j no_latch no_latch h,
      )

  gate-count : length J.gates ≡ A + B + 3 * length c.outputs
  unfolding joined
  gate-count =
      let xs = map (gate_under σ) c.gates in
      let ys = map (gate_under τ) d.gates in
      let same : length ps ≡ length qs = length-map c.outputs (literal_under σ) ∙ outputs ∙ sym (length-map d.outputs (literal_under τ)) in
      omega (
        arith,
        length-append (xs ++ ys) pair_list,
        length-append xs ys,
        length-map c.gates (gate_under σ),
        length-map d.gates (gate_under τ),
        pairs-length (pairs_from c d) ps qs same,
        length-map c.outputs (literal_under σ),
      )

  first-gate : (i : ℕ) → i < A → gate_at J i ≡ gate_under σ (gate_at c i)
  unfolding joined
  first-gate i h =
      let xs = map (gate_under σ) c.gates in
      let ys = map (gate_under τ) d.gates in
      let n : length xs ≡ A = length-map c.gates (gate_under σ) in
      get_or-append (xs ++ ys) pair_list no_gate i (omega (arith, length-append xs ys)) ∙ get_or-append xs ys no_gate i (omega arith)
      ∙ get_or-map (gate_under σ) c.gates i no_gate no_gate h

  second-gate : (i : ℕ) → i < B → gate_at J (A + i) ≡ gate_under τ (gate_at d i)
  unfolding joined
  second-gate i h =
      let xs = map (gate_under σ) c.gates in
      let ys = map (gate_under τ) d.gates in
      let n : length xs ≡ A = length-map c.gates (gate_under σ) in
      get_or-append (xs ++ ys) pair_list no_gate (A + i) (omega (arith, length-append xs ys, length-map d.gates (gate_under τ)))
      ∙ ap (λ (k : ℕ). get_or (xs ++ ys) (k + i) no_gate) (sym n) ∙ get_or-append-add xs ys i no_gate ∙ get_or-map (gate_under τ) d.gates i no_gate no_gate h

  pair-gate : (j i : ℕ) → j < length c.outputs → i < 3
      → gate_at J (A + B + (3 * j + i)) ≡ get_or (pair_gates (pairs_from c d + 3 * j) (literal_under σ (get_or c.outputs j 0)) (literal_under τ (get_or d.outputs j 0))) i no_gate
  unfolding joined
  pair-gate j i h k =
      let xs = map (gate_under σ) c.gates in
      let ys = map (gate_under τ) d.gates in
      let n : length (xs ++ ys) ≡ A + B = length-append xs ys ∙ ap₂ (λ (x y : ℕ). x + y) (length-map c.gates (gate_under σ)) (length-map d.gates (gate_under τ)) in
      let m : length ps ≡ length c.outputs = length-map c.outputs (literal_under σ) in
      let same : length ps ≡ length qs = m ∙ outputs ∙ sym (length-map d.outputs (literal_under τ)) in
      ap (λ (x : ℕ). get_or (xs ++ ys ++ pair_list) (x + (3 * j + i)) no_gate) (sym n) ∙ get_or-append-add (xs ++ ys) pair_list (3 * j + i) no_gate
      ∙ pairs-at (pairs_from c d) ps qs j i same (omega arith) k
      ∙ ap₂ (λ (p q : ℕ). get_or (pair_gates (pairs_from c d + 3 * j) p q) i no_gate) (get_or-map (literal_under σ) c.outputs j 0 0 h)
      (get_or-map (literal_under τ) d.outputs j 0 0 (omega arith))

  bad-at : (j : ℕ) → j < length c.outputs → get_or J.bads j 0 ≡ 2 * (pairs_from c d + 3 * j + 2) + 1
  unfolding joined
  bad-at j h = get_d-map-upto (λ j. 2 * (pairs_from c d + 3 * j + 2) + 1) (length c.outputs) j 0 h

  -- the first circuit stands in the joined one
  first-embeds : Embeds c J σ (λ i. i) (λ j. j)
  first-embeds =
      record {
        zero = number-zero c right _ _;
        input = λ i h. ((input-at i h).0, ap var (input-at i h).1 ∙ omega (arith, number-input c right (length c.inputs + 1) (length c.inputs + L + length d.latches + 1) i h));
        latch = λ j h. ((first-latch j h).0, ap (λ (l : Latch). var l.lit) (first-latch j h).1 ∙ under-var σ (latch_at c j).lit);
        next = λ j h. ap (λ (l : Latch). l.next) (first-latch j h).1;
        gate = λ i h. (i, omega (arith, gate-count), ap (λ (g : Gate). var g.lit) (first-gate i h) ∙ under-var σ (gate_at c i).lit, inl (ap (λ (g : Gate). g.left) (first-gate i h), ap (λ (g : Gate). g.right) (first-gate i h)));
      }

  -- and the second
  second-embeds : Embeds d J τ (λ i. i) (λ j. L + j)
  second-embeds =
      record {
        zero = number-zero d right' _ _;
        input = λ i h. (
          (input-at i (omega arith)).0,
          ap var (input-at i (omega arith)).1
              ∙ omega (arith, number-input d right' (length c.inputs + L + 1) (length c.inputs + L + length d.latches + A + 1) i h),
        );
        latch = λ j h. ((second-latch j h).0, ap (λ (l : Latch). var l.lit) (second-latch j h).1 ∙ under-var τ (latch_at d j).lit);
        next = λ j h. ap (λ (l : Latch). l.next) (second-latch j h).1;
        gate = λ i h. (A + i, omega (arith, gate-count), ap (λ (g : Gate). var g.lit) (second-gate i h) ∙ under-var τ (gate_at d i).lit, inl (ap (λ (g : Gate). g.left) (second-gate i h), ap (λ (g : Gate). g.right) (second-gate i h)));
      }

  -- ---- runs

  J-right : T (literals_right J)
  J-right = joined-right c d inputs outputs right right'

  J-acyclic : T (acyclic J)
  J-acyclic = joined-acyclic c d right known a right' known' a' inputs outputs

  module _ (s : Run) (t : ℕ) where
    -- a literal has in each circuit's run the value that it has, renumbered, in the joined one's
    pub first-value : (l : ℕ) → Known c (var l) → value_at c (first_run c s) t l ≡ value_at J s t (literal_under σ l)
    first-value l k =
        embedded-value c J σ (λ i. i) (λ j. j) first-embeds right known a J-right J-acyclic (first_run c s) s (λ j h. get_or-take L s.start j false h) (λ u i h. refl) t l k

    pub second-value : (l : ℕ) → Known d (var l) → value_at d (second_run c s) t l ≡ value_at J s t (literal_under τ l)
    second-value l k =
        embedded-value d J τ (λ i. i) (λ j. L + j) second-embeds right' known' a' J-right J-acyclic (second_run c s) s (λ j h. get_or-drop L s.start j false) (λ u i h. refl) t l k

    -- the outputs of pair j
    abbrev first_output : ℕ → Bool
    first_output j = value_at c (first_run c s) t (get_or c.outputs j 0)

    abbrev second_output : ℕ → Bool
    second_output j = value_at d (second_run c s) t (get_or d.outputs j 0)

    gate-at : (k : ℕ) (g : Gate) → k < length J.gates → gate_at J k ≡ g → value_at J s t g.lit ≡ (value_at J s t g.left && value_at J s t g.right)
    gate-at k g h e = subst (λ (x : Gate). value_at J s t x.lit ≡ (value_at J s t x.left && value_at J s t x.right)) e (gate-value J s t J-right J-acyclic k h)

    opposite : (l : ℕ) → value_at J s t (complement l) ≡ not (value_at J s t l)
    opposite l = complement-not J s t l

    -- bad line j of the joined circuit is true exactly when the two outputs differ
    pub bad-value : (j : ℕ) → j < length c.outputs → value_at J s t (get_or J.bads j 0)
        ≡ not (beq (value_at c (first_run c s) t (get_or c.outputs j 0)) (value_at d (second_run c s) t (get_or d.outputs j 0)))
    bad-value j h =
        let v = pairs_from c d + 3 * j in
        let p = literal_under σ (get_or c.outputs j 0) in
        let q = literal_under τ (get_or d.outputs j 0) in
        let val = value_at J s t in
        let g0 : val (2 * v) ≡ (val p && val (complement q)) = gate-at (A + B + (3 * j + 0)) _ (omega (arith, gate-count)) (pair-gate j 0 h (omega arith)) in
        let g1 : val (2 * (v + 1)) ≡ (val (complement p) && val q) = gate-at (A + B + (3 * j + 1)) _ (omega (arith, gate-count)) (pair-gate j 1 h (omega arith)) in
        let g2 : val (2 * (v + 2)) ≡ (val (2 * v + 1) && val (2 * (v + 1) + 1)) = gate-at (A + B + (3 * j + 2)) _ (omega (arith, gate-count)) (pair-gate j 2 h (omega arith)) in
        let x = first_output j in
        let y = second_output j in
        let fx : val p ≡ x = sym (first-value (get_or c.outputs j 0) (output-known c known j)) in
        let fy : val q ≡ y = sym (second-value (get_or d.outputs j 0) (output-known d known' j)) in
        let m0 : val (2 * v) ≡ (x && not y) = g0 ∙ ap₂ (λ (i k : Bool). i && k) fx (opposite q ∙ ap not fy) in
        let m1 : val (2 * (v + 1)) ≡ (not x && y) = g1 ∙ ap₂ (λ (i k : Bool). i && k) (opposite p ∙ ap not fx) fy in
        let m2 : val (2 * (v + 2)) ≡ (not (x && not y) && not (not x && y)) =
        g2 ∙ ap₂ (λ (i k : Bool). i && k) (complement-value J s t v ∙ ap not m0) (complement-value J s t (v + 1) ∙ ap not m1) in
        ap val (bad-at j h) ∙ complement-value J s t (v + 2) ∙ ap not m2 ∙ differ x y
