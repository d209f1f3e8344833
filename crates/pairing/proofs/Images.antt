-- The words of all sections are the content of the joined circuit. Assumes nothing.
use mathlib.Core.Path.{◌≡◌, refl, sym, ap, ap₂, ◌∙◌, subst₂}
use mathlib.Core.List.{List, [], ◌∷◌, ◌++◌, map, append_assoc, append-nil}
use Prim.Native.Nat.{ℕ, zero, suc, ◌+◌, ◌*◌, ◌/◌, ◌%◌, ◌<◌}
use native.Mathlib.Omega.{arith}
use lib.ListN.{length, get_or, length-map, length-append}
use Rattle.aiger.specs.Lists.{upto, from}
use Rattle.aiger.specs.Circuit.{Circuit, Latch, Gate}
use Rattle.aiger.specs.Memory.{Holds, latch_words, gate_words, content}
use Rattle.aiger.specs.Write.{count_row}
use Rattle.layout.specs.Words.{word, outputs_at, circuit_in}
use Rattle.layout.specs.Layout.{LayoutOf}
use Rattle.layout.specs.declared.Layout.{Layout}
use Rattle.roundtrip.proofs.Lists.{upto-length, upto-get}
use Rattle.meaning.proofs.Lists.{map-upto-eq, get_or-map, length-map-upto}
use Rattle.frames.proofs.Facts.{latch-count, gate-count, constraint-count}
use Rattle.joined.specs.Joined.{literal_under, latch_under, gate_under, complement, pairs_gates, first_number, second_number, pairs_from, joined}
use Rattle.renumber.specs.Names.{under, Named}
use Rattle.pairing.specs.Words.{CountsAre, renamed_words, pair_word, pairs_word, count_words, definition_words, property_words}
use Rattle.pairing.specs.Words.{gate_words_of, pairs_var}
use Rattle.parting.proofs.Shape.{pairs-length}
use Rattle.renumber.proofs.Naming.{input-count}
use Rattle.pairing.proofs.Contents.{latches-renamed, gates-renamed, constraints-renamed, outputs-renamed}

latch-words-append : (xs ys : List Latch) → latch_words (xs ++ ys) ≡ latch_words xs ++ latch_words ys
unfolding latch_words
latch-words-append [] ys = refl
latch-words-append (x ∷ xs) ys = ap (λ (w : List ℕ). x.lit ∷ x.next ∷ x.reset ∷ w) (latch-words-append xs ys)

gate-words-append : (xs ys : List Gate) → gate_words (xs ++ ys) ≡ gate_words xs ++ gate_words ys
unfolding gate_words
gate-words-append [] ys = refl
gate-words-append (x ∷ xs) ys = ap (λ (w : List ℕ). x.lit ∷ x.left ∷ x.right ∷ w) (gate-words-append xs ys)

-- the first n of n + k values, and the others
split : (f : ℕ → ℕ) (n k : ℕ) → map f (upto (n + k)) ≡ map f (upto n) ++ map (λ i. f (n + i)) (upto k)
split f n k = first n 0 k (omega arith)
  where
    rest : (k s t : ℕ) → n + s ≡ t → map f (from t k) ≡ map (λ i. f (n + i)) (from s k)
    rest zero s t e = refl
    rest (suc k) s t e = ap₂ (λ (x : ℕ) (l : List ℕ). x ∷ l) (ap f (sym e)) (rest k (suc s) (suc t) (omega arith))

    first : (r s k : ℕ) → s + r ≡ n → map f (from s (r + k)) ≡ map f (from s r) ++ map (λ i. f (n + i)) (upto k)
    first zero s k e =
        let z : 0 + k ≡ k = omega arith in
        ap (λ (x : ℕ). map f (from s x)) z ∙ rest k 0 s (omega arith)
    first (suc r) s k e =
        let z : suc r + k ≡ suc (r + k) = omega arith in
        ap (λ (x : ℕ). map f (from s x)) z ∙ ap (λ (l : List ℕ). f s ∷ l) (first r (suc s) k (omega arith))

-- nine words a pair
pairs-words : (v : ℕ) (ps qs : List ℕ) → length ps ≡ length qs
    → gate_words (pairs_gates v ps qs) ≡ map (pairs_word v (λ j. get_or ps j 0) (λ j. get_or qs j 0)) (upto (9 * length ps))
unfolding gate_words pairs_gates
pairs-words v [] qs e = refl
pairs-words v (p ∷ ps) [] e = absurd (omega arith)
pairs-words v (p ∷ ps) (q ∷ qs) e =
    let f : ℕ → ℕ = pairs_word v (λ j. get_or (p ∷ ps) j 0) (λ j. get_or (q ∷ qs) j 0) in
    let z : 9 * suc (length ps) ≡ 9 + 9 * length ps = omega arith in
    let shift : (i : ℕ) → i < 9 * length ps → pairs_word (v + 3) (λ j. get_or ps j 0) (λ j. get_or qs j 0) i ≡ f (9 + i) =
    λ i h.
    let a : (9 + i) / 9 ≡ suc (i / 9) = omega arith in
    let b : (9 + i) % 9 ≡ i % 9 = omega arith in
    let w : v + 3 + 3 * (i / 9) ≡ v + 3 * suc (i / 9) = omega arith in
    ap (λ (x : ℕ). pair_word x (get_or ps (i / 9) 0) (get_or qs (i / 9) 0) (i % 9)) w
    ∙ ap₂ (λ (x y : ℕ). pair_word (v + 3 * x) (get_or (p ∷ ps) x 0) (get_or (q ∷ qs) x 0) y) (sym a) (sym b) in
    let w : v + 3 * 0 ≡ v = omega arith in
    let nine : List ℕ = map f (upto 9) in
    let heads : 2 * v ∷ p ∷ complement q ∷ 2 * (v + 1) ∷ complement p ∷ q ∷ 2 * (v + 2) ∷ (2 * v + 1) ∷ (2 * (v + 1) + 1) ∷ [] ≡ nine =
    ap (λ (x : ℕ). map (pair_word x p q) (upto 9)) (sym w) in
    ap (λ (l : List ℕ). 2 * v ∷ p ∷ complement q ∷ 2 * (v + 1) ∷ complement p ∷ q ∷ 2 * (v + 2) ∷ (2 * v + 1) ∷ (2 * (v + 1) + 1) ∷ l)
    (pairs-words (v + 3) ps qs (omega arith)
    ∙ map-upto-eq (pairs_word (v + 3) (λ j. get_or ps j 0) (λ j. get_or qs j 0)) (λ i. f (9 + i)) (9 * length ps) shift)
    ∙ ap (λ (l : List ℕ). l ++ map (λ i. f (9 + i)) (upto (9 * length ps))) heads ∙ sym (split f 9 (9 * length ps)) ∙ ap (λ (x : ℕ). map f (upto x)) (sym z)

abbrev both : List ℕ → List ℕ → List ℕ
both xs ys = xs ++ ys

arrange : (k i r s b c d g : List ℕ) → k ++ i ++ r ++ s ++ (b ++ c ++ d) ++ g ≡ k ++ i ++ (r ++ s) ++ [] ++ b ++ (c ++ d) ++ g
arrange k i r s b c d g = simp (append_assoc, append-nil)

cons : {x y : ℕ} {xs ys : List ℕ} → x ≡ y → xs ≡ ys → x ∷ xs ≡ y ∷ ys
cons e f = ap₂ (λ (z : ℕ) (l : List ℕ). z ∷ l) e f

pub output-count : (m : List ℕ) → length (circuit_in m).outputs ≡ word m 3
unfolding circuit_in
output-count m = upto-length (λ k. word m (outputs_at m + 1 * k)) (word m 3)

output-at : (m : List ℕ) (j : ℕ) → j < word m 3 → get_or (circuit_in m).outputs j 0 ≡ word m (outputs_at m + j)
unfolding circuit_in
output-at m j h = upto-get (λ k. word m (outputs_at m + 1 * k)) (word m 3) j 0 h ∙ ap (word m) (omega arith)

module _ {m : List ℕ} {p : Layout} (a : LayoutOf m p) where
  pub layout-counts : CountsAre (circuit_in m) p
  layout-counts =
      record {
        inputs = a.i-is ∙ sym (input-count m);
        latches = a.l-is ∙ sym (latch-count m);
        outputs = a.o_is ∙ sym (output-count m);
        gates = a.a-is ∙ sym (gate-count m);
        constraints = a.c-is ∙ sym (constraint-count m);
      }

module _ {a b : List ℕ} (ha : Holds a (circuit_in a)) (hb : Holds b (circuit_in b)) (p q : Layout) (la : LayoutOf a p) (lb : LayoutOf b q)
    (first second : List ℕ) (nf : Named (circuit_in a) (p.i + 1) (p.i + p.l + q.l + 1) first)
    (ns : Named (circuit_in b) (p.i + p.l + 1) (p.i + p.l + q.l + p.a + 1) second) (outputs : p.o ≡ q.o) where
  abbrev c : Circuit
  c = circuit_in a

  abbrev d : Circuit
  d = circuit_in b

  abbrev σ : ℕ → ℕ
  σ = first_number c d

  abbrev τ : ℕ → ℕ
  τ = second_number c d

  abbrev of_c : CountsAre (circuit_in a) p
  of_c = layout-counts la

  abbrev of-d : CountsAre (circuit_in b) q
  of-d = layout-counts lb

  -- the tables have the numbers of the joined circuit
  first-named : Named c (length c.inputs + 1) (length c.inputs + length c.latches + length d.latches + 1) first
  first-named = subst₂ (λ (x y : ℕ). Named c x y first) (ap (λ (x : ℕ). x + 1) of_c.inputs) (omega (arith, of_c.inputs, of_c.latches, of-d.latches)) nf

  second-named : Named d (length c.inputs + length c.latches + 1) (length c.inputs + length c.latches + length d.latches + length c.gates + 1) second
  second-named = subst₂ (λ (x y : ℕ). Named d x y second) (omega (arith, of_c.inputs, of_c.latches)) (omega (arith, of_c.inputs, of_c.latches, of-d.latches, of_c.gates)) ns

  same-outputs : length c.outputs ≡ length d.outputs
  same-outputs = omega (arith, of_c.outputs, outputs, lb.o_is, output-count b)

  first-words : renamed_words first a p.latches (3 * p.l) ≡ latch_words (map (latch_under σ) c.latches)
  first-words = ap₂ (λ (x y : ℕ). renamed_words first a x (3 * y)) la.latches-is la.l-is ∙ latches-renamed ha _ _ first first-named

  second-words : renamed_words second b q.latches (3 * q.l) ≡ latch_words (map (latch_under τ) d.latches)
  second-words = ap₂ (λ (x y : ℕ). renamed_words second b x (3 * y)) lb.latches-is lb.l-is ∙ latches-renamed hb _ _ second second-named

  first-gates : renamed_words first a p.gates (3 * p.a) ≡ gate_words (map (gate_under σ) c.gates)
  first-gates = ap₂ (λ (x y : ℕ). renamed_words first a x (3 * y)) la.gates-is la.a-is ∙ gates-renamed ha _ _ first first-named

  second-gates : renamed_words second b q.gates (3 * q.a) ≡ gate_words (map (gate_under τ) d.gates)
  second-gates = ap₂ (λ (x y : ℕ). renamed_words second b x (3 * y)) lb.gates-is lb.a-is ∙ gates-renamed hb _ _ second second-named

  first-constraints : renamed_words first a p.constraints p.c ≡ map (literal_under σ) c.constraints
  first-constraints = ap₂ (λ (x y : ℕ). renamed_words first a x y) la.constraints-is la.c-is ∙ constraints-renamed ha _ _ first first-named

  second-constraints : renamed_words second b q.constraints q.c ≡ map (literal_under τ) d.constraints
  second-constraints = ap₂ (λ (x y : ℕ). renamed_words second b x y) lb.constraints-is lb.c-is ∙ constraints-renamed hb _ _ second second-named

  abbrev ps : List ℕ
  ps = map (literal_under σ) c.outputs

  abbrev qs : List ℕ
  qs = map (literal_under τ) d.outputs

  same-pairs : length ps ≡ length qs
  same-pairs = length-map c.outputs (literal_under σ) ∙ same-outputs ∙ sym (length-map d.outputs (literal_under τ))

  first-output : (j : ℕ) → j < p.o → under first (word a (p.outputs + j)) ≡ get_or ps j 0
  first-output j h =
      let k : j < word a 3 = omega (arith, la.o_is) in
      ap (λ (x : ℕ). under first (word a (x + j))) la.outputs-is ∙ outputs-renamed ha _ _ first first-named j k
      ∙ ap (literal_under σ) (sym (output-at a j k)) ∙ sym (get_or-map (literal_under σ) c.outputs j 0 0 (omega (arith, of_c.outputs)))

  second-output : (j : ℕ) → j < p.o → under second (word b (q.outputs + j)) ≡ get_or qs j 0
  second-output j h =
      let k : j < word b 3 = omega (arith, lb.o_is, outputs) in
      ap (λ (x : ℕ). under second (word b (x + j))) lb.outputs-is ∙ outputs-renamed hb _ _ second second-named j k
      ∙ ap (literal_under τ) (sym (output-at b j k)) ∙ sym (get_or-map (literal_under τ) d.outputs j 0 0 (omega (arith, output-count b)))

  pairs-var : pairs_var p q ≡ pairs_from c d
  pairs-var = omega (arith, of_c.inputs, of_c.latches, of-d.latches, of_c.gates, of-d.gates)

  pair-words : map (pairs_word (pairs_var p q) (λ j. under first (word a (p.outputs + j))) (λ j. under second (word b (q.outputs + j)))) (upto (9 * p.o))
      ≡ gate_words (pairs_gates (pairs_from c d) ps qs)
  pair-words =
      let n : p.o ≡ length ps = of_c.outputs ∙ sym (length-map c.outputs (literal_under σ)) in
      map-upto-eq (pairs_word (pairs_var p q) (λ j. under first (word a (p.outputs + j))) (λ j. under second (word b (q.outputs + j))))
      (pairs_word (pairs_from c d) (λ j. get_or ps j 0) (λ j. get_or qs j 0)) (9 * p.o)
      (λ i h.
      let k : i / 9 < p.o = omega arith in
      ap (λ (x : ℕ). pair_word (x + 3 * (i / 9)) (under first (word a (p.outputs + i / 9))) (under second (word b (q.outputs + i / 9))) (i % 9)) pairs-var
      ∙ ap₂ (λ (x y : ℕ). pair_word (pairs_from c d + 3 * (i / 9)) x y (i % 9)) (first-output (i / 9) k) (second-output (i / 9) k))
      ∙ ap (λ (x : ℕ). map (pairs_word (pairs_from c d) (λ j. get_or ps j 0) (λ j. get_or qs j 0)) (upto (9 * x))) n ∙ sym (pairs-words (pairs_from c d) ps qs same-pairs)

  counts-are : count_words p q ≡ (joined c d).max_var ∷ count_row (joined c d)
  unfolding joined
  counts-are =
      let xs = map (gate_under σ) c.gates in
      let ys = map (gate_under τ) d.gates in
      cons (omega (arith, of_c.inputs, of_c.latches, of-d.latches, of_c.gates, of-d.gates, of_c.outputs))
      (cons (of_c.inputs ∙ sym (length-map-upto (λ i. 2 * (i + 1)) (length c.inputs)))
      (cons
      (omega (arith, of_c.latches, of-d.latches, length-append (map (latch_under σ) c.latches) (map (latch_under τ) d.latches), length-map c.latches (latch_under σ), length-map d.latches (latch_under τ)))
      (cons refl
      (cons
      (omega (
        arith,
        of_c.gates,
        of-d.gates,
        of_c.outputs,
        length-append (xs ++ ys) (pairs_gates (pairs_from c d) ps qs),
        length-append xs ys,
        length-map c.gates (gate_under σ),
        length-map d.gates (gate_under τ),
        pairs-length (pairs_from c d) ps qs same-pairs,
        length-map c.outputs (literal_under σ),
      ))
      (cons (of_c.outputs ∙ sym (length-map-upto (λ j. 2 * (pairs_from c d + 3 * j + 2) + 1) (length c.outputs)))
      (cons
      (omega (
        arith,
        of_c.constraints,
        of-d.constraints,
        length-append (map (literal_under σ) c.constraints) (map (literal_under τ) d.constraints),
        length-map c.constraints (literal_under σ),
        length-map d.constraints (literal_under τ),
      ))
      refl))))))

  -- the words of all sections are the content of the joined circuit
  pub content-is : definition_words a p first b q second ++ property_words a p first b q second ++ gate_words_of a p first b q second ≡ content (joined c d)
  unfolding definition_words property_words gate_words_of content joined
  content-is =
      let bads : List ℕ = map (λ j. 2 * (pairs_from c d + 3 * j + 2) + 1) (upto (length c.outputs)) in
      let ins : List ℕ = map (λ i. 2 * (i + 1)) (upto (length c.inputs)) in
      let bads-are : map (λ j. 2 * (pairs_var p q + 3 * j + 2) + 1) (upto p.o) ≡ bads =
      ap₂ (λ (v n : ℕ). map (λ j. 2 * (v + 3 * j + 2) + 1) (upto n)) pairs-var of_c.outputs in
      let ins-are : map (λ i. 2 * (i + 1)) (upto p.i) ≡ ins = ap (λ (n : ℕ). map (λ i. 2 * (i + 1)) (upto n)) of_c.inputs in
      let k : List ℕ = (joined c d).max_var ∷ count_row (joined c d) in
      let r₁ : List ℕ = latch_words (map (latch_under σ) c.latches) in
      let r₂ : List ℕ = latch_words (map (latch_under τ) d.latches) in
      let c₁ : List ℕ = map (literal_under σ) c.constraints in
      let c₂ : List ℕ = map (literal_under τ) d.constraints in
      let xs = map (gate_under σ) c.gates in
      let ys = map (gate_under τ) d.gates in
      let gs : List ℕ = gate_words xs ++ gate_words ys ++ gate_words (pairs_gates (pairs_from c d) ps qs) in
      let definitions = ap₂ both (ap₂ both (ap₂ both counts-are ins-are) first-words) second-words in
      let properties = ap₂ both (ap₂ both bads-are first-constraints) second-constraints in
      let gates = ap₂ both (ap₂ both first-gates second-gates) pair-words in
      let latches : latch_words (map (latch_under σ) c.latches ++ map (latch_under τ) d.latches) ≡ r₁ ++ r₂ =
      latch-words-append (map (latch_under σ) c.latches) (map (latch_under τ) d.latches) in
      let all-gates : gate_words (xs ++ ys ++ pairs_gates (pairs_from c d) ps qs) ≡ gs =
      gate-words-append (xs ++ ys) (pairs_gates (pairs_from c d) ps qs) ∙ ap (λ (l : List ℕ). l ++ gate_words (pairs_gates (pairs_from c d) ps qs)) (gate-words-append xs ys) in
      ap₂ both (ap₂ both definitions properties) gates ∙ arrange k ins r₁ r₂ bads c₁ c₂ gs
      ∙ ap₂ (λ (l g : List ℕ). k ++ ins ++ l ++ [] ++ bads ++ (c₁ ++ c₂) ++ g) (sym latches) (sym all-gates)
