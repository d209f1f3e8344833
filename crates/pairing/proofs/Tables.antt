-- The tables of numbers serve every section, and the sizes of the sections. Assumes nothing.
use mathlib.Core.Path.{◌≡◌, refl, sym, ap, ap₂, ◌∙◌, subst, subst₂}
use mathlib.Core.List.{List, ◌∷◌, ◌++◌, map}
use Prim.Native.Nat.{ℕ, zero, suc, ◌+◌, ◌-◌, ◌*◌, ◌/◌, ◌≤◌, ◌<◌}
use native.Mathlib.Omega.{arith}
use lib.ListN.{length, length-append, replicate}
use Rattle.aiger.specs.Lists.{upto, from}
use Rattle.aiger.specs.Circuit.{Circuit, var}
use Rattle.aiger.specs.Load.{needed}
use Rattle.aiger.specs.Memory.{Holds, content, image}
use Rattle.aiger.specs.Operations.{front}
use Rattle.layout.specs.Words.{word, latches_at, outputs_at, constraints_at, gates_at, circuit_in}
use Rattle.layout.specs.Layout.{LayoutOf}
use Rattle.layout.specs.declared.Layout.{Layout}
use Rattle.meaning.proofs.Lists.{length-map-upto}
use Rattle.meaning.proofs.Defined.{Known}
use Rattle.frames.proofs.Facts.{top-is, latch-count, gate-count, counts, inside, known_small}
use Rattle.joined.specs.Joined.{number_of, joined}
use Rattle.renumber.specs.Names.{Named, Within, under}
use Rattle.pairing.specs.Words.{Table, Small, Joins, JoinFits, variables, pairs_var, pairs_word, renamed_words, count_words, definition_words, property_words, gate_words_of, properties_at, gates_from}
use Rattle.parting.proofs.Accepted.{number-most}
use Rattle.renumber.proofs.Naming.{input-count}
use Rattle.pairing.proofs.Sections.{latches-known, gates-known, constraints-known, outputs-known}
use Rattle.pairing.proofs.Contents.{known_member}
use Rattle.pairing.proofs.Images.{content-is, output-count}

module _ {m : List ℕ} (h : Holds m (circuit_in m)) (p : Layout) (a : LayoutOf m p) (l g : ℕ) (names : List ℕ) (named : Named (circuit_in m) l g names)
    (room : 4097 ≤ length names) (low : p.i ≤ 4096) (latches : l + p.l ≤ 4097) (gates : g + p.a ≤ 4097) where
  within : (at n : ℕ) → ((j : ℕ) → j < n → Known (circuit_in m) (var (word m (at + j)))) → Within m at n names
  within at n k j b =
      let v = var (word m (at + j)) in
      let e = named v (known_member (circuit_in m) v (k j b)) in
      let most = number-most (circuit_in m) l g 4096 v (omega (arith, input-count m, a.i-is)) (omega (arith, latch-count m, a.l-is)) (omega (arith, gate-count m, a.a-is)) in
      (omega (arith, known_small h v (k j b), (counts h).max_var, top-is m), omega (arith, e, most))

  pub table : Table m p names
  table =
      record {
        latches-inside = omega (arith, inside h, a.latches-is, a.l-is);
        outputs-inside = omega (arith, inside h, a.outputs-is, a.o_is);
        constraints-inside = omega (arith, inside h, a.constraints-is, a.c-is);
        gates-inside = omega (arith, inside h, a.gates-is, a.a-is);
        latches = subst₂ (λ (x n : ℕ). Within m x (3 * n) names) (sym a.latches-is) (sym a.l-is) (within (latches_at m) (3 * word m 2) (latches-known h));
        outputs = subst₂ (λ (x n : ℕ). Within m x n names) (sym a.outputs-is) (sym a.o_is) (within (outputs_at m) (word m 3) (outputs-known h));
        constraints = subst₂ (λ (x n : ℕ). Within m x n names) (sym a.constraints-is) (sym a.c-is) (within (constraints_at m) (word m 6) (constraints-known h));
        gates = subst₂ (λ (x n : ℕ). Within m x (3 * n) names) (sym a.gates-is) (sym a.a-is) (within (gates_at m) (3 * word m 4) (gates-known h));
      }

renamed-length : (names m : List ℕ) (at n : ℕ) → length (renamed_words names m at n) ≡ n
renamed-length names m at n = length-map-upto (λ j. under names (word m (at + j))) n

zeros : (n : ℕ) → map {B = ℕ} (λ _. 0) (upto n) ≡ replicate n 0
zeros n = go n 0
  where
    go : (n s : ℕ) → map {A = ℕ} {B = ℕ} (λ _. 0) (from s n) ≡ replicate n 0
    go zero s = refl
    go (suc n) s = ap (λ (l : List ℕ). 0 ∷ l) (go n (suc s))

module _ {a first b second : List ℕ} {p q : Layout} (f : JoinFits a p first b q second) where
  pub first-table : Table a p first
  first-table =
      table f.held p f.layout (p.i + 1) (p.i + p.l + q.l + 1) first f.named f.table (omega (arith, f.joins.top)) (omega (arith, f.joins.top))
      (omega (arith, f.joins.top))

  pub second-table : Table b q second
  second-table =
      table f.held' q f.layout' (p.i + p.l + 1) (p.i + p.l + q.l + p.a + 1) second f.named' f.table' (omega (arith, f.joins.small'.inputs))
      (omega (arith, f.joins.top)) (omega (arith, f.joins.top))

  -- the lengths of the parts
  pub definitions-length : length (definition_words a p first b q second) ≡ properties_at p q
  unfolding definition_words
  definitions-length =
      let ins : List ℕ = map (λ i. 2 * (i + 1)) (upto p.i) in
      let r : List ℕ = renamed_words first a p.latches (3 * p.l) in
      let s : List ℕ = renamed_words second b q.latches (3 * q.l) in
      omega (
        arith,
        length-append (count_words p q ++ ins ++ r) s,
        length-append (count_words p q ++ ins) r,
        length-append (count_words p q) ins,
        length-map-upto (λ i. 2 * (i + 1)) p.i,
        renamed-length first a p.latches (3 * p.l),
        renamed-length second b q.latches (3 * q.l),
      )

  pub properties-length : length (property_words a p first b q second) ≡ p.o + p.c + q.c
  unfolding property_words
  properties-length =
      let bs : List ℕ = map (λ j. 2 * (pairs_var p q + 3 * j + 2) + 1) (upto p.o) in
      let r : List ℕ = renamed_words first a p.constraints p.c in
      let s : List ℕ = renamed_words second b q.constraints q.c in
      omega (
        arith,
        length-append (bs ++ r) s,
        length-append bs r,
        length-map-upto (λ j. 2 * (pairs_var p q + 3 * j + 2) + 1) p.o,
        renamed-length first a p.constraints p.c,
        renamed-length second b q.constraints q.c,
      )

  pub gates-length : length (gate_words_of a p first b q second) ≡ 3 * p.a + 3 * q.a + 9 * p.o
  unfolding gate_words_of
  gates-length =
      let f : ℕ → ℕ = pairs_word (pairs_var p q) (λ j. under first (word a (p.outputs + j))) (λ j. under second (word b (q.outputs + j))) in
      let r : List ℕ = renamed_words first a p.gates (3 * p.a) in
      let s : List ℕ = renamed_words second b q.gates (3 * q.a) in
      omega (
        arith,
        length-append (r ++ s) (map f (upto (9 * p.o))),
        length-append r s,
        length-map-upto f (9 * p.o),
        renamed-length first a p.gates (3 * p.a),
        renamed-length second b q.gates (3 * q.a),
      )

  abbrev all : List ℕ
  all = definition_words a p first b q second ++ property_words a p first b q second ++ gate_words_of a p first b q second

  pub all-length : length (definition_words a p first b q second ++ property_words a p first b q second ++ gate_words_of a p first b q second)
      ≡ gates_from p q + 3 * p.a + 3 * q.a + 9 * p.o
  all-length =
      let x = definition_words a p first b q second in
      let y = property_words a p first b q second in
      omega (arith, length-append (x ++ y) (gate_words_of a p first b q second), length-append x y, definitions-length, properties-length, gates-length)

  top_of : variables p q ≡ (joined (circuit_in a) (circuit_in b)).max_var
  unfolding joined
  top_of =
      omega (
        arith,
        f.layout.i-is,
        input-count a,
        f.layout.l-is,
        latch-count a,
        f.layout'.l-is,
        latch-count b,
        f.layout.a-is,
        gate-count a,
        f.layout'.a-is,
        gate-count b,
        f.layout.o_is,
        output-count a,
      )

  -- all words and the zeros after them are the image
  pub image-is : (n : ℕ) → n ≡ needed (variables p q) - (gates_from p q + 3 * p.a + 3 * q.a + 9 * p.o)
      → definition_words a p first b q second ++ property_words a p first b q second ++ gate_words_of a p first b q second ++ map (λ _. 0) (upto n)
      ≡ image (joined (circuit_in a) (circuit_in b))
  unfolding image
  image-is n e =
      let c = content-is f.held f.held' p q f.layout f.layout' first second f.named f.named' f.joins.outputs in
      let k : n ≡ needed (joined (circuit_in a) (circuit_in b)).max_var - length (content (joined (circuit_in a) (circuit_in b))) =
      e ∙ ap₂ (λ (x y : ℕ). needed x - y) top_of (sym all-length ∙ ap length c) in
      ap₂ (λ (x y : List ℕ). x ++ y) c (zeros n ∙ ap (λ (x : ℕ). replicate x 0) k)

  -- there is room for all words
  pub all_room : gates_from p q + 3 * p.a + 3 * q.a + 9 * p.o ≤ needed (variables p q)
  all_room = omega (arith, f.joins.few, f.joins.small.constraints, f.joins.small'.constraints)
