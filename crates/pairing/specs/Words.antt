-- The words of the joined circuit, as they are written. Assumes nothing.
use Rattle.std.specs.Prelude.{◌≡◌, List, [], ◌∷◌, ◌++◌, map, ℕ, ◌+◌, ◌*◌, ◌/◌, ◌%◌, ◌≤◌, ◌<◌, length, get_or}
use Rattle.aiger.specs.Lists.{upto}
use Rattle.aiger.specs.Circuit.{Circuit}
use Rattle.aiger.specs.Memory.{Holds}
use Rattle.aiger.specs.Operations.{front}
use Rattle.layout.specs.Words.{word, circuit_in}
use Rattle.layout.specs.Layout.{LayoutOf}
use Rattle.layout.specs.declared.Layout.{Layout}
use Rattle.joined.specs.Joined.{complement}
use Rattle.renumber.specs.Names.{Within, under, Named}

-- the three words of a gate
abbrev pub triple_word : ℕ → ℕ → ℕ → ℕ → ℕ
triple_word lit left right j = get_or (lit ∷ left ∷ right ∷ []) j 0

-- the nine words of the gates of a pair
abbrev pub pair_word : ℕ → ℕ → ℕ → ℕ → ℕ
pair_word v p q j = get_or (2 * v ∷ p ∷ complement q ∷ 2 * (v + 1) ∷ complement p ∷ q ∷ 2 * (v + 2) ∷ (2 * v + 1) ∷ (2 * (v + 1) + 1) ∷ []) j 0

-- the words of the gates of pairs, whose outputs' literals are p j and q j; the first gate has the variable v
abbrev pub pairs_word : ℕ → (ℕ → ℕ) → (ℕ → ℕ) → ℕ → ℕ
pairs_word v p q i = pair_word (v + 3 * (i / 9)) (p (i / 9)) (q (i / 9)) (i % 9)

-- the counts of circuit c that join asks for
pub record CountsAre (c : Circuit) (p : Layout) : Type 0 where
  pub inputs : p.i ≡ length c.inputs
  pub latches : p.l ≡ length c.latches
  pub outputs : p.o ≡ length c.outputs
  pub gates : p.a ≡ length c.gates
  pub constraints : p.c ≡ length c.constraints

-- counts within load's limits
pub record Small (p : Layout) : Type 0 where
  pub inputs : p.i ≤ 256
  pub latches : p.l ≤ 1024
  pub outputs : p.o ≤ 64
  pub gates : p.a ≤ 3072
  pub constraints : p.c ≤ 16

-- the literals of the circuit at a, with the layout p, stand within it and are in the table
pub record Table (a : List ℕ) (p : Layout) (names : List ℕ) : Type 0 where
  pub latches-inside : p.latches + 3 * p.l ≤ length a
  pub outputs-inside : p.outputs + p.o ≤ length a
  pub constraints-inside : p.constraints + p.c ≤ length a
  pub gates-inside : p.gates + 3 * p.a ≤ length a
  pub latches : Within a p.latches (3 * p.l) names
  pub outputs : Within a p.outputs p.o names
  pub constraints : Within a p.constraints p.c names
  pub gates : Within a p.gates (3 * p.a) names

-- n literals from `at` on under the numbers of the table
abbrev pub renamed_words : List ℕ → List ℕ → ℕ → ℕ → List ℕ
renamed_words names a at n = map (λ j. under names (word a (at + j))) (upto n)

-- the words of the joined circuit, section by section: counts, inputs and latches; bad lines and constraints; gates
abbrev pub count_words : Layout → Layout → List ℕ
count_words p q =
    (p.i + (p.l + q.l) + (p.a + q.a + 3 * p.o)) ∷ p.i ∷ (p.l + q.l) ∷ 0 ∷ (p.a + q.a + 3 * p.o) ∷ p.o ∷ (p.c + q.c) ∷ []

unfoldable pub definition_words : List ℕ → Layout → List ℕ → List ℕ → Layout → List ℕ → List ℕ
definition_words a p first b q second =
    count_words p q ++ map (λ i. 2 * (i + 1)) (upto p.i) ++ renamed_words first a p.latches (3 * p.l)
    ++ renamed_words second b q.latches (3 * q.l)

-- the variable of the first gate of the pairs
abbrev pub pairs_var : Layout → Layout → ℕ
pairs_var p q = p.i + p.l + q.l + p.a + q.a + 1

unfoldable pub property_words : List ℕ → Layout → List ℕ → List ℕ → Layout → List ℕ → List ℕ
property_words a p first b q second =
    map (λ j. 2 * (pairs_var p q + 3 * j + 2) + 1) (upto p.o) ++ renamed_words first a p.constraints p.c
    ++ renamed_words second b q.constraints q.c

unfoldable pub gate_words_of : List ℕ → Layout → List ℕ → List ℕ → Layout → List ℕ → List ℕ
gate_words_of a p first b q second =
    renamed_words first a p.gates (3 * p.a) ++ renamed_words second b q.gates (3 * q.a)
    ++ map (pairs_word (pairs_var p q) (λ j. under first (word a (p.outputs + j))) (λ j. under second (word b (q.outputs + j))))
    (upto (9 * p.o))

-- where the bad lines begin, and the gates
abbrev pub properties_at : Layout → Layout → ℕ
properties_at p q = 7 + p.i + 3 * p.l + 3 * q.l

abbrev pub gates_from : Layout → Layout → ℕ
gates_from p q = properties_at p q + p.o + p.c + q.c

-- words are written behind what stands at the front
abbrev pub After : ℕ → List ℕ → List ℕ → List ℕ → Type 0
After to words before after =
    (xs m : List ℕ) → before ≡ front xs m → to ≡ length xs → length before ≡ length m → after ≡ front (xs ++ words) m

-- M of the joined circuit
abbrev pub variables : Layout → Layout → ℕ
variables p q = p.i + p.l + q.l + p.a + q.a + 3 * p.o

-- circuits that can be joined: the same number of outputs, 1 to 16, and counts within load's limits
pub record Joins (p q : Layout) : Type 0 where
  pub small : Small p
  pub small' : Small q
  pub outputs : p.o ≡ q.o
  pub some : 1 ≤ p.o
  pub few : p.o ≤ 16
  pub top : variables p q ≤ 4096

-- what the joined circuit is written from
pub record JoinFits (a : List ℕ) (p : Layout) (first b : List ℕ) (q : Layout) (second : List ℕ) : Type 0 where
  pub held : Holds a (circuit_in a)
  pub held' : Holds b (circuit_in b)
  pub layout : LayoutOf a p
  pub layout' : LayoutOf b q
  pub joins : Joins p q
  pub named : Named (circuit_in a) (p.i + 1) (p.i + p.l + q.l + 1) first
  pub named' : Named (circuit_in b) (p.i + p.l + 1) (p.i + p.l + q.l + p.a + 1) second
  pub table : 4097 ≤ length first
  pub table' : 4097 ≤ length second
