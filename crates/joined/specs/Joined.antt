-- Clause 12.6: two circuits joined into one, with the same inputs for both and a bad line for each pair of outputs, true where the two
-- differ. Assumes nothing.
use Rattle.std.specs.Prelude.{◌≡◌, Bool, cond, ◌&&◌, List, [], ◌∷◌, ◌++◌, map, ◌⊎◌, ℕ, ◌+◌, ◌-◌, ◌*◌, ◌%◌, leb, eqb, length}
use Rattle.aiger.specs.Lists.{upto}
use Rattle.aiger.specs.Circuit.{Circuit, Latch, Gate, var}
use Rattle.aiger.specs.File.{counts_fit, header_of}
use Rattle.aiger.specs.Load.{Answer, refused, gives, needed}
use Rattle.aiger.specs.Memory.{Holds, image}
use Rattle.aiger.specs.Write.{count_row}
use Rattle.aiger.specs.Operations.{HoldsNone, front, Test, need, judge}

-- where variable v stands among the literals ls, counted from n on; d where it does not
unfoldable pub place_from : List ℕ → ℕ → ℕ → ℕ → ℕ
place_from [] n v d = d
place_from (l ∷ ls) n v d = cond (eqb (var l) v) n (place_from ls (n + 1) v d)

-- the number that variable v of circuit c has in the joined circuit: inputs from 1 on, latches from p on, gates from q on, in file order;
-- 0 for the constant and for what nothing defines
unfoldable pub number_of : Circuit → ℕ → ℕ → ℕ → ℕ
number_of c p q v =
    place_from c.inputs 1 v (place_from (map (λ l. l.lit) c.latches) p v (place_from (map (λ g. g.lit) c.gates) q v 0))

-- a literal, a latch and a gate under new numbers of the variables. The resets 0 and 1 are literals of the constant, whose number
-- stays 0; a latch's own literal as reset becomes its new literal, so that a free start stays free
abbrev pub literal_under : (ℕ → ℕ) → ℕ → ℕ
literal_under σ l = 2 * σ (var l) + l % 2

abbrev pub latch_under : (ℕ → ℕ) → Latch → Latch
latch_under σ l = record { lit = literal_under σ l.lit; next = literal_under σ l.next; reset = literal_under σ l.reset }

abbrev pub gate_under : (ℕ → ℕ) → Gate → Gate
gate_under σ g = record { lit = literal_under σ g.lit; left = literal_under σ g.left; right = literal_under σ g.right }

-- the complement of a literal
abbrev pub complement : ℕ → ℕ
complement l = 2 * var l + (1 - l % 2)

-- the three gates of outputs p and q, whose variables are v, v + 1 and v + 2: p with not q, not p with q, and the complements of these two
abbrev pub pair_gates : ℕ → ℕ → ℕ → List Gate
pair_gates v p q =
    record { lit = 2 * v; left = p; right = complement q } ∷ record { lit = 2 * (v + 1); left = complement p; right = q }
    ∷ record { lit = 2 * (v + 2); left = 2 * v + 1; right = 2 * (v + 1) + 1 } ∷ []

-- those of the pairs of ps and qs, from variable v on
unfoldable pub pairs_gates : ℕ → List ℕ → List ℕ → List Gate
pairs_gates v [] qs = []
pairs_gates v (p ∷ ps) [] = []
pairs_gates v (p ∷ ps) (q ∷ qs) = pair_gates v p q ++ pairs_gates (v + 3) ps qs

-- the numbers of the first circuit's variables, those of the second's, and the variable of the first gate of the pairs
abbrev pub first_number : Circuit → Circuit → ℕ → ℕ
first_number c d = number_of c (length c.inputs + 1) (length c.inputs + length c.latches + length d.latches + 1)

abbrev pub second_number : Circuit → Circuit → ℕ → ℕ
second_number c d =
    number_of d (length c.inputs + length c.latches + 1)
    (length c.inputs + length c.latches + length d.latches + length c.gates + 1)

abbrev pub pairs_from : Circuit → Circuit → ℕ
pairs_from c d = length c.inputs + length c.latches + length d.latches + length c.gates + length d.gates + 1

-- the inputs of both are one list; the other lists are those of the first circuit and then those of the second, with the gates of the pairs
-- at the end; bad line j is the complement of the third gate of pair j; neither outputs nor bad lines of the two are kept
unfoldable pub joined : Circuit → Circuit → Circuit
joined c d =
    let σ = first_number c d in
    let τ = second_number c d in
    record {
      max_var = length c.inputs + length c.latches + length d.latches + length c.gates + length d.gates + 3
          * length c.outputs;
      inputs = map (λ i. 2 * (i + 1)) (upto (length c.inputs));
      latches = map (latch_under σ) c.latches ++ map (latch_under τ) d.latches;
      outputs = [];
      bads = map (λ j. 2 * (pairs_from c d + 3 * j + 2) + 1) (upto (length c.outputs));
      constraints = map (literal_under σ) c.constraints ++ map (literal_under τ) d.constraints;
      gates =
          map (gate_under σ) c.gates ++ map (gate_under τ) d.gates
          ++ pairs_gates (pairs_from c d) (map (literal_under σ) c.outputs) (map (literal_under τ) d.outputs);
    }

-- Clause 12.6, number 17: there are 1 to 16 outputs, and the circuits have the same numbers of inputs and of outputs
abbrev pub can_pair : Circuit → Circuit → Bool
can_pair c d =
    leb 1 (length c.outputs) && leb (length c.outputs) 16 && eqb (length c.inputs) (length d.inputs)
    && eqb (length c.outputs) (length d.outputs)

-- join's tests after number 9, where the third memory has `room` words: 17, then 3 for counts that are too large, then 4
abbrev pub join_tests : Circuit → Circuit → ℕ → List Test
join_tests c d room =
    need 17 (can_pair c d) ∷ need 3 (counts_fit (header_of (joined c d))) ∷ need 4 (leb (needed (joined c d).max_var) room) ∷ []

-- Clause 12.6: join of the circuits in m₁ and m₂, which are read only, into m. The form of an operation, with two circuits: refusal 9
-- where either memory holds none; else the refusal of the first test that fails; else the counts of the joined circuit, as a load answers
-- them, and m as a load of the joined circuit leaves it. A refusal leaves m as it was.
pub data JoinedInto (m₁ m₂ m : List ℕ) : Answer (List ℕ) → List ℕ → Type 0 where
  no_circuit : HoldsNone m₁ ⊎ HoldsNone m₂ → JoinedInto m₁ m₂ m (refused 9) m
  refuses : (c d : Circuit) {n : ℕ} → Holds m₁ c → Holds m₂ d → judge (join_tests c d (length m)) ≡ refused n
      → JoinedInto m₁ m₂ m (refused n) m
  stores : (c d : Circuit) → Holds m₁ c → Holds m₂ d → judge (join_tests c d (length m)) ≡ gives tt
      → JoinedInto m₁ m₂ m (gives ((joined c d).max_var ∷ count_row (joined c d))) (front (image (joined c d)) m)
