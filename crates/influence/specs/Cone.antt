-- The cone of influence of a bad line: the variables that it and the constraints depend on, over any number of frames. Marks are words,
-- one for each variable, 0 where it is not marked. Assumes nothing.
use Rattle.std.specs.Prelude.{Bool, true, not, cond, ◌&&◌, ◌||◌, List, [], ◌∷◌, ◌++◌, ℕ, zero, suc, ◌+◌, ◌*◌, ◌≤◌, ◌<◌, length, get_or, set, replicate}
use Rattle.aiger.specs.Lists.{every_below}
use Rattle.aiger.specs.Bits.{nonzero}
use Rattle.aiger.specs.Circuit.{Circuit, Latch, Gate, var, literals_right, used_defined, acyclic}
use Rattle.layout.specs.Words.{word}
use Rattle.meaning.specs.Frame.{latch_at, gate_at}
use Rattle.influence.specs.Part.{Part}

-- the variable of literal l is marked
abbrev pub marked : List ℕ → ℕ → Bool
marked ms l = nonzero (get_or ms (var l) 0)

abbrev pub mark : ℕ → List ℕ → List ℕ
mark l ms = set ms (var l) 1

-- the first n of the literals f are marked
unfoldable pub mark_below : (ℕ → ℕ) → ℕ → List ℕ → List ℕ
mark_below f zero ms = ms
mark_below f (suc n) ms = mark (f n) (mark_below f n ms)

-- a latch, as a gate with its next literal for both operands
abbrev pub as_gate : Latch → Gate
as_gate l = record { lit = l.lit; left = l.next; right = l.next }

-- the operands of a gate are marked, if it is
abbrev pub reach : Gate → List ℕ → List ℕ
reach g ms = cond (marked ms g.lit) (mark g.right (mark g.left ms)) ms

-- the same of the first n of the gates f, the last one first
unfoldable pub reach_down : (ℕ → Gate) → ℕ → List ℕ → List ℕ
reach_down f zero ms = ms
reach_down f (suc n) ms = reach_down f n (reach (f n) ms)

-- one round: all gates, and then all latches
abbrev pub spread : Circuit → List ℕ → List ℕ
spread c ms = reach_down (λ j. as_gate (latch_at c j)) (length c.latches) (reach_down (gate_at c) (length c.gates) ms)

-- a gate that is marked has marked operands
abbrev pub closed_at : List ℕ → Gate → Bool
closed_at ms g = cond (marked ms g.lit) (marked ms g.left && marked ms g.right) true

-- the bad line and the constraints are marked, and what a marked gate or latch is computed from
unfoldable pub closed : Circuit → ℕ → List ℕ → Bool
closed c b ms =
    every_below (length c.gates) (λ i. closed_at ms (gate_at c i))
    && (every_below (length c.latches) (λ j. closed_at ms (as_gate (latch_at c j)))
    && (every_below 1 (λ i. marked ms (get_or c.bads b 0))
    && every_below (length c.constraints) (λ i. marked ms (get_or c.constraints i 0))))

-- rounds until the marks are closed, n at most
unfoldable pub settle : ℕ → Circuit → ℕ → List ℕ → List ℕ
settle zero c b ms = ms
settle (suc n) c b ms = cond (closed c b ms) ms (settle n c b (spread c ms))

-- What is marked where the marks before are those; 129 rounds at most. Where gates stand after their operands a round goes through a whole
-- frame, so that each round but the last marks a latch; in another order a round may reach only some of the gates. Where the rounds do not
-- suffice all latches are kept
unfoldable pub cone_from : Circuit → ℕ → List ℕ → List ℕ
cone_from c b ms =
    settle 129 c b (mark_below (λ i. get_or c.constraints i 0) (length c.constraints) (mark (get_or c.bads b 0) ms))

-- the marks of the cone
unfoldable pub marks : Circuit → ℕ → List ℕ
marks c b = cone_from c b (replicate 4097 0)

-- whether the marks are the cone; else all latches are kept
unfoldable pub settled : Circuit → ℕ → Bool
settled c b = (literals_right c && (used_defined c && acyclic c)) && closed c b (marks c b)

-- the numbers below n that pass, in their order
unfoldable pub kept_below : (ℕ → Bool) → ℕ → List ℕ
kept_below p zero = []
kept_below p (suc n) = cond (p n) (kept_below p n ++ (n ∷ [])) (kept_below p n)

-- the latches in the cone of influence of bad line b; all latches where the marks are not closed
unfoldable pub kept_latches : Circuit → ℕ → List ℕ
kept_latches c b = kept_below (λ j. not (settled c b) || marked (marks c b) (latch_at c j).lit) (length c.latches)

abbrev pub part_of : Circuit → ℕ → Part
part_of c b = record { circuit = c; kept = kept_latches c b }

-- ---- in memory

-- the gate whose words begin at `at`, with the word `last` after the first for its right operand: 2 for gates, 1 for latches
abbrev pub gate_by : List ℕ → ℕ → ℕ → Gate
gate_by m at last = record { lit = word m at; left = word m (at + 1); right = word m (at + last) }

-- its words are there, and marks for its variables
pub record Room (m : List ℕ) (at last count : ℕ) : Type 0 where
  pub inside : at + 2 < length m
  pub short : last ≤ 2
  pub lit : var (word m at) < count
  pub left : var (word m (at + 1)) < count
  pub right : var (word m (at + last)) < count

-- the same of n gates from `at` on
abbrev pub Rooms : List ℕ → ℕ → ℕ → ℕ → ℕ → Type 0
Rooms m at n last count = (i : ℕ) → i < n → Room m (at + 3 * i) last count

-- n literals from `at` on are there, and marks for their variables
abbrev pub Literals : List ℕ → ℕ → ℕ → ℕ → Type 0
Literals m at n count = (i : ℕ) → i < n → (at + i < length m) × (var (word m (at + i)) < count)
