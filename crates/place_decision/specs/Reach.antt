-- What is decided of a frame from a place on, as a function of circuit, b, t, place and D. All sequences from the place on are passed where
-- the conflict search, whose floor begins at the place, comes to an end within its effort. Where it does not, D sequences are tried from
-- the place on, and no fewer than are tried on the circuit before it. Assumes nothing.
use Rattle.std.specs.Prelude.{cond, ℕ, ◌+◌, ◌*◌, ◌^◌, min, max, leb}
use Rattle.aiger.specs.Circuit.{Circuit}
use Rattle.aiger.specs.Frames.{free_bits, size}
use Rattle.aiger.specs.Search.{Decision, reaches, greatest}
use Rattle.enumeration.specs.Choice.{decision}
use Rattle.unroll.specs.Chosen.{unrolled}
use Rattle.conflicts.specs.declared.Verdict.{Verdict}
use Rattle.place_search.specs.Places.{Placed}
use Rattle.place_solver.specs.From.{solved_from, floor_from}
use Rattle.decision.specs.Reach.{first_places, effort, decided_or, reached}

-- what the conflict search says of frame t from the place on, and the floor that it comes to
unfoldable pub searched_from : Circuit → ℕ → ℕ → ℕ → ℕ → Verdict
searched_from c b t place D =
    solved_from (free_bits c t) (unrolled c b t).gates (unrolled c b t).edge (16 * size c t) place (effort (size c t) D)

unfoldable pub floor_of : Circuit → ℕ → ℕ → ℕ → ℕ → ℕ
floor_of c b t place D =
    floor_from (free_bits c t) (unrolled c b t).gates (unrolled c b t).edge (16 * size c t) place (effort (size c t) D)

-- how many sequences are tried on the circuit where there are n free bits
unfoldable pub tries : ℕ → ℕ → ℕ
tries n D = max D (first_places n)

-- how many sequences are passed from the place on, where none of them hits
unfoldable pub reach_from : Circuit → ℕ → ℕ → ℕ → ℕ → ℕ
reach_from c b t place D = decided_or (searched_from c b t place D) (2 ^ free_bits c t) (tries (free_bits c t) D)

-- the place that is told where they are spent: the floor, or the place after those that are tried
unfoldable pub reached_from : Circuit → ℕ → ℕ → ℕ → ℕ → ℕ
reached_from c b t place D = min greatest (max (floor_of c b t place D) (place + tries (free_bits c t) D))

-- a decision with the place that is told where it is spent
abbrev pub telling : Decision → ℕ → Placed
telling (Decision.hit x) R = Placed.hit x
telling Decision.clear R = Placed.clear
telling Decision.spent R = Placed.spent R

-- Clause 12.11: which of the permitted answers is given
unfoldable pub place_chosen : Circuit → ℕ → ℕ → ℕ → ℕ → Placed
place_chosen c b t place D =
    telling (decision (reaches c b t) (2 ^ free_bits c t) place (reach_from c b t place D)) (reached_from c b t place D)

-- ---- the search of all frames

-- Clause 12.10: the place that is told where frame t is spent in a search of all frames: the sequence that was reached, or, with more than
-- 1,024 free bits, how many places of the support were tried
unfoldable pub reached_told : Circuit → ℕ → ℕ → ℕ → ℕ
reached_told c b t D = cond (leb (free_bits c t) 1024) (min greatest (reached c b t D)) (max D 16384)
