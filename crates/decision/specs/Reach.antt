-- What is decided of a frame, as a function of the mode, circuit, b, t and D. Document 01 leaves it to the program whether it is spent or decides
-- beyond its budget. Here all places are passed where the conflict search comes to an end within its effort. Where it does not, D
-- places of the support are tried, and no fewer than 16,384: the support are the free bits that lead to the hit in the graph that
-- unrolling gives, and the other free bits are 0 in the first hit. Assumes nothing.
use Rattle.std.specs.Prelude.{◌≡◌, Bool, false, cond, List, ℕ, ◌+◌, ◌*◌, ◌^◌, min, max, leb}
use Rattle.aiger.specs.Circuit.{Circuit}
use Rattle.aiger.specs.Frames.{free_bits, free_bit, size}
use Rattle.aiger.specs.Search.{Decision}
use Rattle.never_search.specs.Runs.{question_by}
use Rattle.enumeration.specs.Choice.{decision_at}
use Rattle.nodes.specs.Graph.{Pair}
use Rattle.cone.specs.Cone.{in_cone}
use Rattle.support.specs.Counting.{passed}
use Rattle.support.specs.Support.{support}
use Rattle.unroll.specs.Chosen.{unrolled_by}
use Rattle.conflicts.specs.declared.Verdict.{Verdict}
use Rattle.conflicts.specs.declared.Verdict.TheVariants.{Found, Clear, Out}
use Rattle.solver.specs.Solved.{solved, solved_floor}
use Rattle.resume.specs.Resume.{before}

-- how many sequences are tried on the circuit, where there are n free bits: all of them up to 12 free bits
unfoldable pub first_places : ℕ → ℕ
first_places n = cond (leb n 12) 4096 64

-- the effort of the conflict search, in steps of its work, at a size and a budget of D: it does not fall with D
unfoldable pub effort : ℕ → ℕ → ℕ
effort units D = 16384 + 16 * units + 32 * min D 8388608

-- what the conflict search says of frame t, in the mode
unfoldable pub searched_by : Bool → Circuit → ℕ → ℕ → ℕ → Verdict
searched_by alone c b t D =
    solved (free_bits c t) (unrolled_by alone c b t).gates (unrolled_by alone c b t).edge (16 * size c t) (effort (size c t) D)

-- it decides nothing: its effort is used up, or a guard stopped it
abbrev pub Undecided : Bool → Circuit → ℕ → ℕ → ℕ → Type 0
Undecided alone c b t D = searched_by alone c b t D ≡ Out

-- all, where the search comes to an end, else a part
abbrev pub decided_or : Verdict → ℕ → ℕ → ℕ
decided_or Found all part = all
decided_or (Clear used) all part = all
decided_or Out all part = part

-- how many sequences of frame t are passed when D places of the support are tried, and no fewer than 16,384
unfoldable pub tried_by : Bool → Circuit → ℕ → ℕ → ℕ → ℕ
tried_by alone c b t D =
    passed (support (free_bits c t) (unrolled_by alone c b t).gates (unrolled_by alone c b t).edge) (free_bits c t) (max D 16384)

-- the floor that the conflict search comes to in frame t: a sequence before which none hits
unfoldable pub floor_by : Bool → Circuit → ℕ → ℕ → ℕ → ℕ
floor_by alone c b t D =
    solved_floor (free_bits c t) (unrolled_by alone c b t).gates (unrolled_by alone c b t).edge (16 * size c t) (effort (size c t) D)

-- the end of the places that are tried, of D: sequence x, if they all lie before it, else the sequence after them
abbrev pub end_of : ℕ → List Pair → ℕ → ℕ → ℕ → ℕ
end_of n gs root D x = cond (leb D (before (in_cone n gs root) (free_bit n x) n)) x (passed (support n gs root) n D)

-- where frame t is spent none of so many sequences hits: the floor, or what is tried; the latter where there are more than 1,024 free
-- bits. What the search tells is made of it (Clause 12.10)
unfoldable pub reached_by : Bool → Circuit → ℕ → ℕ → ℕ → ℕ
reached_by alone c b t D =
    cond (leb (free_bits c t) 1024)
    (end_of (free_bits c t) (unrolled_by alone c b t).gates (unrolled_by alone c b t).edge (max D 16384) (floor_by alone c b t D))
    (tried_by alone c b t D)

-- how many sequences of frame t are passed, in counting order, where none of them hits
unfoldable pub reach_by : Bool → Circuit → ℕ → ℕ → ℕ → ℕ
reach_by alone c b t D = decided_or (searched_by alone c b t D) (2 ^ free_bits c t) (tried_by alone c b t D)

unfoldable pub decision_by : Bool → Circuit → ℕ → ℕ → ℕ → Decision
decision_by alone c b t D = decision_at (question_by alone c b) t (reach_by alone c b t D)

-- ---- the same of any hit

abbrev pub tried : Circuit → ℕ → ℕ → ℕ → ℕ
tried c b t D = tried_by false c b t D

abbrev pub floor_of : Circuit → ℕ → ℕ → ℕ → ℕ
floor_of c b t D = floor_by false c b t D

abbrev pub reached : Circuit → ℕ → ℕ → ℕ → ℕ
reached c b t D = reached_by false c b t D

abbrev pub decision_of : Circuit → ℕ → ℕ → ℕ → Decision
decision_of c b t D = decision_by false c b t D
