-- What the code of the stages answers. Assumes nothing.
use Rattle.std.specs.Prelude.{◌≡◌, List, ◌++◌, ℕ, ◌≤◌}
use Rattle.aiger.specs.Circuit.{Circuit}
use Rattle.aiger.specs.Frames.{free_bits}
use Rattle.aiger.specs.Search.{question}
use Rattle.enumeration.specs.Frame.{FreeBits}
use Rattle.stages.specs.Endings.{Cut, Staged, Stage, staged_at, NoneBefore, AllSound}
use Rattle.stages.specs.Choice.{listed}
use Rattle.staged.specs.declared.Passed.{Passed}
use Rattle.staged.specs.declared.Passed.TheVariants as passed
use Rattle.staged.specs.declared.Rounds.{Rounds}
use Rattle.staged.specs.declared.Rounds.TheVariants as all
use Rattle.staged.specs.Schedule.{later_of, round_of, stages_of}

-- What bound k lets be seen of a stage. After a hit, working memory begins with the free bits of the first one.
abbrev pub Shows : Circuit → ℕ → Staged → List ℕ → Passed → Type 0
Shows c k s work (passed.Hit t) = (x : ℕ) × (staged_at k s ≡ Cut.hit t x) × FreeBits (free_bits c t) x work
Shows c k s work passed.Nothing = staged_at k s ≡ Cut.none
Shows c k s work passed.Never = staged_at k s ≡ Cut.never
Shows c k s work (passed.GaveUp t) = staged_at k s ≡ Cut.gave_up t
Shows c k s work (passed.CutOff t) = staged_at k s ≡ Cut.cut_off t

-- The same of a list that begins with some stages and has ss after them: where those give up at frame t, no frame before t has a hit, and
-- the list gives what ss give from there on.
abbrev pub Passes : Circuit → (b k D : ℕ) → List Stage → Staged → List ℕ → Passed → Type 0
Passes c b k D ss o work (passed.Hit t) = (x : ℕ) × (staged_at k o ≡ Cut.hit t x) × FreeBits (free_bits c t) x work
Passes c b k D ss o work passed.Nothing = staged_at k o ≡ Cut.none
Passes c b k D ss o work passed.Never = staged_at k o ≡ Cut.never
Passes c b k D ss o work (passed.GaveUp t) = (t ≤ k) × NoneBefore (question c b) t × (o ≡ listed ss t D)
Passes c b k D ss o work (passed.CutOff t) = staged_at k o ≡ Cut.cut_off t

-- what comes after the layers of round r, from a frame on, with any stages after it
abbrev pub LaterIs : Circuit → (b k D first r : ℕ) → List ℕ → Passed → Type 0
LaterIs c b k D first r work a =
    (ss : List Stage) → AllSound (question c b) ss → Passes c b k D ss (listed (later_of c b r ++ ss) first D) work a

-- round r from a frame on, with any stages after it
abbrev pub RoundIs : Circuit → (b k D first r : ℕ) → List ℕ → Passed → Type 0
RoundIs c b k D first r work a =
    (ss : List Stage) → AllSound (question c b) ss → Passes c b k D ss (listed (round_of c b r ++ ss) first D) work a

-- all rounds
abbrev pub RoundsAre : Circuit → (b k D : ℕ) → List ℕ → Rounds → Type 0
RoundsAre c b k D work (all.Hit t) = (x : ℕ) × (staged_at k (listed (stages_of c b) 0 D) ≡ Cut.hit t x) × FreeBits (free_bits c t) x work
RoundsAre c b k D work all.Nothing = staged_at k (listed (stages_of c b) 0 D) ≡ Cut.none
RoundsAre c b k D work all.Never = staged_at k (listed (stages_of c b) 0 D) ≡ Cut.never
RoundsAre c b k D work (all.Left t) = staged_at k (listed (stages_of c b) 0 D) ≡ Cut.cut_off t
