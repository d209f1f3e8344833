-- The stage of the search that goes frame by frame, with a limit on its effort. Assumes nothing.
use Rattle.std.specs.Prelude.{◌≡◌, List, ℕ, ◌*◌, ◌≤◌, ◌<◌, length}
use Rattle.aiger.specs.Circuit.{Circuit}
use Rattle.aiger.specs.Frames.{free_bits, size}
use Rattle.layout.specs.Words.{word, circuit_in}
use Rattle.layout.specs.declared.Layout.{Layout}
use Rattle.frames.specs.Lanes.{Ready}
use Rattle.enumeration.specs.Frame.{FreeBits}
use Rattle.decision.specs.Reach.{effort}
use Rattle.stages.specs.Endings.{Cut, Stage, staged_at}
use Rattle.stages.specs.Conflicts.{Efforts, attempt_stage}
use Rattle.attempts.specs.Attempts.{attempt_of}
use Rattle.attempts.specs.declared.Staged.{Staged}
use Rattle.attempts.specs.declared.Staged.TheVariants.{Hit, Nothing, GaveUp, CutOff}

-- what a budget allows for a frame
abbrev pub effort_at : Circuit → Efforts
effort_at c t D = effort (size c t) D

-- the stage with a limit
unfoldable pub conflict_stage : Circuit → ℕ → ℕ → Stage
conflict_stage c b limit first D = attempt_stage (attempt_of c b) (effort_at c) limit first D

-- what the stage requires, for frames up to k
pub record StageFits (m : List ℕ) (p : Layout) (order : List ℕ) (b k D : ℕ) (work : List ℕ) : Type 0 where
  pub ready : Ready m p order 4097
  pub bad : b < word m 5
  pub bound : k ≤ 255
  pub some : 1 ≤ D
  pub most : D ≤ 4294967296
  pub units : size (circuit_in m) k ≤ 65536
  pub words : 16 * size (circuit_in m) k ≤ length work

-- what bound k lets be seen of a stage; after a hit, working memory begins with the free bits of the first one
abbrev pub Seen : Circuit → Cut → List ℕ → Staged → Type 0
Seen c s work (Hit t) = (x : ℕ) × (s ≡ Cut.hit t x) × FreeBits (free_bits c t) x work
Seen c s work Nothing = s ≡ Cut.none
Seen c s work (GaveUp t) = s ≡ Cut.gave_up t
Seen c s work (CutOff t) = s ≡ Cut.cut_off t

abbrev pub StageIs : Circuit → (b k D first limit : ℕ) → List ℕ → Staged → Type 0
StageIs c b k D first limit work r = Seen c (staged_at k (conflict_stage c b limit first D)) work r
