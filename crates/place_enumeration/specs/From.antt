-- What the enumeration of one frame from a place answers and leaves. Assumes nothing.
use Rattle.std.specs.Prelude.{◌≡◌, List, ℕ, ◌^◌, ◌≤◌, ◌<◌, length}
use Rattle.aiger.specs.Circuit.{Circuit}
use Rattle.aiger.specs.Frames.{free_bits}
use Rattle.aiger.specs.Search.{Decision, reaches}
use Rattle.layout.specs.Words.{word, circuit_in}
use Rattle.layout.specs.declared.Layout.{Layout}
use Rattle.frames.specs.Lanes.{Ready}
use Rattle.enumeration.specs.Choice.{decision}
use Rattle.enumeration.specs.Frame.{FreeBits}
use Rattle.enumeration.specs.declared.Frame.{Frame}
use Rattle.enumeration.specs.declared.Frame.TheVariants.{Hit, Clear, Spent}

-- what is decided of frame t from place lo on, where D sequences are tried
abbrev pub decision_from : Circuit → ℕ → ℕ → ℕ → ℕ → Decision
decision_from c b t lo D = decision (reaches c b t) (2 ^ free_bits c t) lo D

-- a circuit in memory m that is ready to be evaluated, and a frame, a place and a budget that are right
pub record PlaceFits (work m : List ℕ) (layout : Layout) (order : List ℕ) (b t lo D : ℕ) : Type 0 where
  pub ready : Ready m layout order 4097
  pub bad : b < word m 5
  pub last : t ≤ 255
  pub budget : D ≤ 4294967296
  pub start : lo ≤ 4611686022722355200
  pub free : free_bits (circuit_in m) t ≤ length work

-- after a hit, working memory begins with the free bits of the first one
abbrev pub FrameFrom : Circuit → ℕ → ℕ → ℕ → ℕ → List ℕ → Frame → Type 0
FrameFrom c b t lo D work Hit = (x : ℕ) × (decision_from c b t lo D ≡ Decision.hit x) × FreeBits (free_bits c t) x work
FrameFrom c b t lo D work Clear = decision_from c b t lo D ≡ Decision.clear
FrameFrom c b t lo D work Spent = decision_from c b t lo D ≡ Decision.spent
