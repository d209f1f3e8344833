-- What the search of one frame answers and leaves. Assumes nothing.
use Rattle.std.specs.Prelude.{◌≡◌, List, ℕ, ◌<◌, get_or}
use Rattle.aiger.specs.Bits.{nonzero}
use Rattle.aiger.specs.Circuit.{Circuit}
use Rattle.aiger.specs.Frames.{free_bits, free_bit}
use Rattle.aiger.specs.Search.{Decision, question}
use Rattle.enumeration.specs.Choice.{decision_at}
use Rattle.enumeration.specs.declared.Frame.{Frame}
use Rattle.enumeration.specs.declared.Frame.TheVariants.{Hit, Clear, Spent}

-- words 0 to n - 1 are the free bits of sequence x
abbrev pub FreeBits : ℕ → ℕ → List ℕ → Type 0
FreeBits n x words = (j : ℕ) → j < n → nonzero (get_or words j 0) ≡ free_bit n x j

-- after a hit, working memory begins with the free bits of the first one
abbrev pub FrameIs : Circuit → ℕ → ℕ → ℕ → List ℕ → Frame → Type 0
FrameIs c b t D work Hit = (x : ℕ) × (decision_at (question c b) t D ≡ Decision.hit x) × FreeBits (free_bits c t) x work
FrameIs c b t D work Clear = decision_at (question c b) t D ≡ Decision.clear
FrameIs c b t D work Spent = decision_at (question c b) t D ≡ Decision.spent
