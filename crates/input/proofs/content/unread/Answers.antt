-- Nothing was read. Assumes nothing.
use Rattle.std.proofs.Common.{ap, ℕ}
use lib.ListN.{replicate}
use Rattle.input.specs.Contents.{nothing}
use Rattle.input.specs.declared.reading.Read.{Read}
use Rattle.input.proofs.content.unread.Goals as goal

pub returns : goal.returns
unfolding nothing
returns c = ap (λ (r : Read). record { bytes = replicate {A = ℕ} 66826 0; count = 0; reads = 0; last = r }) c.failure.ensures
