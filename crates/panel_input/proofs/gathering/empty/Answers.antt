-- Nothing was read. Assumes nothing.
use Rattle.std.proofs.Common.{refl}
use Rattle.panel_input.specs.Line.{empty_line}
use Rattle.panel_input.proofs.gathering.empty.Goals as goal

pub returns : goal.returns
unfolding empty_line
returns c = refl
