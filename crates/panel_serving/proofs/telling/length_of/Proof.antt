-- The sum of two numbers of bytes. Assumes nothing.
use Rattle.std.proofs.Common.{rules}
use Rattle.panel_serving.proofs.telling.length_of.Statement.{statement}
use Rattle.panel_serving.proofs.telling.length_of.Tie as tie

returns : tie.Need-returns
returns c = c.wrapping_add_usize.ensures

pub length_of_spec : {M : Type 1} → statement M
length_of_spec =
    tie.close
    (tie.spec (λ c κs. search rules) returns)
