use native.Mathlib.Omega.{arith}
use Rattle.simulation.proofs.Blocks.{in-here, in-none}
use borrow.Author.Rules.{rules}
use Rattle.simulation.proofs.first_in.Statement.{statement}
use Rattle.simulation.proofs.first_in.Tie as tie
use Rattle.simulation.proofs.first_in.Reads as reads
use Rattle.simulation.proofs.first_in.Lts as lts
use Rattle.words.proofs.first_difference.Reads as first-difference-reads

returns : tie.Need-returns-then-y-total
returns c = let a = c.args in in-here a.block a.hits a.total c.first_difference-p.result c.first_difference-p.ensures (omega arith)

returns-2 : tie.Need-returns
returns-2 c = let a = c.args in in-none a.block a.hits a.total c.first_difference-p.result c.first_difference-p.ensures (omega arith)

pub first_in_spec : {M : Type 1} → statement M
first_in_spec = tie.close (tie.spec (λ c κs. search rules) (λ c. search rules) (λ c. search rules) (λ c. search rules) returns returns-2)
