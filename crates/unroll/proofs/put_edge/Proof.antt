-- `unroll::put_edge` meets its contract. Assumes nothing.
use mathlib.Core.Path.{ap}
use lib.ListN.{set}
use borrow.Author.Rules.{rules}
use Rattle.unroll.proofs.put_edge.Statement.{statement}
use Rattle.unroll.proofs.put_edge.Tie as tie

returns : tie.Need-returns
returns c = ap (set c.args.map.now c.args.v.0) c.word.ensures

pub put_edge_spec : {M : Type 1} → statement M
put_edge_spec =
    tie.close (tie.spec (λ c. search rules) (λ c κs. search rules) (λ c. search rules) (λ c. search rules) (λ c. search rules) (λ c. search rules) returns)
