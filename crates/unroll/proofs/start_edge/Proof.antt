-- `unroll::start_edge` meets its contract. Assumes nothing.
use mathlib.Core.Path.{sym, ◌∙◌}
use borrow.Author.Rules.{rules}
use Rattle.unroll.proofs.start_edge.Statement.{statement}
use Rattle.unroll.proofs.start_edge.Tie as tie

equals-requires : tie.Need-equals-requires
equals-requires c κs = tt

returns : tie.Need-returns-then-equals
returns c = rw (sym c.equals.ensures ∙ c.if-equals.true) c.free_edge.ensures

is-true-requires : tie.Need-is_true-requires
is-true-requires c κs = tt

returns-2 : tie.Need-returns
returns-2 c = rw (sym c.equals.ensures ∙ c.if-equals.false, c.is_true.ensures)

pub start_edge_spec : {M : Type 1} → statement M
start_edge_spec =
    tie.close
    (tie.spec equals-requires (λ c κs. search rules) returns is-true-requires returns-2)
