-- `set_table::is_free` meets its contract. Assumes nothing.
use mathlib.Core.Path.{◌∙◌}
use native.Mathlib.Omega.{arith}
use borrow.Author.Rules.{rules}
use Rattle.diagram_rows.proofs.Read.{latches-fit}
use Rattle.set_table.proofs.Resets.{free-test}
use Rattle.set_table.proofs.is_free.Statement.{statement}
use Rattle.set_table.proofs.is_free.Tie as tie

triple-at-requires : tie.Need-triple_at-lit-requires
triple-at-requires c κs = (latches-fit c.requires, omega arith)

triple-at-requires-2 : tie.Need-triple_at-reset-requires
triple-at-requires-2 c κs = (latches-fit c.requires, omega arith)

returns : tie.Need-returns
returns c =
    c.equals.ensures ∙ free-test c.requires c.args.j c.triple_at-reset.result c.triple_at-reset.ensures c.triple_at-lit.result c.triple_at-lit.ensures

pub is_free_spec : {M : Type 1} → statement M
is_free_spec =
    tie.close
    (tie.spec triple-at-requires triple-at-requires-2 (λ c κs. search rules) returns)
