-- `layout::free_start` meets its contract. Assumes nothing.
use mathlib.Core.Path.{sym, ◌∙◌}
use borrow.Author.Rules.{rules}
use Rattle.layout.proofs.free_start.Statement.{statement}
use Rattle.layout.proofs.free_start.Tie as tie

returns : tie.Need-returns-then-equals
returns c = rw (sym c.equals.ensures ∙ c.if-equals.true)

returns-2 : tie.Need-returns-else-equals
returns-2 c = rw (sym c.equals.ensures ∙ c.if-equals.false)

pub free_start_spec : {M : Type 1} → statement M
free_start_spec =
    tie.close
    (tie.spec (λ c κs. search rules) returns returns-2)
