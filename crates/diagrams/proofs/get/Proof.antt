-- `diagrams::get` meets its contract. Assumes nothing.
use mathlib.Core.Path.{sym}
use borrow.Author.Rules.{rules}
use lib.ListN.{get_or-eq_default}
use Rattle.diagrams.proofs.get.Statement.{statement}
use Rattle.diagrams.proofs.get.Tie as tie

returns-2 : tie.Need-returns-else-i-w
returns-2 c = sym (get_or-eq_default c.args.w.now 0 c.if-i-w.false)

pub get_spec : {M : Type 1} → statement M
get_spec =
    tie.close
    (tie.spec (λ c. search rules) (λ c. search rules) (λ c. search rules) returns-2)
