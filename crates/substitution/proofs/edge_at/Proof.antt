-- `substitution::edge_at` meets its contract. Assumes nothing.
use mathlib.Core.Path.{sym}
use borrow.Author.Rules.{rules}
use lib.ListN.{get_or-eq_default}
use Rattle.substitution.proofs.edge_at.Statement.{statement}
use Rattle.substitution.proofs.edge_at.Tie as tie

returns-2 : tie.Need-returns-else-i-by
returns-2 c = sym (get_or-eq_default c.args.by.now 0 c.if-i-by.false)

pub edge_at_spec : {M : Type 1} → statement M
edge_at_spec =
    tie.close
    (tie.spec (λ c. search rules) (λ c. search rules) (λ c. search rules) returns-2)
