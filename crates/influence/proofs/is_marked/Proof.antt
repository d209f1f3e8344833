-- `influence::is_marked` meets its contract. Assumes nothing.
use lib.ListN.{get_or}
use Rattle.influence.proofs.Marks.{mark-test}
use borrow.Author.Rules.{rules}
use Rattle.influence.proofs.is_marked.Statement.{statement}
use Rattle.influence.proofs.is_marked.Tie as tie

returns : tie.Need-returns
returns c = let a = c.args in mark-test (get_or a.marks.now a.v.0 0)

pub is_marked_spec : {M : Type 1} → statement M
is_marked_spec =
    tie.close
    (tie.spec (λ c. search rules) (λ c. search rules) (λ c. search rules) returns)
