-- `decision::mark_of` meets its contract. Assumes nothing.
use Rattle.decision.proofs.Counted.{mark-none, mark-one}
use borrow.Author.Rules.{rules}
use Rattle.decision.proofs.mark_of.Statement.{statement}
use Rattle.decision.proofs.mark_of.Tie as tie
use Rattle.decision.proofs.mark_of.Reads as reads
use Rattle.decision.proofs.mark_of.Lts as lts

returns : tie.Need-returns-then-work-k-eq0
returns c = mark-none _ c.if-work-k-eq0.true

returns-2 : tie.Need-returns-else-work-k-eq0
returns-2 c = mark-one _ c.if-work-k-eq0.false

pub mark_of_spec : {M : Type 1} → statement M
mark_of_spec =
    tie.close (tie.spec (λ c. search rules) (λ c. search rules) (λ c. search rules) (λ c. search rules) returns returns-2)
