-- `resume::marked_bit` meets its contract. Assumes nothing.
use Rattle.resume.proofs.Turns.{is_some}
use borrow.Author.Rules.{rules}
use Rattle.resume.proofs.marked_bit.Statement.{statement}
use Rattle.resume.proofs.marked_bit.Tie as tie
use Rattle.resume.proofs.marked_bit.Reads as reads
use Rattle.resume.proofs.marked_bit.Lts as lts

returns-2 : tie.Need-returns
returns-2 c = rw (is_some c.args.mark c.if-mark-eq0.false) c.bit_of.ensures

pub marked_bit_spec : {M : Type 1} → statement M
marked_bit_spec = tie.close (tie.spec (λ c. search rules) (λ c κs. search rules) returns-2)
