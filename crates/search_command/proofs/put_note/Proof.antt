-- `search_command::put_note` meets its contract. Assumes nothing.
use borrow.Author.Rules.{rules}
use borrow.Author.Tests.{not-true, not-false}
use Rattle.replies.proofs.Putting.{placed-fronts, fronts-none}
use Rattle.search_command.proofs.put_note.Statement.{statement}
use Rattle.search_command.proofs.put_note.Tie as tie

returns : tie.Need-returns-then-not-never
returns c = rw c.if-not-never.true (fronts-none c.args.note.now)

returns-2 : tie.Need-returns
returns-2 c = rw c.if-not-never.false (placed-fronts c.put.ensures)

pub put_note_spec : {M : Type 1} → statement M
put_note_spec =
    tie.close
    (tie.spec returns (λ c κs. search rules) (λ c. search rules) returns-2)
