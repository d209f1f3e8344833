-- `resume::next_rank` meets its contract. Assumes nothing.
use native.Mathlib.Omega.{arith}
use Rattle.resume.proofs.Turns.{is_none, is_some}
use borrow.Author.Rules.{rules}
use Rattle.resume.proofs.next_rank.Statement.{statement}
use Rattle.resume.proofs.next_rank.Tie as tie
use Rattle.resume.proofs.next_rank.Reads as reads
use Rattle.resume.proofs.next_rank.Lts as lts

returns : tie.Need-returns-then-mark-eq0
returns c = rw (is_none c.args.mark c.if-mark-eq0.true) (omega arith)

returns-2 : tie.Need-returns-else-mark-eq0
returns-2 c = rw (is_some c.args.mark c.if-mark-eq0.false) (omega arith)

pub next_rank_spec : {M : Type 1} → statement M
next_rank_spec = tie.close (tie.spec (λ c. search rules) returns returns-2)
