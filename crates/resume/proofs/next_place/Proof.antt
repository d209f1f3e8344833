-- `resume::next_place` meets its contract. Assumes nothing.
use native.Mathlib.Omega.{arith}
use Rattle.resume.proofs.Turns.{is_none, is_some}
use borrow.Author.Rules.{rules}
use Rattle.resume.proofs.next_place.Statement.{statement}
use Rattle.resume.proofs.next_place.Tie as tie
use Rattle.resume.proofs.next_place.Reads as reads
use Rattle.resume.proofs.next_place.Lts as lts

returns-2 : tie.Need-returns-then-y-ge2147483648
returns-2 c = rw (is_some c.args.mark c.if-mark-eq0.false) (omega arith)

returns-3 : tie.Need-returns-then-digit-eq0
returns-3 c = rw (is_some c.args.mark c.if-mark-eq0.false, is_none c.args.digit c.if-digit-eq0.true) (omega arith)

returns-4 : tie.Need-returns-else-digit-eq0
returns-4 c = rw (is_some c.args.mark c.if-mark-eq0.false, is_some c.args.digit c.if-digit-eq0.false) (omega arith)

pub next_place_spec : {M : Type 1} → statement M
next_place_spec =
    tie.close (tie.spec (λ c. search rules) returns-2 (λ c. search rules) (λ c. search rules) (λ c. search rules) returns-3 returns-4)
