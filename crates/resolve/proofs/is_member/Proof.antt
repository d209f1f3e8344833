-- `resolve::is_member` meets its contract. Assumes nothing.
use borrow.Author.Tests.{le-leb, lt-leb}
use Rattle.resolve.specs.Draft as D
use mathlib.Core.Path.{refl}
use borrow.Author.Rules.{rules}
use Rattle.resolve.proofs.is_member.Statement.{statement}
use Rattle.resolve.proofs.is_member.Tie as tie

returns : tie.Need-returns-then-d-p
unfolding D.is_member
returns c = rw (← c.field-p.ensures, le-leb _ _ c.if-d-p.true) refl

returns-2 : tie.Need-returns
unfolding D.is_member
returns-2 c = rw (← c.field-p.ensures, lt-leb _ _ c.if-d-p.false, ← c.literal.ensures)

pub is_member_spec : {M : Type 1} → statement M
is_member_spec = tie.close (tie.spec (λ c κs. search rules) returns (λ c κs. search rules) returns-2)
