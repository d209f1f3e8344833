-- `headers::is_named` meets its contract. Assumes nothing.
use Rattle.headers.proofs.Heading.{named-short, named-long}
use borrow.Author.Rules.{rules}
use Rattle.headers.proofs.is_named.Statement.{statement}
use Rattle.headers.proofs.is_named.Tie as tie

returns : tie.Need-returns-then-s-lt4
returns c = named-short c.args.letter c.args.s.now c.if-s-lt4.true

returns-2 : tie.Need-returns
returns-2 c =
    named-long c.args.letter c.args.s.now c.if-s-lt4.false

pub is_named_spec : {M : Type 1} → statement M
is_named_spec =
    tie.close
    (tie.spec returns (λ c. search rules) (λ c. search rules) (λ c. search rules) (λ c. search rules) returns-2)
