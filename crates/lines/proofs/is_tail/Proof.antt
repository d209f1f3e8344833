-- `lines::is_tail` meets its contract: one law of the tail for each return. Assumes nothing.
use Rattle.lines.proofs.Tail.{ended, one_byte, other_byte, comment}
use borrow.Author.Rules.{rules}
use native.Mathlib.Omega.{arith}
use Rattle.lines.proofs.is_tail.Statement.{statement}
use Rattle.lines.proofs.is_tail.Tie as tie

returns : tie.Need-returns-then-s-at
returns c = ended c.args.s.now c.args.at (omega arith)

returns-2 : tie.Need-returns-then-s-at-lt2
returns-2 c = one_byte c.args.s.now c.args.at (omega arith) (omega arith)

returns-3 : tie.Need-returns-then-s-at-ne99
returns-3 c =
    let a = c.args in
    other_byte a.s.now a.at (omega arith) c.if-s-at-ne99.true

returns-4 : tie.Need-returns
returns-4 c =
    let a = c.args in
    comment a.s.now a.at (omega arith) c.if-s-at-ne99.false

pub is_tail_spec : {M : Type 1} → statement M
is_tail_spec =
    tie.close
    (tie.spec returns (λ c. search rules) returns-2 (λ c. search rules) returns-3 (λ c. search rules) (λ c. search rules) returns-4)
