-- `diagrams::room` meets its contract. Assumes nothing.
use borrow.Author.Tests.{lt-ltb, le-ltb}
use borrow.Author.Rules.{rules}
use Rattle.diagrams.specs.Words.{room_of}
use Rattle.diagrams.proofs.room.Statement.{statement}
use Rattle.diagrams.proofs.room.Tie as tie

returns : tie.Need-returns-then-free-used
unfolding room_of
returns c = rw (lt-ltb _ _ c.if-free-used.true)

returns-2 : tie.Need-returns-then-free-used-lt1073741824
unfolding room_of
returns-2 c = rw (le-ltb _ _ c.if-free-used.false, lt-ltb _ _ c.if-free-used-lt1073741824.true)

returns-3 : tie.Need-returns
unfolding room_of
returns-3 c = rw (le-ltb _ _ c.if-free-used.false, le-ltb _ _ c.if-free-used-lt1073741824.false)

pub room_spec : {M : Type 1} → statement M
room_spec =
    tie.close
    (tie.spec (λ c. search rules) (λ c. search rules) (λ c. search rules) returns (λ c. search rules) returns-2 returns-3)
