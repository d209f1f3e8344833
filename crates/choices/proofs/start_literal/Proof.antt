-- `choices::start_literal` meets its contract. Assumes nothing.
use borrow.Author.Tests.{le-leb, lt-leb}
use Rattle.choices.specs.Choices as Ch
use mathlib.Core.Path.{refl}
use borrow.Author.Rules.{rules}
use Rattle.choices.proofs.start_literal.Statement.{statement}
use Rattle.choices.proofs.start_literal.Tie as tie

returns : tie.Need-returns-then-net-taken
unfolding Ch.started_literal
returns c = rw (le-leb _ _ c.if-net-taken.true) (record { words = refl; draft = refl })

returns-2 : tie.Need-returns
unfolding Ch.started_literal
returns-2 c =
    rw (lt-leb _ _ c.if-net-taken.false)
    (record { words = c.set_literal.ensures; draft = refl })

pub start_literal_spec : {M : Type 1} → statement M
start_literal_spec =
    tie.close
    (tie.spec (λ c. search rules) (λ c. search rules) (λ c. search rules) (λ c. search rules) (λ c. search rules) (λ c. search rules) (λ c. search rules) (λ c. search rules) returns (λ c κs. search rules) (λ c. search rules) returns-2)
