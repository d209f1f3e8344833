-- `resolve::append` meets its contract. Assumes nothing.
use borrow.Author.Tests.{le-leb, lt-leb}
use Rattle.resolve.specs.Draft as D
use mathlib.Core.Path.{refl}
use borrow.Author.Rules.{rules}
use Rattle.resolve.proofs.append.Statement.{statement}
use Rattle.resolve.proofs.append.Tie as tie

returns : tie.Need-returns-then-net-taken
unfolding D.appended
returns c = rw (le-leb _ _ c.if-net-taken.true) (record { words = refl; draft = refl })

returns-2 : tie.Need-returns
unfolding D.appended
returns-2 c =
    rw (lt-leb _ _ c.if-net-taken.false)
    (record {
      words = rw (← c.set_literal.ensures)
          c.set_field.ensures;
      draft = refl;
    })

pub append_spec : {M : Type 1} → statement M
append_spec =
    tie.close
    (tie.spec (λ c. search rules) (λ c. search rules) (λ c. search rules) (λ c. search rules) (λ c. search rules) (λ c. search rules) (λ c. search rules) (λ c. search rules) (λ c. search rules) (λ c. search rules) returns (λ c κs. search rules) (λ c κs. search rules) (λ c. search rules) (λ c. search rules) returns-2)
