-- `resolve::start` meets its contract. Assumes nothing.
use Rattle.resolve.specs.Draft as D
use mathlib.Core.Path.{refl}
use borrow.Author.Rules.{rules}
use Rattle.resolve.proofs.start.Statement.{statement}
use Rattle.resolve.proofs.start.Tie as tie

is-reason-requires : tie.Need-is_reason-requires
is-reason-requires c κs = tt

returns : tie.Need-returns-then-is_reason
unfolding D.started
returns c =
    rw (
      ← c.is_reason.ensures,
      c.if-is_reason.true,
    ) c.gather.ensures

returns-2 : tie.Need-returns
unfolding D.started
returns-2 c = rw (← c.is_reason.ensures, c.if-is_reason.false) (record { words = refl; draft = refl })

pub start_spec : {M : Type 1} → statement M
start_spec = tie.close (tie.spec is-reason-requires (λ c κs. search rules) (λ c. search rules) returns returns-2)
