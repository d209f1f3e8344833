-- `conflicts::relieve` meets its contract. Assumes nothing.
use Rattle.conflicts.specs.Conflicts as Cf
use mathlib.Core.Path.{refl}
use borrow.Author.Rules.{rules}
use Rattle.conflicts.proofs.relieve.Statement.{statement}
use Rattle.conflicts.proofs.relieve.Tie as tie

returns : tie.Need-returns-then-is_full
unfolding Cf.relieved
returns c = rw (
  ← c.is_full.ensures,
  c.if-is_full.true,
) (c.forget.ensures)

returns-2 : tie.Need-returns
unfolding Cf.relieved
returns-2 c = rw (← c.is_full.ensures, c.if-is_full.false) (record { words = refl; search = refl })

pub relieve_spec : {M : Type 1} → statement M
relieve_spec = tie.close (tie.spec (λ c κs. search rules) (λ c κs. search rules) (λ c. search rules) returns returns-2)
