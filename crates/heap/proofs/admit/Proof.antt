-- `heap::admit` meets its contract. Assumes nothing.
use Rattle.heap.specs.Heap as Hp
use mathlib.Core.Path.{refl}
use borrow.Author.Rules.{rules}
use Rattle.heap.proofs.admit.Statement.{statement}
use Rattle.heap.proofs.admit.Tie as tie

returns : tie.Need-returns-then-is_wanted
unfolding Hp.admitted
returns c = rw (
  ← c.is_wanted.ensures,
  c.if-is_wanted.true,
) (c.rise.ensures)

returns-2 : tie.Need-returns
unfolding Hp.admitted
returns-2 c = rw (← c.is_wanted.ensures, c.if-is_wanted.false) (record { words = refl; heap = refl })

pub admit_spec : {M : Type 1} → statement M
admit_spec =
    tie.close
    (tie.spec (λ c κs. search rules) (λ c κs. search rules) (λ c. search rules) returns (λ c. search rules) returns-2)
