-- `heap::cool` meets its contract. Assumes nothing.
use borrow.Author.Tests.{le-ltb, lt-ltb}
use Rattle.heap.specs.Heap as Hp
use mathlib.Core.Path.{refl}
use borrow.Author.Rules.{rules}
use Rattle.heap.proofs.cool.Statement.{statement}
use Rattle.heap.proofs.cool.Tie as tie

returns : tie.Need-returns-then-heap-lt268435456
unfolding Hp.cooled
returns c = rw (lt-ltb _ _ c.if-heap-lt268435456.true) (record { words = refl; heap = refl })

returns-2 : tie.Need-returns
unfolding Hp.cooled
returns-2 c =
    rw (le-ltb _ _ c.if-heap-lt268435456.false)
    (record { words = c.scale.ensures; heap = refl })

pub cool_spec : {M : Type 1} → statement M
cool_spec =
    tie.close
    (tie.spec (λ c. search rules) (λ c. search rules) returns (λ c κs. search rules) (λ c. search rules) (λ c. search rules) returns-2)
