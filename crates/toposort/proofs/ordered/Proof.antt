-- `ordered` meets its contract: where cause 8 refuses, the order is cleared. Assumes nothing.
use mathlib.Core.Path.{ap, ◌∙◌}
use mathlib.Core.List.{List}
use Prim.Native.Nat.{ℕ}
use lib.ListN.{replicate}
use borrow.Author.Rules.{rules}
use Rattle.toposort.proofs.ordered.Statement.{statement}
use Rattle.toposort.proofs.ordered.Tie as tie

returns : tie.Need-returns-then-test_order
returns c = rw c.if-test_order.true at c.test_order.ensures

returns-2 : tie.Need-returns
returns-2 c = (
  rw c.if-test_order.false at c.test_order.ensures,
  c.clear.ensures ∙ ap {B = List ℕ} (λ (n : ℕ). replicate n 0) c.test_order.auto.order,
)

pub ordered_spec : {M : Type 1} → statement M
ordered_spec =
    tie.close
    (tie.spec (λ c κs. search rules) (λ c. search rules) returns (λ c κs. search rules) (λ c. search rules) returns-2)
