-- `test_order` meets its contract: the table of definitions links variables to gates, and the gates in words are the circuit's.
-- Assumes nothing.
use Rattle.toposort.proofs.Orders.{linked-part, sorted_part}
use Rattle.meaning.proofs.Lists.{get_d-zeros}
use native.Mathlib.Omega.{arith}
use borrow.Author.Rules.{rules}
use Rattle.toposort.proofs.test_order.Statement.{statement}
use Rattle.toposort.proofs.test_order.Tie as tie

sort-requires : tie.Need-sort-requires
sort-requires c κs = (
  linked-part c.args.w.now c.requires.0 c.requires.1.0 c.args.table.now c.requires.1.1.0
      c.layout_of-p.result c.layout_of-p.ensures.0,
  ((omega arith, omega arith, omega arith), λ g l. get_d-zeros 3072 g),
)

returns : tie.Need-returns
returns c =
    sorted_part c.args.w.now c.requires.0 c.requires.1.0 c.args.table.now c.requires.1.1.0
    c.layout_of-p.result c.layout_of-p.ensures.0 _ _ _ c.sort.result
    c.sort.ensures.0 c.sort.ensures.1 c.sort.ensures.2

pub test_order_spec : {M : Type 1} → statement M
test_order_spec =
    tie.close
    (tie.spec (λ c κs. search rules) (λ c. search rules) (λ c. search rules) (λ c. search rules) (λ c. search rules) (λ c. search rules) (λ c. search rules) (λ c. search rules) sort-requires (λ c. search rules) returns)
