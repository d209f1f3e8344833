-- `row_plans::turned_at` meets its contract. Assumes nothing.
use Prim.Native.Nat.{◌-◌}
use native.Mathlib.Omega.{arith}
use borrow.Author.Rules.{rules}
use Rattle.row_plans.proofs.Steps.{turned-even, turned-odd}
use Rattle.row_plans.proofs.turned_at.Statement.{statement}
use Rattle.row_plans.proofs.turned_at.Tie as tie

returns : tie.Need-returns-then-which-eq0
returns c =
    let a = c.args in
    turned-even a.list.now a.n a.which a.k c.get.result c.if-which-eq0.true c.get.ensures

add-get : tie.Need-overflow_add-k
add-get c = omega (arith, c.requires)

sub-get : tie.Need-overflow_sub-n
sub-get c = omega (arith, c.requires)

returns-2 : tie.Need-returns
returns-2 c =
    let a = c.args in
    turned-odd a.list.now a.n a.which a.k c.get-2.result c.if-which-eq0.false c.get-2.ensures

pub turned_at_spec : {M : Type 1} → statement M
turned_at_spec =
    tie.close
    (tie.spec (λ c κs. search rules) returns add-get sub-get (λ c κs. search rules) returns-2)
