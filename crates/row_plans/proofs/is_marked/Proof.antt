-- `row_plans::is_marked` meets its contract. Assumes nothing.
use mathlib.Core.Path.{ap, ◌∙◌}
use Prim.Native.Nat.{◌-◌}
use borrow.Author.Rules.{rules}
use Rattle.aiger.specs.Bits.{nonzero}
use Rattle.influence.proofs.Marks.{mark-test}
use Rattle.row_plans.proofs.is_marked.Statement.{statement}
use Rattle.row_plans.proofs.is_marked.Tie as tie

returns : tie.Need-returns
returns c = mark-test c.mark_of.result ∙ ap nonzero c.mark_of.ensures

pub is_marked_spec : {M : Type 1} → statement M
is_marked_spec =
    tie.close
    (tie.spec (λ c κs. search rules) returns)
