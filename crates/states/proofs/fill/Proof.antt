-- `states::fill` meets its contract. Assumes nothing.
use mathlib.Core.Path.{◌≡◌, ◌∙◌}
use Prim.Native.Nat.{ℕ, ◌+◌, ◌*◌, ◌≤◌}
use native.Mathlib.Omega.{arith}
use lib.ListN.{length}
use Rattle.states.proofs.Laws.{buckets-kept, filled-both}
use borrow.Author.Rules.{rules}
use Rattle.states.proofs.fill.Statement.{statement}
use Rattle.states.proofs.fill.Tie as tie

clear-requires : tie.Need-clear-requires
clear-requires c κs = c.requires.0

link-all-requires : tie.Need-link_all-requires
link-all-requires c κs = (
  buckets-kept c.clear.auto.records c.requires.0,
  (
    omega (arith, c.clear.auto.records, c.requires.1.0),
    c.requires.1.1,
  ),
)

same_length : tie.Need-shape_of-records
same_length c = c.link_all.auto.records ∙ c.clear.auto.records

returns : tie.Need-returns
returns c =
    let a = c.args in
    filled-both a.table a.count a.records.now c.clear.new.records c.link_all.new.records c.clear.auto.records c.clear.ensures
    c.link_all.ensures.0 c.link_all.ensures.1

pub fill_spec : {M : Type 1} → statement M
fill_spec =
    tie.close
    (tie.spec clear-requires link-all-requires same_length returns)
