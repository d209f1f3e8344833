-- `set_search::search_sets` meets its contract. Assumes nothing.
use Rattle.std.proofs.lemmas.Bool.{not_from_false}
use mathlib.Core.Path.{◌≡◌, refl, sym, ap, ◌∙◌, subst}
use Prim.Native.Nat.{ℕ, ◌≤◌, ◌<◌}
use native.Mathlib.Omega.{arith}
use borrow.Author.Rules.{rules}
use Rattle.layout.specs.Words.{circuit_in}
use Rattle.limits.proofs.Sizes.{limited, counts_of, size_is}
use Rattle.influence.specs.Cone.{part_of}
use Rattle.state_sets.proofs.Follow.{refused}
use Rattle.set_search.proofs.Turns.{small-frame, not-able}
use Rattle.set_search.proofs.search_sets.Statement.{statement}
use Rattle.set_search.proofs.search_sets.Tie as tie

size-requires : tie.Need-size-requires
size-requires c κs = (limited c.requires.0.held c.requires.0.layout_of, omega (arith, c.requires.1.bound, c.requires.1.within))

returns : tie.Need-returns-then-size-lt1024
returns c =
    let a = c.args in
    let p = c.requires.1 in
    small-frame (part_of (circuit_in a.m.now) a.stage.b) a.stage.b a.stage.share a.stage.first a.stage.k p.within p.bound
    (omega (arith, c.if-size-lt1024.true, c.size.ensures ∙ size_is (counts_of c.requires.0.held c.requires.0.layout_of) a.stage.first))

is-able-requires : tie.Need-is_able-requires
is-able-requires c κs = (c.requires.0, c.requires.1.bad)

returns-2 : tie.Need-returns-then-not-is_able
returns-2 c =
    let a = c.args in
    let p = c.requires.1 in
    not-able (part_of (circuit_in a.m.now) a.stage.b) a.stage.b a.stage.share a.stage.first a.stage.k p.within p.bound
    (sym c.is_able.ensures ∙ refused c.is_able.result (not_from_false _ c.if-not-is_able.true))

try-orders-requires : tie.Need-try_orders-requires
try-orders-requires c κs =
    let a = c.args in (
      c.requires.0,
      (c.requires.1, omega (arith, c.if-size-lt1024.false, c.size.ensures ∙ size_is (counts_of c.requires.0.held c.requires.0.layout_of) a.stage.first)),
    )

same_length : tie.Need-shape_of-work
same_length c = c.try_orders.auto.work

returns-3 : tie.Need-returns
returns-3 c = c.try_orders.ensures

pub search_sets_spec : {M : Type 1} → statement M
search_sets_spec =
    tie.close
    (tie.spec size-requires returns is-able-requires returns-2 try-orders-requires same_length returns-3)
