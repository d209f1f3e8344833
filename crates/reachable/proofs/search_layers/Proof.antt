-- `reachable::search_layers` meets its contract. Assumes nothing.
use mathlib.Core.Path.{◌≡◌, sym, subst}
use mathlib.Core.List.{List}
use Prim.Native.Nat.{ℕ, ◌≤◌}
use lib.ListN.{length, take}
use native.Mathlib.Omega.{arith}
use lib.Seq.{length-take-le}
use Rattle.layout.specs.Words.{circuit_in}
use Rattle.frames.proofs.Places.{latches-few}
use Rattle.influence.specs.Part.{Closed, part_in}
use Rattle.influence.proofs.Cone.{part-closed}
use Rattle.reachable.specs.Layers.{LayersOf}
use borrow.Author.Rules.{rules}
use Rattle.reachable.proofs.search_layers.Statement.{statement}
use Rattle.reachable.proofs.search_layers.Tie as tie

kept-latches-requires : tie.Need-kept_latches-n-requires
kept-latches-requires c κs = (c.requires.0, (c.requires.1.bad, omega arith))

-- there are as many latches at most as there are words for them
few : (c : tie.After-kept_latches-n) → c.kept_latches-n.result ≤ 1024
few c =
    omega (
      arith,
      c.kept_latches-n.ensures.0,
      latches-few c.requires.0.held c.requires.0.layout_of,
    )

-- the latches that are kept
long : (c : tie.After-kept_latches-n)
    → length (take c.kept_latches-n.result c.kept_latches-n.new.kept)
    ≡ c.kept_latches-n.result
long c =
    length-take-le c.kept_latches-n.result c.kept_latches-n.new.kept (omega (arith, c.kept_latches-n.auto.kept, few c))

array-share-prefix-table : tie.Need-slice_bounds-table-end
array-share-prefix-table c = omega (arith, few c.before.before)

slice-aggregate-search-part : tie.Need-slice_bounds-search_part-end
slice-aggregate-search-part c = sym (long c.before.before.before)

search-part-requires : tie.Need-search_part-requires
search-part-requires c κs =
    let a = c.args in (
      c.requires.0,
      (
        c.requires.1,
        subst (λ (ks : List ℕ). Closed (part_in a.m.now ks) a.stage.b) (sym c.kept_latches-n.ensures.1)
            (part-closed (circuit_in a.m.now) a.stage.b),
        omega (arith, long c.before.before.before, few c.before.before.before),
      ),
    )

same_length : tie.Need-shape_of-work
same_length c = c.search_part.auto.work

returns : tie.Need-returns
returns c =
    let a = c.args in
    subst
    (λ (ks : List ℕ).
    LayersOf (part_in a.m.now ks) a.stage.b a.stage.first a.stage.limit a.stage.k c.search_part.new.work c.search_part.result)
    c.kept_latches-n.ensures.1 c.search_part.ensures

pub search_layers_spec : {M : Type 1} → statement M
search_layers_spec =
    tie.close
    (tie.spec (λ c. search rules) kept-latches-requires array-share-prefix-table slice-aggregate-search-part search-part-requires same_length returns)
