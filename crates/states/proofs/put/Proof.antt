-- `states::put` meets its contract. Assumes nothing.
use mathlib.Core.Path.{◌≡◌, refl, sym, ap, ◌∙◌}
use mathlib.Core.List.{List}
use Prim.Native.Nat.{ℕ, ◌+◌, ◌-◌, ◌*◌, ◌≤◌, ◌<◌}
use native.Mathlib.Omega.{arith}
use lib.ListN.{length, get_or, set, length-set}
use Rattle.states.proofs.Laws.{written}
use borrow.Author.Rules.{rules}
use Rattle.states.proofs.put.Statement.{statement}
use Rattle.states.proofs.put.Tie as tie

mul_at : tie.Need-overflow_mul-at
mul_at c = omega (arith, c.requires)

add-records : tie.Need-overflow_add-records
add-records c = omega (arith, c.requires)

mul-records : tie.Need-offset_bounds-records-at
mul-records c = omega (arith, c.requires)

slice-write-records : tie.Need-bounds-records-at
slice-write-records c = omega (arith, c.requires)

add-records-2 : tie.Need-overflow_add-records-2
add-records-2 c = omega (arith, c.requires)

mul-records-2 : tie.Need-offset_bounds-records-at-2
mul-records-2 c = omega (arith, c.requires)

slice-write-records-2 : tie.Need-bounds-records-at-2
slice-write-records-2 c = simp length-set (omega (arith, c.requires))

add-copy : tie.Need-overflow_add-at-2
add-copy c = omega (arith, c.requires)

copy-requires : tie.Need-copy-requires
copy-requires c κs = simp length-set (omega (arith, c.requires))

same_length : tie.Need-shape_of-records
same_length c = c.copy.auto.records ∙ length-set (set c.args.records.now _ _) _ _ ∙ length-set c.args.records.now _ _

returns : tie.Need-returns
returns c =
    let a = c.args in
    written a.records.now a.s.now c.copy.new.records a.n a.parent a.row c.requires
    (c.copy.auto.records ∙ length-set (set c.args.records.now _ _) _ _
    ∙ length-set c.args.records.now _ _) c.copy.ensures

pub put_spec : {M : Type 1} → statement M
put_spec =
    tie.close
    (tie.spec (λ c. search rules) mul_at add-records mul-records slice-write-records add-records-2 mul-records-2 slice-write-records-2 add-copy copy-requires same_length returns)
