-- `states::link` meets its contract. Assumes nothing.
use mathlib.Core.Path.{◌≡◌, refl, ◌∙◌}
use Prim.Native.Nat.{ℕ, ◌+◌, ◌*◌, ◌≤◌, ◌<◌}
use native.Mathlib.Omega.{arith}
use lib.ListN.{length, length-set}
use borrow.Author.Rules.{rules}
use Rattle.states.proofs.link.Statement.{statement}
use Rattle.states.proofs.link.Tie as tie

add-stride : tie.Need-overflow_add-stride
add-stride c = omega (arith, c.requires.0)

mul_at : tie.Need-overflow_mul-at
mul_at c = omega (arith, c.requires.0)

mul-head : tie.Need-overflow_mul-head
mul-head c = omega (arith, c.requires.1)

mul-records : tie.Need-offset_bounds-records-head
mul-records c = omega (arith, c.requires.1)

slice-read-records : tie.Need-bounds-records-head
slice-read-records c = omega (arith, c.requires.1)

add-records : tie.Need-overflow_add-records
add-records c = omega (arith, c.requires.0)

mul-records-2 : tie.Need-offset_bounds-records-at
mul-records-2 c = omega (arith, c.requires.0)

slice-write-records : tie.Need-bounds-records-at
slice-write-records c = omega (arith, c.requires.0)

add-records-2 : tie.Need-overflow_add-records-2
add-records-2 c = omega (arith, c.requires.2)

cast-records : tie.Need-overflow_cast-records
cast-records c = omega (arith, c.requires.2)

mul-records-3 : tie.Need-offset_bounds-records-head-2
mul-records-3 c = omega (arith, c.requires.1)

slice-write-records-2 : tie.Need-bounds-records-head-2
slice-write-records-2 c = simp length-set (omega (arith, c.requires.1))

returns : tie.Need-returns
returns c = refl

pub link_spec : {M : Type 1} → statement M
link_spec =
    tie.close
    (tie.spec add-stride mul_at mul-head mul-records slice-read-records add-records mul-records-2 slice-write-records add-records-2 cast-records mul-records-3 slice-write-records-2 (λ c. search rules) returns)
