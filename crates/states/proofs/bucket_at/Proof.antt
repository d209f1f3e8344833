-- `states::bucket_at` meets its contract. Assumes nothing.
use mathlib.Core.Path.{◌≡◌, refl, sym, ap, ap₂, ◌∙◌}
use mathlib.Core.List.{List}
use Prim.Native.Nat.{ℕ, ◌+◌, ◌-◌, ◌*◌, ◌≤◌, ◌<◌}
use native.Mathlib.Omega.{arith}
use lib.ListN.{length}
use Rattle.states.specs.Number.{number_at, bucket_of}
use Rattle.states.proofs.Numbers.{part-number}
use borrow.Author.Rules.{rules}
use Rattle.states.proofs.bucket_at.Statement.{statement}
use Rattle.states.proofs.bucket_at.Tie as tie

add-from : tie.Need-overflow_add-from
add-from c = omega (arith, c.requires.1)

mul-from : tie.Need-overflow_mul-from
mul-from c = omega (arith, c.requires.1)

add-from-2 : tie.Need-overflow_add-from-2
add-from-2 c = omega (arith, c.requires.1)

add-end : tie.Need-overflow_add-end
add-end c = omega (arith, c.requires.1)

mul-bucket : tie.Need-offset_bounds-records-from
mul-bucket c = omega (arith, c.requires.1)

sub-bucket : tie.Need-slice_bounds-bucket-count
sub-bucket c = omega (arith, c.requires.1)

part-bucket-start : tie.Need-slice_bounds-bucket-start
part-bucket-start c = omega (arith, c.requires.1)

part-bucket-end : tie.Need-slice_bounds-bucket-end
part-bucket-end c = omega (arith, c.requires.1)

bucket-requires : tie.Need-bucket-requires
bucket-requires c κs = c.requires.0

returns : tie.Need-returns
returns c =
    let a = c.args in
    let at = (a.table.width + 4) * a.n + 4 in
    let e : at + a.table.width - at ≡ a.table.width = omega arith in
    let q = part-number a.records.now at (at + a.table.width - at) (omega (
      arith,
      c.requires.1,
    )) in
    c.bucket.ensures ∙ ap₂ (λ (x : ℕ) (y : ℕ). bucket_of x a.table.buckets y) (q.0 ∙ e) (q.1 ∙ ap (number_at a.records.now at) e)

pub bucket_at_spec : {M : Type 1} → statement M
bucket_at_spec =
    tie.close
    (tie.spec add-from mul-from add-from-2 add-end mul-bucket sub-bucket part-bucket-start part-bucket-end bucket-requires returns)
