-- `states::known` meets its contract. The loop's invariant: no entry from next on has the state. It is said of every table of this form
-- and every list of entries that it holds. Assumes nothing.
use mathlib.Core.Path.{◌≡◌, refl, sym, ap, ap₂, ◌∙◌}
use mathlib.Core.List.{List}
use Prim.Native.Nat.{ℕ, ◌+◌, ◌-◌, ◌*◌, ◌≤◌, ◌<◌}
use native.Mathlib.Omega.{arith}
use borrow.Author.Tests.{eqb-true}
use lib.ListN.{length, get_or}
use Rattle.machine.specs.Layers.{Entry}
use Rattle.states.specs.declared.Table.{Table}
use Rattle.states.specs.Number.{number_at, bucket_of}
use Rattle.states.specs.Table.{Stored}
use Rattle.states.proofs.Numbers.{bucket-small}
use Rattle.states.proofs.Places.{record-before}
use Rattle.states.proofs.Walk.{differs, Walk, walk_start, walk_more, walk-less, walk-found, walk_end}
use borrow.Author.Rules.{rules}
use Rattle.states.proofs.known.Statement.{statement}
use Rattle.states.proofs.known.Tie as tie

abbrev invariant-loop : tie.invariant-loop-next
invariant-loop records h s stride next₀ next =
    (p : Table) (es : List Entry) → stride ≡ p.width + 4 → length s ≡ p.width
    → h ≡ bucket_of p.width p.buckets (number_at s 0 (length s)) → Stored p records es → Walk p es (number_at s 0 (length s)) next

abbrev decreases-loop : tie.decreases-loop-next
decreases-loop records h s stride next₀ next = next

add-stride : tie.Need-overflow_add-stride invariant-loop decreases-loop
add-stride c = let t = c.requires.0.1 in omega (arith, c.requires.1.0)

mul_next : tie.Need-overflow_mul-next invariant-loop decreases-loop
mul_next c =
    let t = c.requires.0.1 in
    let p = c.args.table in
    let b = bucket-small p.width p.buckets (number_at c.args.s.now 0 (length c.args.s.now)) t.buckets.some in
    omega (
      arith,
      t.buckets.heads,
      c.requires.1.1,
      record-before (p.width + 4) c.args.h p.buckets (omega (arith, c.requires.1.1)),
    )

mul-next-2 : tie.Need-offset_bounds-records-stride invariant-loop decreases-loop
mul-next-2 c =
    let t = c.requires.0.1 in
    let p = c.args.table in
    let b = bucket-small p.width p.buckets (number_at c.args.s.now 0 (length c.args.s.now)) t.buckets.some in
    omega (
      arith,
      t.buckets.heads,
      c.requires.1.1,
      record-before (p.width + 4) c.args.h p.buckets (omega (arith, c.requires.1.1)),
    )

shared-slice-read-next : tie.Need-bounds-records-stride invariant-loop decreases-loop
shared-slice-read-next c =
    let t = c.requires.0.1 in
    let p = c.args.table in
    let b = bucket-small p.width p.buckets (number_at c.args.s.now 0 (length c.args.s.now)) t.buckets.some in
    omega (
      arith,
      t.buckets.heads,
      c.requires.1.1,
      record-before (p.width + 4) c.args.h p.buckets (omega (arith, c.requires.1.1)),
    )

cast-next : tie.Need-overflow_cast-next invariant-loop decreases-loop
cast-next c = omega (
  arith,
  c.shared_slice_known-3-1.given ((c.args.table.width + 4) * c.args.h),
)

loop-holds : tie.Need-loop-next-init invariant-loop decreases-loop
loop-holds c = λ p es e w q t. walk_start p es (number_at c.args.s.now 0 (length c.args.s.now)) t c.args.h _ q (ap (λ (x : ℕ). get_or c.args.records.now (x * c.args.h) 0) e)

mul_at : tie.Need-overflow_mul-at invariant-loop decreases-loop
mul_at c =
    let t = c.requires.0.1 in
    let p = c.args.table in
    let w = c.loop-next.invariant p c.requires.0.0 refl c.requires.1.0 c.requires.1.1 t in
    omega (
      arith,
      c.requires.1.0,
      t.held.room,
      w.bound,
      record-before (p.width + 4) (c.loop-next.next - 1) (length c.requires.0.0) (omega (arith, w.bound)),
    )

add_same : tie.Need-overflow_add-at invariant-loop decreases-loop
add_same c =
    let t = c.requires.0.1 in
    let p = c.args.table in
    let w = c.loop-next.invariant p c.requires.0.0 refl c.requires.1.0 c.requires.1.1 t in
    omega (
      arith,
      c.requires.1.0,
      t.held.room,
      w.bound,
      record-before (p.width + 4) (c.loop-next.next - 1) (length c.requires.0.0) (omega (arith, w.bound)),
    )

same-requires : tie.Need-same-requires invariant-loop decreases-loop
same-requires c κs =
    let t = c.requires.0.1 in
    let p = c.args.table in
    let w = c.loop-next.invariant p c.requires.0.0 refl c.requires.1.0 c.requires.1.1 t in
    omega (
      arith,
      c.requires.1.0,
      t.held.room,
      w.bound,
      record-before (p.width + 4) (c.loop-next.next - 1) (length c.requires.0.0) (omega (arith, w.bound)),
    )

returns : tie.Need-returns-then-same invariant-loop decreases-loop
returns c =
    λ es t.
    let p = c.args.table in
    let w = c.requires.1.0 in
    let N = c.loop-next.next in
    let r = c.args.records.now in
    let s = c.args.s.now in
    walk-found p es (number_at s 0 (length s)) t N (N - 1) (omega arith) (c.loop-next.invariant p es refl w c.requires.1.1 t)
    (ap (number_at r ((p.width + 4) * (N - 1) + 4)) (sym w)
    ∙ eqb-true (number_at r ((c.args.table.width + 4) * (N - 1) + 4)
    (length s)) (number_at s 0 (length s)) (sym c.same.ensures ∙ c.if-same.true))

add-next : tie.Need-overflow_add-next invariant-loop decreases-loop
add-next c =
    let t = c.requires.0.1 in
    let p = c.args.table in
    let w = c.loop-next.invariant p c.requires.0.0 refl c.requires.1.0 c.requires.1.1 t in
    omega (
      arith,
      c.requires.1.0,
      t.held.room,
      w.bound,
      record-before (p.width + 4) (c.loop-next.next - 1) (length c.requires.0.0) (omega (arith, w.bound)),
    )

mul-next-3 : tie.Need-offset_bounds-records-at invariant-loop decreases-loop
mul-next-3 c =
    let t = c.requires.0.1 in
    let p = c.args.table in
    let w = c.loop-next.invariant p c.requires.0.0 refl c.requires.1.0 c.requires.1.1 t in
    omega (
      arith,
      c.requires.1.0,
      t.held.room,
      w.bound,
      record-before (p.width + 4) (c.loop-next.next - 1) (length c.requires.0.0) (omega (arith, w.bound)),
    )

shared-slice-read-next-2 : tie.Need-bounds-records-at invariant-loop decreases-loop
shared-slice-read-next-2 c =
    let t = c.requires.0.1 in
    let p = c.args.table in
    let w = c.loop-next.invariant p c.requires.0.0 refl c.requires.1.0 c.requires.1.1 t in
    omega (
      arith,
      c.requires.1.0,
      t.held.room,
      w.bound,
      record-before (p.width + 4) (c.loop-next.next - 1) (length c.requires.0.0) (omega (arith, w.bound)),
    )

cast-next-2 : tie.Need-overflow_cast-next-in-loop-next invariant-loop decreases-loop
cast-next-2 c = omega (
  arith,
  c.shared_slice_known-in-loop-next-1.given ((c.args.table.width + 4) * (c.loop-next.next - 1) + 1),
)

loop-less : tie.Need-loop-next-smaller invariant-loop decreases-loop
loop-less c =
    let p = c.args.table in
    let es = c.requires.0.0 in
    let t = c.requires.0.1 in
    let s = c.args.s.now in
    walk-less p es (number_at s 0 (length s)) t c.loop-next.next (c.loop-next.next - 1) _ (omega arith) (c.loop-next.invariant p es refl c.requires.1.0 c.requires.1.1 t) refl

loop-again : tie.Need-loop-next-preserved invariant-loop decreases-loop
loop-again c =
    λ p es e w q t.
    let N = c.loop-next.next in
    let r = c.args.records.now in
    let s = c.args.s.now in
    walk_more p es (number_at s 0 (length s)) t N (N - 1) _ (omega arith) (c.loop-next.invariant p es e w q t)
    (λ z. differs (number_at r ((c.args.table.width + 4) * (N -
    1) + 4) (length s)) (number_at s 0 (length s)) (sym c.same.ensures ∙ c.if-same.false)
    (ap₂ (λ (x : ℕ) (y : ℕ). number_at r (x * (N - 1) + 4) y) e w ∙ z))
    (ap (λ (x : ℕ). get_or r (x * (N - 1) + 1) 0) e)

returns-2 : tie.Need-returns invariant-loop decreases-loop
returns-2 c =
    λ es t.
    let p = c.args.table in
    let w = c.requires.1.0 in
    walk_end p es (number_at c.args.s.now 0 (length c.args.s.now)) t c.loop-next.next (omega arith) (c.loop-next.invariant p es refl w c.requires.1.1 t)

pub known_spec : {M : Type 1} → statement M
known_spec =
    tie.close
    (tie.spec invariant-loop decreases-loop add-stride mul_next mul-next-2 shared-slice-read-next cast-next loop-holds (λ c. search rules) mul_at add_same same-requires returns add-next mul-next-3 shared-slice-read-next-2 cast-next-2 loop-less loop-again returns-2)
