-- Each turn puts a record in its bucket. Assumes nothing.
use mathlib.Core.Path.{◌≡◌, sym, subst}
use Prim.Native.Nat.{ℕ, ◌+◌, ◌*◌, ◌<◌}
use native.Mathlib.Omega.{arith}
use Rattle.states.specs.Number.{number_at}
use Rattle.states.proofs.Numbers.{bucket-small}
use Rattle.states.proofs.Places.{record-before}
use Rattle.states.proofs.Laws.{Filling, filling-start, filling-more, filling-end}
use Rattle.states.proofs.link_all.Goals as goal

pub loop-n-init : goal.loop-n-init
loop-n-init c = filling-start c.args.table c.args.count c.args.records.now

pub bucket_at-h-requires : goal.bucket_at-h-requires
bucket_at-h-requires c =
    let a = c.args in
    (c.requires.buckets.few, omega (arith, c.requires.count_in_bounds, record-before (a.table.width + 4) c.loop-n.n a.count (omega arith)))

pub link-requires : goal.link-requires
link-requires c =
    let p = c.args.table in
    let h = bucket-small p.width p.buckets (number_at c.loop-n.records ((p.width + 4) * c.loop-n.n + 4) p.width) c.requires.buckets.some in
    let hl : c.bucket_at-h.result < p.buckets = omega (arith, c.bucket_at-h.ensures) in (
      omega (arith, c.requires.count_in_bounds, record-before (p.width + 4) c.loop-n.n c.args.count (omega arith)),
      omega (arith, c.requires.buckets.heads, record-before (p.width + 4) c.bucket_at-h.result p.buckets hl),
      omega (arith, c.requires.count_in_bounds),
    )

pub loop-n-preserved : goal.loop-n-preserved
loop-n-preserved c =
    let a = c.args in
    subst (Filling a.table a.count a.records.now (c.loop-n.n + 1)) (sym c.link.ensures)
    (filling-more a.table a.count a.records.now c.loop-n.n c.loop-n.records c.bucket_at-h.result c.loop-n.invariant c.requires.buckets (omega arith) c.requires.count_in_bounds.0
    c.bucket_at-h.ensures)

pub returns : goal.returns
returns c =
    let a = c.args in
    let e : c.loop-n.n ≡ a.count = omega arith in
    let f = subst (λ (n : ℕ). Filling a.table a.count a.records.now n c.loop-n.records) e c.loop-n.invariant in
    (f.kept, filling-end a.table a.count a.records.now c.loop-n.records f c.requires.buckets)
