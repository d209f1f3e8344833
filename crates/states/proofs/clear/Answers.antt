-- Each turn empties a bucket. Assumes nothing.
use mathlib.Core.Path.{◌≡◌, ◌∙◌}
use Prim.Native.Nat.{ℕ, ◌+◌, ◌*◌, ◌<◌}
use native.Mathlib.Omega.{arith}
use borrow.Author.Count.{below_more}
use lib.ListN.{get_or, set}
use lib.Seq.{get_or-set_same, get_or-set_other}
use Rattle.states.proofs.Places.{record-before, head-same}
use Rattle.states.proofs.clear.Goals as goal

pub overflow_add-stride : goal.overflow_add-stride
overflow_add-stride c = omega (arith, record-before (c.args.table.width + 4) 0 c.args.table.buckets c.requires.some)

pub overflow_mul-records : goal.overflow_mul-records
overflow_mul-records c = omega (arith, record-before (c.args.table.width + 4) c.loop-h.h c.args.table.buckets (omega arith))

pub offset_bounds-records-stride : goal.offset_bounds-records-stride
offset_bounds-records-stride c = omega (arith, record-before (c.args.table.width + 4) c.loop-h.h c.args.table.buckets (omega arith))

pub bounds-records-stride : goal.bounds-records-stride
bounds-records-stride c = omega (arith, record-before (c.args.table.width + 4) c.loop-h.h c.args.table.buckets (omega arith))

pub loop-h-preserved : goal.loop-h-preserved
loop-h-preserved c =
    let k = c.args.table.width + 4 in
    let at = k * c.loop-h.h in (
      below_more (λ g. get_or (set c.loop-h.records at 0) (k * g) 0 ≡ 0) c.loop-h.h
          (λ g l. get_or-set_other c.loop-h.records at (k * g) 0 0 (λ e. let z = head-same k g c.loop-h.h (omega arith) e in omega arith) ∙ c.loop-h.invariant.0 g l)
          (get_or-set_same c.loop-h.records at 0 0 (omega (arith, record-before k c.loop-h.h c.args.table.buckets (omega arith)))),
      λ j f. get_or-set_other c.loop-h.records at j 0 0 (f c.loop-h.h) ∙ c.loop-h.invariant.1 j f,
    )

pub returns : goal.returns
returns c = record { none = λ h l. c.loop-h.invariant.0 h (omega arith); others = c.loop-h.invariant.1 }
