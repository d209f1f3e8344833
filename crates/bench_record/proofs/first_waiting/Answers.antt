-- `bench_record::first_waiting`: the first that waits is the first from the k-th number on. Assumes nothing.
use Rattle.std.proofs.Common.{◌≡◌, sym, ◌∙◌, ◌+◌, ◌-◌, ◌%◌, arith}
use Rattle.bench_record.proofs.Laws.{stop-in, more-in, none_in}
use Rattle.bench_record.proofs.first_waiting.Goals as goal

pub loop-k-init : goal.loop-k-init
loop-k-init c =
    let e : (c.args.next + 0) % 16 ≡ c.args.next = omega arith in
    rw e

pub returns-then-waits : goal.returns-then-waits
returns-then-waits c =
    sym (c.loop-k.invariant ∙ stop-in c.args.shared.now c.args.user ((c.args.next + c.loop-k.k) % 16) (16 - c.loop-k.k) c.waits.result c.waits.ensures c.if-waits.true (omega arith))

pub loop-k-preserved : goal.loop-k-preserved
loop-k-preserved c =
    let n = (c.args.next + c.loop-k.k) % 16 in
    let e : (c.args.next + (c.loop-k.k + 1)) % 16 ≡ (n + 1) % 16 = omega arith in
    let d : 16 - (c.loop-k.k + 1) ≡ 16 - c.loop-k.k - 1 = omega arith in
    rw (e, d) (c.loop-k.invariant ∙ more-in c.args.shared.now c.args.user n (16 - c.loop-k.k) c.waits.result c.waits.ensures c.if-waits.false (omega arith))

pub returns : goal.returns
returns c =
    sym (c.loop-k.invariant ∙ none_in c.args.shared.now c.args.user ((c.args.next + c.loop-k.k) % 16) (16 - c.loop-k.k) (omega arith))
