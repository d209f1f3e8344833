use Rattle.bench_bytes.proofs.Ended.{Clearing}
use Rattle.bench_record.proofs.end_bench.Given as goal

-- the bytes below i are cleared
abbrev pub invariant-loop-i : goal.invariant-loop-i
invariant-loop-i l = Clearing l.fn.shared l.shared l.user l.i
