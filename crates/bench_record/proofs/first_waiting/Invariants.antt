use Rattle.std.proofs.Common.{◌≡◌, ◌+◌, ◌-◌, ◌%◌}
use Rattle.bench_record.specs.Steps.{first_in}
use Rattle.bench_record.proofs.first_waiting.Given as goal

-- the first that waits is the first from the k-th number on
abbrev pub invariant-loop-k : goal.invariant-loop-k
invariant-loop-k l = first_in l.shared l.user l.next 16 ≡ first_in l.shared l.user ((l.next + l.k) % 16) (16 - l.k)
