use Rattle.resume.specs.Resume.{Copied}
use Rattle.resume.proofs.copy_bits.Given as goal

-- the words below i are copied
abbrev pub invariant-loop-i : goal.invariant-loop-i
invariant-loop-i l = Copied l.from l.i l.fn.to l.to
