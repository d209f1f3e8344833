use Rattle.std.proofs.Common.{◌≡◌, ◌≤◌, min}
use Rattle.resume.specs.Resume.{place_of}
use Rattle.resume.proofs.place_of.Given as goal

-- y is the place of the bits below v
abbrev pub invariant-loop-v : goal.invariant-loop-v
invariant-loop-v l = record { small : l.y ≤ 4294967296; is : l.y ≡ min 4294967296 (place_of l.work l.bits l.v) }
