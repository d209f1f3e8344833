-- What the program widen prints. Circuit memory has 33,032 words, those that a file with M 4,096 needs, and the output 66,826 bytes, one
-- more than the longest witness. Assumes nothing.
use Rattle.std.specs.Prelude.{List, [], ℕ}
use Rattle.std.proofs.Math.Option.{Option, none, some}
use Rattle.aiger.specs.Circuit.{Circuit}
use Rattle.aiger.specs.Load.{load}
use Rattle.aiger.specs.Operations.{judge}
use Rattle.completions.specs.Either.{read_either, widened_text}
use Rattle.completions.specs.Operations.{widen_tests}
use Rattle.replies.specs.Reply.{Reply, reply_of}

-- the widened witness, by what was read of it
abbrev pub widened_out : Circuit → List ℕ → Option (ℕ × List ℕ) → Reply
widened_out c witness none = record { line = []; out = [] }
widened_out c witness (some h) = record { line = []; out = widened_text c witness h }

-- widening on a loaded circuit, where the output has `len` bytes
unfoldable pub widened_reply : Circuit → List ℕ → ℕ → Reply
widened_reply c witness len = reply_of (λ _. widened_out c witness (read_either c witness)) (judge (widen_tests c witness len))

-- widen: the widened witness, or the line of a refusal
unfoldable pub widen_reply : List ℕ → List ℕ → Reply
widen_reply file witness = reply_of (λ c. widened_reply c witness 66826) (load 33032 file)
