-- What the program waveform prints. Circuit memory has 33,032 words, those that a file with M 4,096 needs, and the output 1,572,928 bytes,
-- so that 13 is never given. Assumes nothing.
use Rattle.std.specs.Prelude.{Bool, List, [], ℕ}
use Rattle.aiger.specs.Circuit.{Circuit}
use Rattle.aiger.specs.Load.{load}
use Rattle.completions.specs.Either.{read_either}
use Rattle.aiger.specs.Operations.{judge}
use Rattle.replies.specs.Reply.{Reply, reply_of}
use Rattle.waveform.specs.Waveform.{waveform_of, waveform_tests}

-- on a loaded circuit, where the output has `len` bytes
unfoldable pub shown_reply : Circuit → Bool → List ℕ → ℕ → Reply
shown_reply c only text len =
    reply_of (λ _. record { line = []; out = waveform_of c only (read_either c text) }) (judge (waveform_tests c only text len))

unfoldable pub waveform_reply : List ℕ → Bool → List ℕ → Reply
waveform_reply file only text = reply_of (λ c. shown_reply c only text 1572928) (load 33032 file)
