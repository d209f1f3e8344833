-- What the operation waveform answers. Assumes nothing.
use Rattle.std.specs.Prelude.{ℕ}
use Rattle.aiger.specs.Load.{Answer, refused, gives}
use Rattle.waveform.specs.declared.WaveformAnswer.{WaveformAnswer}
use Rattle.waveform.specs.declared.WaveformAnswer.TheVariants.{Length, Refused}

-- the text's length, or the number of the refusal
abbrev pub answered : WaveformAnswer → Answer ℕ
answered (Length n) = gives n
answered (Refused n) = refused n
