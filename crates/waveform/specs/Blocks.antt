-- What the passes over the blocks of completions leave, and what is answered on a witness that was read. Assumes nothing.
use Rattle.std.specs.Prelude.{◌≡◌, Bool, List, ℕ, ◌*◌, ◌≤◌, ◌<◌, length}
use Rattle.aiger.specs.Circuit.{Circuit}
use Rattle.aiger.specs.Operations.{front}
use Rattle.completions.specs.Either.{completion}
use Rattle.blocks.specs.Runs.{BodyRead}
use Rattle.output.specs.Output.{put_text}
use Rattle.vcd.specs.Text.{Level, samples}
use Rattle.levels.specs.Levels.{level_over}
use Rattle.samples.specs.declared.Pass.{Pass}
use Rattle.waveform.specs.Waveform.{is_high, waveform}
use Rattle.waveform.specs.declared.WaveformAnswer.{WaveformAnswer}
use Rattle.waveform.specs.declared.WaveformAnswer.TheVariants.{Length, Refused}

-- the level of wire k in frame t over the completions of the blocks below `block`
abbrev pub level_below : Circuit → ℕ → List ℕ → ℕ → ℕ → ℕ → Level
level_below c b body block t k = level_over (block * 64) (λ v. is_high c b t k (completion v body))

-- every completion is a run of so many frames
abbrev pub Bodies : Circuit → ℕ → ℕ → List ℕ → Type 0
Bodies c b frames body = (v : ℕ) → BodyRead c b frames (completion v body)

-- the samples over all blocks, of which there are `all.block`
abbrev pub BlocksLeft : Circuit → List ℕ → Pass → List ℕ → List ℕ → Type 0
BlocksLeft c body all out out' =
    (b : ℕ) → Bodies c b all.frames body → 0 < all.block
    → out' ≡ put_text out all.at (samples (level_below c b body all.block) all.wires 0 all.frames)

-- the text and its length, or 13 for an output that is too short
abbrev pub ShownAs : Circuit → Bool → ℕ × List ℕ → List ℕ → WaveformAnswer → List ℕ → Type 0
ShownAs c only h out (Length n) out' =
    (n ≡ length (waveform c only h)) × (n ≤ length out) × (out' ≡ front (waveform c only h) out)
ShownAs c only h out (Refused n) out' = (n ≡ 13) × (length out < length (waveform c only h)) × (out' ≡ out)
