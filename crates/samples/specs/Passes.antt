-- What writing the samples of a block of completions asks and leaves. Assumes nothing.
use Rattle.std.specs.Prelude.{◌≡◌, Bool, false, List, ◌++◌, ℕ, ◌+◌, ◌*◌, ◌≤◌, ◌<◌, length, drop}
use Rattle.aiger.specs.Circuit.{Circuit}
use Rattle.aiger.specs.Frames.{Run, value, value_at}
use Rattle.aiger.specs.Memory.{Holds}
use Rattle.completions.specs.Either.{completion}
use Rattle.layout.specs.Words.{word, circuit_in}
use Rattle.layout.specs.Layout.{LayoutOf}
use Rattle.layout.specs.declared.Layout.{Layout}
use Rattle.frames.specs.Lanes.{lane}
use Rattle.blocks.specs.Runs.{RunAt}
use Rattle.output.specs.Output.{Room, Placed}
use Rattle.vcd.specs.Text.{Level, samples}
use Rattle.vcd.specs.Wires.{literals, literal_at}
use Rattle.levels.specs.Levels.{level_over, after}
use Rattle.samples.specs.declared.Pass.{Pass}

-- the levels of the wires, where the words are those of the variables in 64 runs
abbrev pub level_in : List ℕ → List ℕ → ℕ → Level
level_in m words k = level_over 64 (λ p. value (lane words p) (literal_at (circuit_in m) k))

-- the same in frame t of 64 runs
abbrev pub level_of_runs : Circuit → (ℕ → Run) → ℕ → ℕ → Level
level_of_runs c r t k = level_over 64 (λ p. value_at c (r p) t (literal_at c k))

-- levels for the length of a text, which does not depend on them
abbrev pub low : ℕ → Level
low k = Level.low

-- the text stands in the output at `at`
pub record Stands (out : List ℕ) (at : ℕ) (text : List ℕ) : Type 0 where
  pub rest : List ℕ
  pub stands : drop at out ≡ text ++ rest

-- what a block leaves of a text of levels: where there was a block before it, the old levels stood there, and each is
-- joined with the new one
pub record Rewritten (text : (ℕ → Level) → List ℕ) (block : ℕ) (new : ℕ → Level) (out : List ℕ) (at end : ℕ)
    (out' : List ℕ) : Type 0 where
  pub past : end ≡ at + length (text low)
  pub placed : (old : ℕ → Level) → (0 < block → Stands out at (text old))
      → Placed out at (text (λ k. after block (old k) (new k))) end out'

-- the words and wires that a sample is made of
pub record Wired (m : List ℕ) (layout : Layout) (count n : ℕ) : Type 0 where
  pub held : Holds m (circuit_in m)
  pub layout_of : LayoutOf m layout
  pub room : word m 0 < count
  pub wires : n ≤ length (literals (circuit_in m))

-- a body of so many frames, wires that there are, and room for their samples
pub record PassFits (m body : List ℕ) (pass : Pass) (out : List ℕ) : Type 0 where
  pub wires : pass.wires ≤ length (literals (circuit_in m))
  pub few : pass.frames ≤ 256
  pub inside : length (circuit_in m).latches + 1 + pass.frames * (length (circuit_in m).inputs + 1) ≤ length body
  pub room : Room out pass.at (samples (λ t. low) pass.wires 0 pass.frames)

-- before a block after the first, samples of some levels stand in the output
pub record Sampled (block at wires frames : ℕ) (out : List ℕ) : Type 0 where
  pub level : ℕ → ℕ → Level
  pub stands : 0 < block → Stands out at (samples level wires 0 frames)

-- r p is the run of completion p of a block
abbrev pub RunsOf : Circuit → List ℕ → ℕ → ℕ → (ℕ → Run) → Type 0
RunsOf c body block frames r = (p : ℕ) → p < 64 → RunAt c (completion (block * 64 + p) body) frames (r p)

-- the samples after a block, of the runs of its completions; each completion of a body that was read has a run, so that there are such r
abbrev pub SamplesLeft : Circuit → List ℕ → Pass → List ℕ → ℕ → List ℕ → Type 0
SamplesLeft c body pass out end out' =
    (r : ℕ → Run) → RunsOf c body pass.block pass.frames r → (old : ℕ → ℕ → Level)
    → (0 < pass.block → Stands out pass.at (samples old pass.wires 0 pass.frames))
    → Placed out pass.at (samples (λ t k. after pass.block (old t k) (level_of_runs c r t k)) pass.wires 0 pass.frames) end out'
