-- The passes over the samples, block after block. Assumes nothing.
use mathlib.Core.Path.{◌≡◌, refl, sym, ap, ◌∙◌, subst}
use mathlib.Core.List.{List}
use Prim.Native.Nat.{ℕ, ◌+◌, ◌*◌, ◌<◌}
use native.Mathlib.Omega.{arith}
use lib.ListN.{length}
use Rattle.aiger.specs.Circuit.{Circuit}
use Rattle.aiger.specs.Frames.{Run}
use Rattle.completions.specs.Either.{completion}
use Rattle.output.specs.Output.{put_text, Room, Placed}
use Rattle.vcd.specs.Text.{Level, samples}
use Rattle.levels.specs.Levels.{after}
use Rattle.samples.specs.Passes.{level_of_runs, low, Stands, Sampled, SamplesLeft}
use Rattle.samples.specs.declared.Pass.{Pass}
use Rattle.samples.proofs.Samples.{any_run, any-run, samples-size, samples-same}
use Rattle.samples.proofs.Standing.{put-over, stands-placed}
use Rattle.waveform.specs.Blocks.{level_below, Bodies}
use Rattle.waveform.proofs.Blocks.{runs, runs_of, level-more}

-- after the blocks below `block`: their samples stand in the output, and nothing else changed
pub record Passed (c : Circuit) (b : ℕ) (body out₀ : List ℕ) (at n frames block : ℕ) (out : List ℕ) : Type 0 where
  pub stands : 0 < block → Stands out at (samples (level_below c b body block) n 0 frames)
  pub written : 0 < block → out ≡ put_text out₀ at (samples (level_below c b body block) n 0 frames)
  pub covered : (f : ℕ → ℕ → Level) → put_text out at (samples f n 0 frames) ≡ put_text out₀ at (samples f n 0 frames)

pub passed_none : (c : Circuit) (b : ℕ) (body out : List ℕ) (at n frames : ℕ) → Passed c b body out at n frames 0 out
passed_none c b body out at n frames =
    record { stands = λ h. absurd (omega arith); written = λ h. absurd (omega arith); covered = λ f. refl }

-- samples of some levels stand in the output, before the first block and after each
pub sampled-none : (at n frames : ℕ) (out : List ℕ) → Sampled 0 at n frames out
sampled-none at n frames out = record { level = λ t. low; stands = λ h. absurd (omega arith) }

pub sampled-more : (c : Circuit) (body : List ℕ) (pass : Pass) {out : List ℕ}
    → Sampled pass.block pass.at pass.wires pass.frames out
    → Room out pass.at (samples (λ t. low) pass.wires 0 pass.frames) → {end : ℕ} {out' : List ℕ}
    → SamplesLeft c body pass out end out' → Sampled (pass.block + 1) pass.at pass.wires pass.frames out'
sampled-more c body pass {out} p h s =
    let n = pass.wires in
    let frames = pass.frames in
    let r : ℕ → Run = λ p. any_run c (completion (pass.block * 64 + p) body) frames in
    let mixed : ℕ → ℕ → Level = λ t k. after pass.block (p.level t k) (level_of_runs c r t k) in
    let room : Room out pass.at (samples mixed n 0 frames) = omega (arith, samples-size mixed (λ t. low) n 0 frames) in
    record {
      level = mixed;
      stands = λ _.
          stands-placed (samples mixed n 0 frames) room
          (s r (λ p _. any-run c (completion (pass.block * 64 + p) body) frames) p.level p.stands);
    }

module _ (c : Circuit) (b : ℕ) (body out₀ : List ℕ) (pass : Pass) (B : Bodies c b pass.frames body) where
  abbrev text : ℕ → List ℕ
  text k = samples (level_below c b body k) pass.wires 0 pass.frames

  -- one block more
  pub passed-more : {out : List ℕ} → Passed c b body out₀ pass.at pass.wires pass.frames pass.block out
      → Room out pass.at (samples (λ t. low) pass.wires 0 pass.frames) → {end : ℕ} {out' : List ℕ}
      → SamplesLeft c body pass out end out'
      → Passed c b body out₀ pass.at pass.wires pass.frames (pass.block + 1) out'
  passed-more {out} p h {end} {out'} s =
      let n = pass.wires in
      let frames = pass.frames in
      let block = pass.block in
      let mixed : ℕ → ℕ → Level = λ t k. after block (level_below c b body block t k) (level_of_runs c (runs c b frames body B block) t k) in
      let e : samples mixed n 0 frames ≡ text (block + 1) =
      samples-same mixed (level_below c b body (block + 1)) n 0 frames (λ t k _. level-more c b frames body B t k block) in
      let q : Placed out pass.at (text (block + 1)) end out' =
      subst (λ (w : List ℕ). Placed out pass.at w end out') e
      (s (runs c b frames body B block) (runs_of c b frames body B block) (level_below c b body block) p.stands) in
      let room : Room out pass.at (text (block + 1)) =
      omega (arith, samples-size (level_below c b body (block + 1)) (λ t. low) n 0 frames) in
      record {
        stands = λ _. stands-placed (text (block + 1)) room q;
        written = λ _. q.contents ∙ p.covered (level_below c b body (block + 1));
        covered = λ f.
            ap (λ (w : List ℕ). put_text w pass.at (samples f n 0 frames)) q.contents
            ∙ put-over out pass.at (text (block + 1)) (samples f n 0 frames) room
            (samples-size f (level_below c b body (block + 1)) n 0 frames)
            ∙ p.covered f;
      }
