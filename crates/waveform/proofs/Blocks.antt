-- Levels over blocks of completions: one block more, and all of them. Assumes nothing.
use mathlib.Core.Path.{◌≡◌, refl, sym, ap, ap₂, ◌∙◌, subst}
use mathlib.Core.Bool.{Bool, true, false, not, cond}
use mathlib.Core.List.{List}
use mathlib.Core.Option.{Option, none, some}
use Prim.Native.Nat.{ℕ, ◌+◌, ◌*◌, ◌^◌, ◌≤◌, ◌<◌}
use native.Mathlib.Decide.{dec_lt}
use native.Mathlib.Omega.{arith}
use borrow.Author.Tests.{eq-eqb, ne_eqb}
use lib.Dec.{T, eqb}
use lib.ListN.{length}
use Rattle.aiger.specs.Circuit.{Circuit}
use Rattle.aiger.specs.Frames.{Run, value_at}
use Rattle.aiger.specs.Lists.{every_below}
use Rattle.aiger.specs.Witness.{Witness}
use Rattle.aiger.proofs.Tests.{below_at, below_all}
use Rattle.completions.specs.Either.{eithers, completion, all_pass}
use Rattle.completions.proofs.Completions.{completes, all-at}
use Rattle.completions.proofs.Forms.{completes-form}
use Rattle.blocks.specs.Runs.{BodyRead, Fits}
use Rattle.vcd.specs.Text.{Level}
use Rattle.vcd.specs.Wires.{literal_at}
use Rattle.levels.specs.Levels.{level_over, joined, after}
use Rattle.levels.proofs.Levels.{same_test, over-same, over-joined}
use Rattle.samples.specs.Passes.{level_of_runs, RunsOf}
use Rattle.waveform.specs.Waveform.{is_high, level_at, frame_count}
use Rattle.waveform.specs.Blocks.{level_below, Bodies}

pub bodies : {c : Circuit} {b frames count : ℕ} {body : List ℕ} → Fits c b frames count body → Bodies c b frames body
bodies {body = body} f v = f.form (completion v body) (completes-form (completes v body))

module _ (c : Circuit) (b frames : ℕ) (body : List ℕ) (B : Bodies c b frames body) where
  -- the run of each completion of a block
  abbrev pub runs : ℕ → ℕ → Run
  runs block p = (B (block * 64 + p)).run

  pub runs_of : (block : ℕ) → RunsOf c body block frames (runs block)
  runs_of block p h = (B (block * 64 + p)).run_at

  high_is : (t k v : ℕ) → value_at c (B v).run t (literal_at c k) ≡ is_high c b t k (completion v body)
  unfolding is_high
  high_is t k v = sym (ap (λ (o : Option Witness). elim o [ none ↦ false | some x ↦ value_at c x.run t (literal_at c k) ]) (B v).reads)

  pub frames-are : frame_count c b body ≡ frames
  unfolding frame_count
  frames-are = ap (λ (o : Option Witness). elim o [ none ↦ 0 | some x ↦ length x.run.rows ]) (B 0).reads ∙ (B 0).run_at.frames-are

  module _ (t k : ℕ) where
    abbrev high : ℕ → Bool
    high v = is_high c b t k (completion v body)

    block-level : (block : ℕ) → level_of_runs c (runs block) t k ≡ level_over 64 (λ p. high (block * 64 + p))
    block-level block =
        over-same 64 (λ p. value_at c (runs block p) t (literal_at c k)) (λ p. high (block * 64 + p)) (λ p h. high_is t k (block * 64 + p))

    -- one block more
    pub level-more : (block : ℕ) → after block (level_below c b body block t k) (level_of_runs c (runs block) t k)
        ≡ level_below c b body (block + 1) t k
    level-more block =
        ap (after block (level_below c b body block t k)) (block-level block)
        ∙ elim (dec_lt 0 block) [
          | yes h ↦
              let e : block * 64 + 64 ≡ (block + 1) * 64 = omega arith in
              ap (λ (x : Bool). cond x (level_over 64 (λ p. high (block * 64 + p)))
              (joined (level_below c b body block t k) (level_over 64 (λ p. high (block * 64 + p)))))
              (ne_eqb block 0 (λ z. omega arith))
              ∙ sym (over-joined (block * 64) 64 high (omega arith) (omega arith)) ∙ ap (λ (n : ℕ). level_over n high) e
          | no h ↦
              let z : block ≡ 0 = omega arith in
              let e : 64 ≡ (block + 1) * 64 = omega arith in
              ap (λ (x : Bool). cond x (level_over 64 (λ p. high (block * 64 + p)))
              (joined (level_below c b body block t k) (level_over 64 (λ p. high (block * 64 + p)))))
              (eq-eqb block 0 z)
              ∙ over-same 64 (λ p. high (block * 64 + p)) high (λ p l. let q : block * 64 + p ≡ p = omega arith in ap high q)
              ∙ ap (λ (n : ℕ). level_over n high) e
        ]

    -- a test of all completions, and of as many numbers or more
    covered : (p : List ℕ → Bool) (n : ℕ) → 2 ^ eithers body ≤ n → every_below n (λ v. p (completion v body))
        ≡ every_below (2 ^ eithers body) (λ v. p (completion v body))
    unfolding all_pass
    covered p n h =
        let q : ℕ → Bool = λ v. p (completion v body) in
        same_test (every_below n q) (every_below (2 ^ eithers body) q)
        (λ s. below_all (2 ^ eithers body) q (λ v l. below_at n q s v (omega arith)))
        (λ s. below_all n q (λ v l. all-at p body s (completion v body) (completes v body)))

    -- all blocks
    pub level_all : (blocks : ℕ) → 2 ^ eithers body ≤ blocks * 64 → level_below c b body blocks t k ≡ level_at c b body t k
    unfolding level_at level_over
    level_all blocks h =
        ap₂ (λ (x y : Bool). cond x Level.high (cond y Level.low Level.either))
        (covered (is_high c b t k) (blocks * 64) h) (covered (λ u. not (is_high c b t k u)) (blocks * 64) h)
