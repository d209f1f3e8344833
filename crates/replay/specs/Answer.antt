-- The answer of the papers for each case of replay's enum. Assumes nothing.
use Rattle.std.specs.Prelude.{◌≡◌, List, ℕ}
use Rattle.aiger.specs.Circuit.{Circuit}
use Rattle.aiger.specs.Load.{Answer, refused, gives}
use Rattle.completions.specs.Either.{eithers, Verdict, all, no, mixed, shows, verdict}
use Rattle.blocks.specs.declared.Instance.{Instance}
use Rattle.pinned_runs.specs.Obeys.{pinned_shows}
use Rattle.pinned_runs.specs.Places.{pin_at, demoted, Settled}
use Rattle.replay.specs.declared.ReplayAnswer.{ReplayAnswer}
use Rattle.replay.specs.declared.ReplayAnswer.TheVariants.{All, No, Mixed, Refused}

abbrev pub answered : ReplayAnswer → Answer Verdict
answered All = gives all
answered No = gives no
answered Mixed = gives mixed
answered (Refused n) = refused n

-- the same question of a body whose `x` are counted
abbrev pub recounted : Instance → List ℕ → Instance
recounted w body =
    record { layout = w.layout; q = record { bad = w.q.bad; frames = w.q.frames; eithers = eithers body } }

-- r is the verdict on a body
abbrev pub Judged : Circuit → ℕ → List ℕ → ReplayAnswer → Type 0
Judged c b body r = answered r ≡ gives (verdict (shows c b) body)

-- r is the verdict on a body under the pins q
abbrev pub JudgedUnder : Circuit → (ℕ → ℕ) → ℕ → List ℕ → ReplayAnswer → Type 0
JudgedUnder c q b body r = answered r ≡ gives (verdict (pinned_shows c q b) body)

abbrev pub demoted_answer : Answer Verdict → Answer Verdict
demoted_answer (refused n) = refused n
demoted_answer (gives v) = gives (demoted v)

-- r is the verdict on a body with the pins' bits in place of each `x` that is held
pub record SettledJudged (c : Circuit) (q : ℕ → ℕ) (b frames : ℕ) (body : List ℕ) (r : ReplayAnswer) : Type 0 where
  pub text : List ℕ
  pub settled : Settled (pin_at c q frames) body text
  pub judged : Judged c b text r
