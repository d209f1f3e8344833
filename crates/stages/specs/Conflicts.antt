-- A stage that goes frame by frame with a limit on its effort, as a conflict search does. Assumes nothing.
use Rattle.std.specs.Prelude.{◌≡◌, cond, ℕ, zero, suc, ◌-◌, ◌≤◌, min, ltb}
use Rattle.aiger.specs.Search.{Question}
use Rattle.stages.specs.Endings.{Ending, Staged, Stage, NoHit, FirstAt}

-- What an effort finds of a frame: its first hit, no hit, or nothing.
pub data Verdict : Type 0 where
  hit : ℕ → Verdict
  clear : Verdict
  out : Verdict

-- An attempt at a frame: what it finds, and the effort that it used.
pub record Attempt : Type 0 where
  pub verdict : Verdict
  pub used : ℕ

-- attempts, by frame and effort
abbrev pub Attempts : Type 0
Attempts = ℕ → ℕ → Attempt

-- the effort that a budget allows for a frame, by frame and budget
abbrev pub Efforts : Type 0
Efforts = ℕ → ℕ → ℕ

-- After the verdict on frame t: a hit ends the stage, and a frame without one leads on. A frame that is not decided cuts the list off where
-- the budget allowed less for it than was left of the limit; else the stage gives up.
abbrev pub attempted : Verdict → ℕ → (allowed left : ℕ) → Staged → Staged
attempted (Verdict.hit x) t allowed left later = Staged.ends (Ending.hit t x)
attempted Verdict.clear t allowed left later = later
attempted Verdict.out t allowed left later = cond (ltb allowed left) (Staged.cut_off t) (Staged.ends (Ending.gave_up t))

-- n frames from t on under a budget of D, where so much of the limit is left: each gets the smaller of this and what the budget allows
unfoldable pub attempts_from : Attempts → Efforts → (D n t left : ℕ) → Staged
attempts_from f effort D zero t left = Staged.ends Ending.clear
attempts_from f effort D (suc n) t left =
    attempted (f t (min left (effort t D))).verdict t (effort t D) left
    (attempts_from f effort D n (suc t) (left - (f t (min left (effort t D))).used))

-- the stage with a limit: frames up to 255
unfoldable pub attempt_stage : Attempts → Efforts → ℕ → Stage
attempt_stage f effort limit first D = attempts_from f effort D (256 - first) first limit

-- ---- what is asked of the attempts

-- what a verdict says of frame t
abbrev pub VerdictRight : Question → ℕ → Verdict → Type 0
VerdictRight q t (Verdict.hit x) = FirstAt q t x
VerdictRight q t Verdict.clear = NoHit q t
VerdictRight q t Verdict.out = Unit {0}

-- A verdict says what is so, and an attempt that decides a frame is the same with every larger effort, in what it finds and in what it
-- uses.
pub record AttemptsSound (q : Question) (f : Attempts) : Type 0 where
  pub right : (t e : ℕ) → VerdictRight q t (f t e).verdict
  pub keeps : (t e g : ℕ) → e ≤ g → ((f t e).verdict ≡ Verdict.out → ⊥) → f t g ≡ f t e

-- what a larger budget allows is no less
abbrev pub Grows : Efforts → Type 0
Grows effort = (t D E : ℕ) → D ≤ E → effort t D ≤ effort t E
