-- Clause 12.7: replay and widening under the pins q, where q i is the pin of input i: a completion that differs from a pin is no hit.
-- Their tests are those of the circuit and the given text. Assumes nothing.
use Rattle.std.specs.Prelude.{◌≡◌, Bool, true, false, cond, ◌&&◌, List, [], ◌∷◌, ◌++◌, ℕ, suc, ◌-◌, eqb, length, take}
use Rattle.std.proofs.Math.Option.{Option, none, some}
use Rattle.aiger.specs.Lists.{every}
use Rattle.aiger.specs.Circuit.{Circuit}
use Rattle.aiger.specs.Load.{Answer}
use Rattle.aiger.specs.Frames.{Run}
use Rattle.aiger.specs.Witness.{read_run, confirms}
use Rattle.aiger.specs.Operations.{front, Operated}
use Rattle.completions.specs.Either.{Verdict, verdict, read_either, widened}
use Rattle.completions.specs.Operations.{either_tests, widen_tests}
use Rattle.pins.specs.Pins.{is_held}

-- whether value v of an input is what its pin p says; a free input may have either
abbrev pub obeys_pin : ℕ → Bool → Bool
obeys_pin p v = cond (is_held p) (eqb p (cond v 1 0)) true

-- the values of a frame's inputs, from the i-th on
unfoldable pub obeys_row : (ℕ → ℕ) → ℕ → List Bool → Bool
obeys_row q i [] = true
obeys_row q i (v ∷ vs) = obeys_pin (q i) v && obeys_row q (suc i) vs

-- every frame of a run has the pins' values at the held inputs
unfoldable pub obeys : (ℕ → ℕ) → Run → Bool
obeys q r = every (obeys_row q 0) r.rows

-- whether w, the start values and the frames that follow line `b`, is a run that replay confirms and that obeys the pins
unfoldable pub pinned_shows : Circuit → (ℕ → ℕ) → ℕ → List ℕ → Bool
pinned_shows c q b w = elim (read_run c b w) [ none ↦ false | some x ↦ confirms c x && obeys q x.run ]

-- replay: all, no or mixed by the completions of what follows line `b`
pub record PinnedReplayEffect (q : ℕ → ℕ) (text : List ℕ) (c : Circuit) (says : Verdict) (left : Unit {0}) : Type 0 where
  pub bad : ℕ
  pub body : List ℕ
  pub reads : read_either c text ≡ some (bad, body)
  pub judged : says ≡ verdict (pinned_shows c q bad) body

abbrev pub PinnedReplayed : List ℕ → (ℕ → ℕ) → List ℕ → Answer Verdict → Type 0
PinnedReplayed m q text a = Operated m (λ c. either_tests c text) tt (PinnedReplayEffect q text) a tt

-- a witness widened: the two lines in front stay. A witness that is not answered all stays, and `x` at a held input is never answered all
unfoldable pub pinned_widened_text : Circuit → (ℕ → ℕ) → List ℕ → ℕ × List ℕ → List ℕ
pinned_widened_text c q text h = take (length text - length h.1) text ++ widened (pinned_shows c q h.0) h.1

pub record PinnedWidenEffect (q : ℕ → ℕ) (text out : List ℕ) (c : Circuit) (n : ℕ) (left : List ℕ) : Type 0 where
  pub bad : ℕ
  pub body : List ℕ
  pub reads : read_either c text ≡ some (bad, body)
  pub count : n ≡ length text
  pub writes : left ≡ front (pinned_widened_text c q text (bad, body)) out

abbrev pub PinnedWidened : List ℕ → (ℕ → ℕ) → List ℕ → List ℕ → Answer ℕ → List ℕ → Type 0
PinnedWidened m q text out a out' = Operated m (λ c. widen_tests c text (length out)) out (PinnedWidenEffect q text out) a out'
