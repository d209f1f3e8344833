-- Clause 12.2: what replay and widening answer on witnesses that may hold `x`, and what they leave, in the form of `aiger` `Operations`.
-- Assumes nothing.
use Rattle.std.specs.Prelude.{◌≡◌, Bool, true, false, List, [], ◌∷◌, ◌++◌, ℕ, leb, length}
use Rattle.std.proofs.Math.Option.{Option, none, some}
use Rattle.aiger.specs.Circuit.{Circuit}
use Rattle.aiger.specs.Load.{Answer}
use Rattle.aiger.specs.Operations.{front, Test, need, Operated, is_some}
use Rattle.completions.specs.Either.{eithers, Verdict, shows, verdict, read_either, widened_text}

-- whether what was read holds at most 16 `x`
abbrev pub few_eithers : Option (ℕ × List ℕ) → Bool
few_eithers none = false
few_eithers (some h) = leb (eithers h.1) 16

-- replay's tests: 14 where the text has not the form of a witness of the circuit, then 16 for more than 16 `x`
abbrev pub either_tests : Circuit → List ℕ → List Test
either_tests c text = need 14 (is_some (read_either c text)) ∷ need 16 (few_eithers (read_either c text)) ∷ []

-- replay: all, no or mixed by the completions of what follows line `b`. Nothing is lent to be written.
pub record EitherReplayEffect (text : List ℕ) (c : Circuit) (says : Verdict) (left : Unit {0}) : Type 0 where
  pub bad : ℕ
  pub body : List ℕ
  pub reads : read_either c text ≡ some (bad, body)
  pub judged : says ≡ verdict (shows c bad) body

abbrev pub EitherReplayed : List ℕ → List ℕ → Answer Verdict → Type 0
EitherReplayed m text a = Operated m (λ c. either_tests c text) tt (EitherReplayEffect text) a tt

-- widening's tests: replay's, then 13 for an output of `len` bytes that is shorter than the witness
abbrev pub widen_tests : Circuit → List ℕ → ℕ → List Test
widen_tests c text len = either_tests c text ++ (need 13 (leb (length text) len) ∷ [])

-- widening: the widened witness at the front of the output, and as the answer its length, which is the given witness's
pub record WidenEffect (text out : List ℕ) (c : Circuit) (n : ℕ) (left : List ℕ) : Type 0 where
  pub bad : ℕ
  pub body : List ℕ
  pub reads : read_either c text ≡ some (bad, body)
  pub count : n ≡ length text
  pub writes : left ≡ front (widened_text c text (bad, body)) out

abbrev pub Widened : List ℕ → List ℕ → List ℕ → Answer ℕ → List ℕ → Type 0
Widened m text out a out' = Operated m (λ c. widen_tests c text (length out)) out (WidenEffect text out) a out'
