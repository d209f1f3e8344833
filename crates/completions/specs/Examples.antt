-- Examples of witnesses that hold `x` as one table, and the test of a row. Assumes nothing.
use Rattle.std.specs.Prelude.{Bool, false, ◌&&◌, List, [], ◌∷◌, ℕ, eqb}
use Rattle.std.proofs.Math.Option.{none, some}
use Prim.Native.String.{String}
use Rattle.aiger.specs.Lists.{same}
use Rattle.aiger.specs.Text.{bytes}
use Rattle.aiger.specs.Circuit.{Circuit}
use Rattle.aiger.specs.Operations.{Test, judge}
use Rattle.aiger.specs.Examples.{refusal_of, on_loaded}
use Rattle.completions.specs.Either.{Verdict, all, no, mixed, shows, verdict, read_either, widened_text}
use Rattle.completions.specs.Operations.{either_tests, widen_tests}

abbrev pub word_of : Verdict → String
word_of all = "all"
word_of no = "no"
word_of mixed = "mixed"

pub data Example : Type 0 where
  -- file, witness, and what replay says
  replayed : String → String → String → Example
  -- file, a text, and the number of replay's refusal, 0 for none
  no_witness : String → String → ℕ → Example
  -- file, witness, and what widening writes
  widens : String → String → String → Example
  -- file, witness, the bytes of output, and the number of widening's refusal, 0 for none
  widen_refused : String → String → ℕ → ℕ → Example

-- a row about a circuit and a text that passes tests, by what was read of it
abbrev on_read : String → String → (Circuit → List Test) → (Circuit → ℕ × List ℕ → Bool) → Bool
on_read f w tests p =
    on_loaded f (λ c. eqb (refusal_of (judge (tests c))) 0 && elim (read_either c (bytes w)) [ none ↦ false | some h ↦ p c h ])

unfoldable pub holds : Example → Bool
holds (replayed f w says) =
    on_read f w (λ c. either_tests c (bytes w)) (λ c h. same (bytes (word_of (verdict (shows c h.0) h.1))) (bytes says))
holds (no_witness f w n) = on_loaded f (λ c. eqb (refusal_of (judge (either_tests c (bytes w)))) n)
holds (widens f w u) = on_read f w (λ c. widen_tests c (bytes w) 64) (λ c h. same (widened_text c (bytes w) h) (bytes u))
holds (widen_refused f w len n) = on_loaded f (λ c. eqb (refusal_of (judge (widen_tests c (bytes w) len))) n)

-- two latches after one input, bad when both are true
abbrev S : String
S = "aag 4 1 2 0 1 1\n2\n4 2\n6 4\n8\n8 4 6\n"

-- a free latch, bad when it is true
abbrev H : String
H = "aag 1 0 1 0 0 1\n2 2 2\n2\n"

-- two inputs, bad where one of them is true
abbrev Either : String
Either = "aag 3 2 0 0 1 1\n2\n4\n7\n6 3 5\n"

unfoldable pub table : List Example
table =
    replayed S "1\nb0\n00\n1\n1\n0\n.\n" "all"
    ∷ replayed S "1\nb0\n00\n0\n1\n0\n.\n" "no"
    ∷ replayed S "1\nb0\n10\n1\n1\n0\n.\n" "no"
    ∷ replayed S "1\nb0\n00\n1\n1\nx\n.\n" "all"
    ∷ replayed S "1\nb0\n00\n1\nx\n0\n.\n" "mixed"
    ∷ replayed S "1\nb0\n00\n0\nx\nx\n.\n" "no"
    ∷ replayed S "1\nb0\nx0\n1\n1\n0\n.\n" "mixed"
    ∷ replayed H "1\nb0\nx\n\n.\n" "mixed"
    ∷ no_witness S "1\nbx\n00\n1\n1\n0\n.\n" 14
    ∷ no_witness S "x\nb0\n00\n1\n1\n0\n.\n" 14
    ∷ no_witness S "1\nb0\n00x1\n1\n0\n.\n" 14
    ∷ no_witness S "1\nb0\n00\n1\n1\n0\nx\n" 14
    ∷ no_witness S "1\nb0\n00\nx\nx\nx\nx\nx\nx\nx\nx\nx\nx\nx\nx\nx\nx\nx\nx\n.\n" 0
    ∷ no_witness S "1\nb0\nx0\nx\nx\nx\nx\nx\nx\nx\nx\nx\nx\nx\nx\nx\nx\nx\nx\n.\n" 16
    ∷ widens S "1\nb0\n00\n1\n1\n0\n.\n" "1\nb0\n00\n1\n1\nx\n.\n"
    ∷ widens S "1\nb0\n00\n1\n1\nx\n.\n" "1\nb0\n00\n1\n1\nx\n.\n"
    ∷ widens S "1\nb0\n00\n1\n0\n1\n.\n" "1\nb0\n00\n1\n0\n1\n.\n"
    ∷ widens S "1\nb0\nx0\n1\n1\n0\n.\n" "1\nb0\nx0\n1\n1\n0\n.\n"
    ∷ widens Either "1\nb0\n\n11\n.\n" "1\nb0\n\n1x\n.\n"
    ∷ widens Either "1\nb0\n\n01\n.\n" "1\nb0\n\nx1\n.\n"
    ∷ widen_refused S "1\nb0\n00\n1\n1\n0\n.\n" 16 0
    ∷ widen_refused S "1\nb0\n00\n1\n1\n0\n.\n" 15 13
    ∷ widen_refused S "1\nb0\nx0\nx\nx\nx\nx\nx\nx\nx\nx\nx\nx\nx\nx\nx\nx\nx\nx\n.\n" 0 16
    ∷ widen_refused S "1\nb1\n00\n1\n1\n0\n.\n" 0 14
    ∷ []
