-- Clause 13.8: examples of waveforms as one table, and the test of a row. Assumes nothing.
use Rattle.std.specs.Prelude.{Bool, true, false, ◌&&◌, List, [], ◌∷◌, ℕ, eqb, length}
use Rattle.std.proofs.Math.Option.{Option}
use Prim.Native.String.{String}
use Rattle.aiger.specs.Lists.{same}
use Rattle.aiger.specs.Text.{bytes}
use Rattle.aiger.specs.Examples.{refusal_of, on_loaded}
use Rattle.aiger.specs.Operations.{judge}
use Rattle.completions.specs.Either.{read_either}
use Rattle.waveform.specs.Waveform.{waveform_of, waveform_tests}

pub data Example : Type 0 where
  -- file, witness, whether the inputs alone are shown, and the text
  shows : String → String → Bool → String → Example
  -- file, witness, the bytes of output, and the number of the refusal, 0 for none
  refused_with : String → String → ℕ → ℕ → Example

unfoldable pub holds : Example → Bool
holds (shows f w only text) = on_loaded f (λ c. same (waveform_of c only (read_either c (bytes w))) (bytes text))
holds (refused_with f w len n) = on_loaded f (λ c. eqb (refusal_of (judge (waveform_tests c false (bytes w) len))) n)

-- a circuit of two latches and a gate
abbrev S : String
S = "aag 4 1 2 0 1 1\n2\n4 2\n6 4\n8\n8 4 6\n"

-- one with an output that is the complement of a gate, and with a constraint that is the complement of an input
abbrev Complement : String
Complement = "aag 3 2 0 1 1 1 1\n2\n4\n7\n6\n3\n6 3 5\n"

-- an output that is an input and its complement at once
abbrev Never : String
Never = "aag 2 1 0 1 1 1\n2\n4\n2\n4 2 3\n"

unfoldable pub table : List Example
table =
    shows S "1\nb0\n00\n1\n1\n0\n.\n" false
    "$timescale 1 ns $end\n$scope module trigger $end\n$var wire 1 !! i0 $end\n$var wire 1 !\" l0 $end\n$var wire 1 !# l1 $end\n$var wire 1 !$ b0 $end\n$upscope $end\n$enddefinitions $end\n#0\n1!!\n0!\"\n0!#\n0!$\n#1\n1!!\n1!\"\n0!#\n0!$\n#2\n0!!\n1!\"\n1!#\n1!$\n#3\n"
    ∷ shows S "1\nb0\n00\n1\n1\n0\n.\n" true
    "$timescale 1 ns $end\n$scope module trigger $end\n$var wire 1 !! i0 $end\n$upscope $end\n$enddefinitions $end\n#0\n1!!\n#1\n1!!\n#2\n0!!\n#3\n"
    ∷ shows Complement "1\nb0\n\n00\n10\n01\n11\n.\n" false
    "$timescale 1 ns $end\n$scope module trigger $end\n$var wire 1 !! i0 $end\n$var wire 1 !\" i1 $end\n$var wire 1 !# o0 $end\n$var wire 1 !$ b0 $end\n$var wire 1 !% c0 $end\n$upscope $end\n$enddefinitions $end\n#0\n0!!\n0!\"\n0!#\n1!$\n1!%\n#1\n1!!\n0!\"\n1!#\n0!$\n0!%\n#2\n0!!\n1!\"\n1!#\n0!$\n1!%\n#3\n1!!\n1!\"\n1!#\n0!$\n0!%\n#4\n"
    ∷ shows S "1\nb0\n00\n1\nx\n0\n.\n" false
    "$timescale 1 ns $end\n$scope module trigger $end\n$var wire 1 !! i0 $end\n$var wire 1 !\" l0 $end\n$var wire 1 !# l1 $end\n$var wire 1 !$ b0 $end\n$upscope $end\n$enddefinitions $end\n#0\n1!!\n0!\"\n0!#\n0!$\n#1\nx!!\n1!\"\n0!#\n0!$\n#2\n0!!\nx!\"\n1!#\nx!$\n#3\n"
    ∷ shows Never "1\nb0\n\nx\n1\n.\n" false
    "$timescale 1 ns $end\n$scope module trigger $end\n$var wire 1 !! i0 $end\n$var wire 1 !\" o0 $end\n$var wire 1 !# b0 $end\n$upscope $end\n$enddefinitions $end\n#0\nx!!\n0!\"\nx!#\n#1\n1!!\n0!\"\n1!#\n#2\n"
    ∷ refused_with S "1\nb1\n00\n1\n.\n" 0 14
    ∷ refused_with S "1\nb0\n00\n.\n" 0 14
    ∷ refused_with S "1\nb0\n00\n1\n1\n0\n.\n" 235 0
    ∷ refused_with S "1\nb0\n00\n1\n1\n0\n.\n" 234 13
    ∷ refused_with S "1\nb0\n00\n1\n1\nx\n.\n" 234 13
    ∷ refused_with S "1\nb0\nx0\nx\nx\nx\nx\nx\nx\nx\nx\nx\nx\nx\nx\nx\nx\nx\nx\n.\n" 0 16
    ∷ []
