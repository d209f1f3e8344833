-- Clause 12.12: texts of some seeds and counts, computed by a program of another language, and which counts are permitted. Assumes nothing.
use Rattle.std.specs.Prelude.{Bool, true, false, List, [], ◌∷◌, ℕ, eqb}
use Rattle.std.specs.Bool.{beq}
use Prim.Native.String.{String}
use Rattle.aiger.specs.Lists.{same}
use Rattle.aiger.specs.Text.{bytes}
use Rattle.aiger.specs.Operations.{judge}
use Rattle.aiger.specs.Examples.{refusal_of}
use Rattle.generated.specs.Generated.{generated_text, counts_permitted, generate_tests}

pub data Example : Type 0 where
  -- seed, I, L, A, and the text
  made : ℕ → ℕ → ℕ → ℕ → String → Example
  -- I, L, A, and whether they are permitted
  permitted : ℕ → ℕ → ℕ → Bool → Example
  -- seed, I, L, A, the bytes of output, and the number of the refusal, 0 for none
  refusal : ℕ → ℕ → ℕ → ℕ → ℕ → ℕ → Example

unfoldable pub holds : Example → Bool
holds (made seed I L A text) = same (generated_text seed I L A) (bytes text)
holds (permitted I L A says) = beq (counts_permitted I L A) says
holds (refusal seed I L A len n) = eqb (refusal_of (judge (generate_tests seed I L A len))) n

unfoldable pub table : List Example
table =
    made 0 1 0 1 "aag 2 1 0 0 1 1\n2\n4\n4 2 1\n"
    ∷ made 1 1 1 2 "aag 4 1 1 0 2 1\n2\n4 8\n8\n6 1 1\n8 5 4\n"
    ∷ made 18446744073709551615 2 2 3 "aag 7 2 2 0 3 1\n2\n4\n6 1\n8 15\n14\n10 5 5\n12 0 10\n14 13 3\n"
    ∷ made 9223372036854775808 0 3 2 "aag 5 0 3 0 2 1\n2 6\n4 9\n6 6\n10\n8 1 2\n10 4 6\n"
    ∷ made 20261117 3 2 5 "aag 10 3 2 0 5 1\n2\n4\n6\n8 15\n10 10\n20\n12 3 6\n14 10 5\n16 15 1\n18 17 8\n20 5 13\n"
    ∷ made 12 2 0 4 "aag 6 2 0 0 4 1\n2\n4\n12\n6 4 3\n8 5 4\n10 0 5\n12 3 4\n"
    ∷ permitted 256 768 3072 true ∷ permitted 0 1024 3072 true ∷ permitted 256 1024 2816 true ∷ permitted 1 0 1 true ∷ permitted 0 1 1 true
    ∷ permitted 257 1 1 false ∷ permitted 1 1025 1 false ∷ permitted 1 1 3073 false ∷ permitted 256 769 3072 false
    ∷ permitted 0 0 1 false ∷ permitted 1 1 0 false ∷ permitted 18446744073709551615 1 1 false ∷ permitted 1 18446744073709551615 1 false
    ∷ refusal 1 1 1 2 36 0 ∷ refusal 1 1 1 2 35 13 ∷ refusal 1 257 0 1 0 3 ∷ refusal 1 0 0 1 65536 3
    ∷ []
