-- The line of a refusal: its number, and the cause in words. Assumes nothing.
use Rattle.std.specs.Prelude.{List, [], ◌∷◌, ◌++◌, ℕ, get_or}
use Rattle.aiger.specs.Text.{bytes, digits}

-- Clauses 6.1, 12.1, 12.2, 12.6, 12.7, 12.11 and 12.14: the causes by their numbers; there is no number 0
abbrev pub causes : List (List ℕ)
causes =
    []
    ∷ bytes "the file is empty or over 65,536 bytes"
    ∷ bytes "the header is malformed"
    ∷ bytes "a count is not permitted, or I+L+A is above M, or not M in binary form"
    ∷ bytes "circuit memory is too short"
    ∷ bytes "a line is missing or malformed, or the tail is wrong"
    ∷ bytes "a literal is above 2M+1, or a definition or reset is wrong"
    ∷ bytes "a used variable is undefined"
    ∷ bytes "gates depend on themselves"
    ∷ bytes "circuit memory holds no circuit"
    ∷ bytes "b is not below B"
    ∷ bytes "k or t is above 255, or D is out of range"
    ∷ bytes "the size is above 65,536, or working memory is too short"
    ∷ bytes "the output is too short"
    ∷ bytes "the witness is malformed, or its b is not below B"
    ∷ bytes "a difference is cut short, too long, or gives a wrong operand"
    ∷ bytes "the witness holds more than 16 x"
    ∷ bytes "the circuits differ in I or O, or O is 0 or above 16"
    ∷ bytes "the user, the input or the pin value is wrong"
    ∷ bytes "the place is above 2 to the 62, or not below 2 to the power n"
    ∷ bytes "the search number is above 15 or in use"
    ∷ bytes "the form is neither 0 nor 1"
    ∷ []

-- the words of cause n
unfoldable pub cause : ℕ → List ℕ
cause n = get_or causes n []

unfoldable pub refusal_text : ℕ → List ℕ
refusal_text n = bytes "refused " ++ digits n ++ bytes ": " ++ cause n ++ bytes "\n"
