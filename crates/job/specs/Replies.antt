-- What is printed for what a search answers: the line, and the witness. Assumes nothing.
use Rattle.std.specs.Prelude.{◌≡◌, List, [], ◌++◌, ℕ, ◌≤◌, length, take}
use Rattle.aiger.specs.Text.{bytes, digits}
use Rattle.aiger.specs.Circuit.{Circuit}
use Rattle.aiger.specs.Load.{Answer, refused, gives}
use Rattle.aiger.specs.Search.{Outcome, Report, first_witness}
use Rattle.aiger.specs.Program.{refusal_line}

-- the first n bytes are a text
pub record Shows (out : List ℕ) (n : ℕ) (text : List ℕ) : Type 0 where
  pub inside : n ≤ length out
  pub contents : take n out ≡ text

-- the line for an outcome
abbrev pub outcome_words : Outcome → List ℕ
outcome_words (Outcome.found t) = bytes "found " ++ digits t ++ bytes "\n"
outcome_words (Outcome.none k) = bytes "none " ++ digits k ++ bytes "\n"
outcome_words (Outcome.spent t) = bytes "spent " ++ digits t ++ bytes "\n"

-- the line for what a search answers
abbrev pub said_text : Answer Report → List ℕ
said_text (refused n) = refusal_line n
said_text (gives r) = outcome_words r.outcome

-- the witness for b that is printed after the line of an outcome
abbrev pub witness_of : Circuit → ℕ → Outcome → List ℕ
witness_of c b (Outcome.found t) = first_witness c b t
witness_of c b (Outcome.none k) = []
witness_of c b (Outcome.spent t) = []

-- the length of the witness that an answer tells
abbrev pub told_length : Answer Report → ℕ
told_length (refused n) = 0
told_length (gives r) = r.length
