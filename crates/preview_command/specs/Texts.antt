-- What the program preview prints. Clause 12.8. Circuit memory has 33,032 words, those that a file with M 4,096 needs. Assumes nothing.
use Rattle.std.specs.Prelude.{cond, List, [], ◌∷◌, ◌++◌, ℕ, eqb}
use Rattle.aiger.specs.Circuit.{Circuit}
use Rattle.aiger.specs.Load.{Answer, refused, gives, load}
use Rattle.aiger.specs.Text.{bytes, digits}
use Rattle.aiger.specs.Write.{line_of, count_row}
use Rattle.load.specs.Preview.{words_needed}
use Rattle.load.specs.declared.Counts.{Counts}
use Rattle.load.specs.declared.LoadAnswer.{LoadAnswer}
use Rattle.load.specs.declared.LoadAnswer.TheVariants.{Loaded, Refused}
use Rattle.replies.specs.Refusal.{refusal_text}
use Rattle.replies.specs.Reply.{Reply}

-- the seven counts of a file that loads, or the line of a refusal
abbrev pub preview_line : Answer Circuit → List ℕ
preview_line (refused n) = refusal_text n
preview_line (gives c) = bytes "loads " ++ line_of c.max_var (count_row c)

-- the words needed; 0 stands for a file whose counts are not known, and prints nothing
abbrev pub words_line : ℕ → List ℕ
words_line n = cond (eqb n 0) [] (bytes "words " ++ digits n ++ bytes "\n")

-- preview: what load would answer, and the words needed
unfoldable pub preview_reply : List ℕ → Reply
preview_reply file = record { line = preview_line (load 33032 file); out = words_line (words_needed file) }

-- the first line, by the numbers of load's answer
abbrev pub counts_line : Counts → List ℕ
counts_line k = bytes "loads " ++ line_of k.m (k.i ∷ k.l ∷ k.o ∷ k.a ∷ k.b ∷ k.c ∷ [])

abbrev pub answer_line : LoadAnswer → List ℕ
answer_line (Loaded k) = counts_line k
answer_line (Refused n) = refusal_text n
