-- What the command `compare OLD NEW k D` prints for a pair of outputs: bad line j of the joined circuit. Assumes nothing.
use Rattle.std.specs.Prelude.{◌≡◌, Bool, true, false, List, [], ◌++◌, ℕ}
use Rattle.aiger.specs.Text.{bytes, digits}
use Rattle.aiger.specs.Circuit.{Circuit}
use Rattle.aiger.specs.Load.{Answer, refused, gives, ◌>>=◌}
use Rattle.aiger.specs.Search.{Outcome, Report}
use Rattle.aiger.specs.Operations.{judge, search_tests}
use Rattle.output.specs.Row.{place_text}
use Rattle.search.specs.Chosen.{chosen}
use Rattle.replies.specs.Refusal.{refusal_text}
use Rattle.replies.specs.Reply.{Reply, reply_of, Leaves}
use Rattle.job.specs.Replies.{witness_of}
use Rattle.compare_command.specs.declared.Said.{Said}

-- a line that begins with the number of the output
abbrev pub output_line : ℕ → List ℕ → ℕ → List ℕ
output_line j word n = bytes "output " ++ digits j ++ word ++ digits n ++ bytes "\n"

-- what a search of pair j says: the frame in which the outputs part, that they are the same up to the bound, or where the budget was spent
-- and which place was reached there (Clause 12.10)
abbrev pub pair_words : ℕ → Outcome → ℕ → List ℕ
pair_words j (Outcome.found t) R = output_line j (bytes ": found ") t
pair_words j (Outcome.none k) R = output_line j (bytes ": the same up to ") k
pair_words j (Outcome.spent t) R = bytes "output " ++ digits j ++ bytes ": spent " ++ place_text t R

abbrev pub said_words : ℕ → Answer Report → List ℕ
said_words j (refused n) = refusal_text n
said_words j (gives r) = pair_words j r.outcome r.reached

abbrev pub is_refused : Answer Report → Bool
is_refused (refused n) = true
is_refused (gives r) = false

-- the answer on a joined circuit, where working memory has `room` words and the output `len` bytes
abbrev pub pair_answer : Circuit → ℕ → ℕ → ℕ → ℕ → ℕ → Answer Report
pair_answer c j k D room len = judge (search_tests c j k D room len) >>= λ _. gives (chosen c j k D)

-- the line, and after it the witness of a run that parts the outputs: the start of the old circuit, then that of the new one, then the
-- inputs
unfoldable pub pair_reply : Circuit → ℕ → ℕ → ℕ → ℕ → ℕ → Reply
pair_reply c j k D room len =
    reply_of (λ r. record { line = pair_words j r.outcome r.reached; out = witness_of c j r.outcome }) (pair_answer c j k D room len)

pub record PairSaid (c : Circuit) (j k D room : ℕ) (line out : List ℕ) (r : Said) (line' out' : List ℕ) (len : ℕ) : Type 0 where
  pub leaves : Leaves (pair_reply c j k D room len) line out (record { line = r.line; out = r.out }) line' out'
  pub refused-is : r.refused ≡ is_refused (pair_answer c j k D room len)
