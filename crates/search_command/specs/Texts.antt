-- What the command `search FILE b k D` prints. Assumes nothing.
use Rattle.std.specs.Prelude.{Bool, cond, List, [], ◌++◌, ℕ}
use Rattle.aiger.specs.Text.{bytes}
use Rattle.aiger.specs.Circuit.{Circuit}
use Rattle.aiger.specs.Load.{Answer, refused, gives, load, ◌>>=◌}
use Rattle.aiger.specs.Search.{Outcome, Report}
use Rattle.aiger.specs.Operations.{judge, search_tests}
use Rattle.output.specs.Row.{place_text}
use Rattle.search.specs.Chosen.{chosen}
use Rattle.job.specs.Replies.{outcome_words, witness_of}
use Rattle.replies.specs.Refusal.{refusal_text}
use Rattle.replies.specs.Reply.{Reply, reply_of, Fronts, Leaves}
use Rattle.search_command.specs.declared.Said.{Said}

-- the line for an outcome and the place that goes with it. Clause 12.10: spent tells the place
abbrev pub place_words : Outcome → ℕ → List ℕ
place_words (Outcome.found t) R = outcome_words (Outcome.found t)
place_words (Outcome.none k) R = outcome_words (Outcome.none k)
place_words (Outcome.spent t) R = bytes "spent " ++ place_text t R

abbrev pub report_words : Report → List ℕ
report_words r = place_words r.outcome r.reached

-- the line for what a search answers: a refusal with its cause in words
abbrev pub said_words : Answer Report → List ℕ
said_words (refused n) = refusal_text n
said_words (gives r) = report_words r

-- what is printed on standard error: that no frame at all has a hit, where the search tells it
abbrev pub note_text : Bool → List ℕ
note_text never = cond never (bytes "no frame at all\n") []

abbrev pub note_of : Answer Report → List ℕ
note_of (refused n) = []
note_of (gives r) = note_text r.never

-- the answer on a loaded circuit, where working memory has `room` words and the output `len` bytes
abbrev pub searched_answer : Circuit → ℕ → ℕ → ℕ → ℕ → ℕ → Answer Report
searched_answer c b k D room len = judge (search_tests c b k D room len) >>= λ _. gives (chosen c b k D)

-- the reply to it
unfoldable pub searched_reply : Circuit → ℕ → ℕ → ℕ → ℕ → ℕ → Reply
searched_reply c b k D room len =
    reply_of (λ r. record { line = report_words r; out = witness_of c b r.outcome }) (searched_answer c b k D room len)

-- the reply on a file. Circuit memory has 33,032 words, working memory 1,048,576 and the output 66,825 bytes, so that 4 and 13 never
-- come, and 12 only for a size above 65,536
unfoldable pub search_reply : List ℕ → ℕ → ℕ → ℕ → Reply
search_reply file b k D = reply_of (λ c. searched_reply c b k D 1048576 66825) (load 33032 file)

-- and what is printed on standard error
unfoldable pub search_note : List ℕ → ℕ → ℕ → ℕ → List ℕ
search_note file b k D = note_of (load 33032 file >>= λ c. searched_answer c b k D 1048576 66825)

-- reply and note stand at the fronts of line, output and note, and r has their lengths
pub record SaidIs (reply : Reply) (text line out note : List ℕ) (r : Said) (line' out' note' : List ℕ) : Type 0 where
  pub leaves : Leaves reply line out (record { line = r.line; out = r.out }) line' out'
  pub notes : Fronts text note r.note note'
