-- What the command `search-from FILE b t PLACE D` prints. Assumes nothing.
use Rattle.std.specs.Prelude.{List, ℕ}
use Rattle.aiger.specs.Circuit.{Circuit}
use Rattle.aiger.specs.Frames.{run}
use Rattle.aiger.specs.Load.{Answer, gives, load, ◌>>=◌}
use Rattle.aiger.specs.Witness.{witness}
use Rattle.aiger.specs.Operations.{judge}
use Rattle.place_search.specs.Places.{Placed}
use Rattle.place_search.specs.Operation.{place_tests, report_of, text_of}
use Rattle.place_decision.specs.Reach.{place_chosen}
use Rattle.replies.specs.Reply.{Reply, reply_of}
use Rattle.search_command.specs.Texts.{report_words}

-- the answer on a loaded circuit, where working memory has `room` words and the output `len` bytes
abbrev pub placed_answer : Circuit → ℕ → ℕ → ℕ → ℕ → ℕ → ℕ → Answer Placed
placed_answer c b t place D room len = judge (place_tests c c b t place D room len) >>= λ _. gives (place_chosen c b t place D)

-- the line for what is answered, and the witness after it
abbrev pub placed_reply : Circuit → ℕ → ℕ → Placed → Reply
placed_reply c b t a = record { line = report_words (report_of c b t a); out = text_of (λ x. witness b (run c t x)) a }

-- the reply to it
unfoldable pub searched_from_reply : Circuit → ℕ → ℕ → ℕ → ℕ → ℕ → ℕ → Reply
searched_from_reply c b t place D room len = reply_of (placed_reply c b t) (placed_answer c b t place D room len)

-- the reply on a file. The memories are as long as those of the command search
unfoldable pub search_from_reply : List ℕ → ℕ → ℕ → ℕ → ℕ → Reply
search_from_reply file b t place D = reply_of (λ c. searched_from_reply c b t place D 1048576 66825) (load 33032 file)
