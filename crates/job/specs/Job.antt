-- What a job answers, and what it leaves in everything that was lent to it. Assumes nothing.
use Rattle.std.specs.Prelude.{◌≡◌, List, [], ℕ, leb, length}
use Rattle.aiger.specs.Circuit.{Circuit}
use Rattle.aiger.specs.Load.{Answer, refused, gives, test, read, load, ◌>>=◌, ◌>>◌}
use Rattle.aiger.specs.Search.{Outcome}
use Rattle.aiger.specs.Operations.{judge, search_tests}
use Rattle.aiger.specs.Program.{Request, request, refusal_line}
use Rattle.replies.specs.Reply.{Reply, Leaves}
use Rattle.replies.specs.Loading.{words_after}
use Rattle.replies.specs.declared.Report.{Report}
use Rattle.search.specs.Chosen.{outcome_chosen}
use Rattle.job.specs.Replies.{outcome_words, witness_of}

-- Clause 8.1: the request of an input; 1 where the input is too long, 11 where its first line is malformed
unfoldable pub requested : List ℕ → Answer Request
requested input = test 1 (leb (length input) 65536) >> read 11 (request input)

-- Clause 8.2: the circuit of its file, in 8,192 words of circuit memory
unfoldable pub accepted : List ℕ → Answer Circuit
accepted input = requested input >>= λ q. load 8192 q.file

-- a search that is not refused: the circuit, the bad line, and what is said of it
pub record Result : Type 0 where
  pub circuit : Circuit
  pub b : ℕ
  pub outcome : Outcome

-- the search of a circuit, where working memory has `room` words and the output `len` bytes
unfoldable pub searched : Circuit → ℕ → ℕ → ℕ → ℕ → ℕ → Answer Result
searched c b k D room len = judge (search_tests c b k D room len) >> gives (record { circuit = c; b = b; outcome = outcome_chosen c b k D })

-- Clause 8.2: a request's file is loaded into 8,192 words and searched with 8,192 words of working memory and 2,048 bytes of output
abbrev pub request_answer : Request → Answer Result
request_answer q = load 8192 q.file >>= λ c. searched c q.b q.k q.D 8192 2048

-- Clause 8.1: length, first line, file and search are judged in this order
unfoldable pub job_answer : List ℕ → Answer Result
job_answer input = requested input >>= request_answer

-- Clause 8.3: the line that is printed for an answer, and the witness after it
abbrev pub reply_to : Answer Result → Reply
reply_to (refused n) = record { line = refusal_line n; out = [] }
reply_to (gives r) = record { line = outcome_words r.outcome; out = witness_of r.circuit r.b r.outcome }

-- a refusal leaves working memory as it was; what a search leaves there is not promised
abbrev pub WorkAfter : Answer Result → List ℕ → List ℕ → Type 0
WorkAfter (refused n) work work' = work' ≡ work
WorkAfter (gives r) work work' = Unit {0}

-- the reply to an answer stands at the fronts of line and output, whose other bytes stay, and working memory is as the answer says
pub record Replied (a : Answer Result) (work out line : List ℕ) (r : Report) (work' out' line' : List ℕ) : Type 0 where
  pub texts : Leaves (reply_to a) line out r line' out'
  pub working : WorkAfter a work work'

-- Clauses 6.5, 6.6 and 8.1: everything that was lent, after a job. Circuit memory is as load leaves it, and as it was where the length or the
-- first line refuses
pub record Ran (input m work out line : List ℕ) (r : Report) (m' work' out' line' : List ℕ) : Type 0 where
  pub memory : m' ≡ words_after m (accepted input)
  pub replied : Replied (job_answer input) work out line r work' out' line'
