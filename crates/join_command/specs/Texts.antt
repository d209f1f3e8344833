-- What the command `join OLD NEW` prints, and what it leaves in the lent memories. Circuit memories have 33,032 words, those that a file
-- with M 4,096 needs. Assumes nothing.
use Rattle.std.specs.Prelude.{◌≡◌, List, [], ℕ, length}
use Rattle.aiger.specs.Circuit.{Circuit}
use Rattle.aiger.specs.Load.{Answer, refused, gives, load, ◌>>=◌}
use Rattle.aiger.specs.Operations.{judge}
use Rattle.joined.specs.Joined.{joined, join_tests}
use Rattle.replies.specs.Refusal.{refusal_text}
use Rattle.replies.specs.Reply.{Reply, reply_of, Fronts}
use Rattle.replies.specs.Loading.{words_after, loaded_words}
use Rattle.commands.specs.Texts.{written}
use Rattle.join_command.specs.declared.Paired.{Paired}

-- join, on two loaded circuits
abbrev pub joined_answer : Circuit → Circuit → Answer Circuit
joined_answer c d = judge (join_tests c d 33032) >>= λ _. gives (joined c d)

-- on a loaded circuit and a file
abbrev pub second_answer : Circuit → List ℕ → Answer Circuit
second_answer c new = load 33032 new >>= joined_answer c

-- on two files: the old one is judged first
unfoldable pub join_answer : List ℕ → List ℕ → Answer Circuit
join_answer old new = load 33032 old >>= λ c. second_answer c new

-- the second memory, which is loaded where the old file is accepted
abbrev pub second_words : Answer Circuit → List ℕ → List ℕ → List ℕ
second_words (refused n) new m = m
second_words (gives c) new m = loaded_words m new

-- the line of a refusal; none where there is a joined circuit
abbrev pub line_of : Answer Circuit → List ℕ
line_of (refused n) = refusal_text n
line_of (gives c) = []

-- the number of its bad lines, 0 where it is refused
abbrev pub pairs_of : Answer Circuit → ℕ
pairs_of (refused n) = 0
pairs_of (gives c) = length c.bads

-- a join that answers a: the line of its refusal, the number of pairs, and the third memory
pub record JoinedAs (a : Answer Circuit) (third line : List ℕ) (r : Paired) (third' line' : List ℕ) : Type 0 where
  pub line-is : Fronts (line_of a) line r.line line'
  pub pairs-are : r.pairs ≡ pairs_of a
  pub third-is : third' ≡ words_after third a

-- what the first two memories hold after the files are loaded
pub record BothLoaded (old new first second first' second' : List ℕ) : Type 0 where
  pub first-is : first' ≡ loaded_words first old
  pub second_is : second' ≡ second_words (load 33032 old) new second

-- the joined circuit as text
unfoldable pub join_reply : List ℕ → List ℕ → Reply
join_reply old new = reply_of written (join_answer old new)
