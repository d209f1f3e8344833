-- Clause 12.7: what the resident program answers to `join OLD NEW`, on the bytes of the two files. Files are loaded into memories of 33,032
-- words, those that a file with M 4,096 needs. Assumes nothing.
use Rattle.std.specs.Prelude.{◌≡◌, List, [], ℕ, ◌<◌}
use Rattle.aiger.specs.Circuit.{Circuit}
use Rattle.aiger.specs.Load.{Answer, refused, gives, load}
use Rattle.aiger.specs.Memory.{Holds}
use Rattle.replies.specs.declared.Report.{Report}
use Rattle.call_forms.specs.Forms.{UserJoined}
use Rattle.panel.specs.Answers.{load_words, no_text, Reported}

-- for user 0, where the old circuit is in `first`: what refuses the new file, else the join of the two circuits
pub data NewJoined (first new m pins : List ℕ) : Answer (List ℕ) → List ℕ → List ℕ → Type 0 where
  refuses : {n : ℕ} → load 33032 new ≡ refused n → NewJoined first new m pins (refused n) m pins
  joins : {d : Circuit} {second m' pins' : List ℕ} {a : Answer (List ℕ)} → load 33032 new ≡ gives d → Holds second d
      → UserJoined first second m pins 0 a m' pins' → NewJoined first new m pins a m' pins'

-- 18 for any user but 0, then what refuses the old file, then the above
pub data FilesJoined (old new m pins : List ℕ) (user : ℕ) : Answer (List ℕ) → List ℕ → List ℕ → Type 0 where
  stranger : 0 < user → FilesJoined old new m pins user (refused 18) m pins
  refuses : {n : ℕ} → user ≡ 0 → load 33032 old ≡ refused n → FilesJoined old new m pins user (refused n) m pins
  joins : {c : Circuit} {first m' pins' : List ℕ} {a : Answer (List ℕ)} → user ≡ 0 → load 33032 old ≡ gives c → Holds first c
      → NewJoined first new m pins a m' pins' → FilesJoined old new m pins user a m' pins'

-- the line is that of a load
abbrev pub JoinReported : (Answer (List ℕ) → Type 0) → List ℕ → Report → List ℕ → Type 0
JoinReported permits line r line' = Reported permits load_words no_text line r line' []
