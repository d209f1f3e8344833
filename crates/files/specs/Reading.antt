-- What was read of a file and of two. Assumes nothing.
use Rattle.std.specs.Prelude.{None, ◌≡◌, true, false, ◌||◌, List, ℕ, length, take}
use Rattle.input.specs.Reading.{IsPrefixLen, is_failure}
use Rattle.input.specs.Contents.{nothing, text_of, Whole}
use Rattle.files.specs.declared.Word.{Word}
use Rattle.files.specs.declared.NamedFile.{NamedFile}
use Rattle.files.specs.declared.Filed.{Filed}
use Rattle.files.specs.declared.Fetched.{Fetched}
use Rattle.files.specs.declared.Two.{Two}

-- the name by which a file was read, up to 4,096 bytes of it
abbrev pub name_of : NamedFile → List ℕ
name_of f = take f.length f.name

-- the text of an argument
abbrev pub word_of : Word → List ℕ
word_of w = take w.count w.bytes

-- the file of a name was read into a buffer: so many of its bytes stand at the front, and whether it could not be read
pub record FiledAs (name buf : List ℕ) (r : Filed) : Type 0 where
  pub counts : IsPrefixLen r.count buf
  pub bytes-are : take r.count buf ≡ take (length buf) (text_of r.file.content)
  pub failed-is : r.failed ≡ is_failure r.file.content.last.given
  pub named : name_of r.file ≡ name
  pub whole : Whole r.file.content

-- the file that a word names: it was read by that name, and none was where the word is not all there
pub record Names (w : Word) (f : NamedFile) : Type 0 where
  pub named : w.lacks ≡ None → name_of f ≡ take 4096 (word_of w)
  pub missing : (w.lacks ≡ None → ⊥) → f.content ≡ nothing
  pub whole : Whole f.content

-- the file that argument i names was read into a buffer
pub record Read (i : ℕ) (buf : List ℕ) (r : Fetched) : Type 0 where
  pub counts : IsPrefixLen r.count buf
  pub bytes-are : take r.count buf ≡ take (length buf) (text_of r.file.content)
  pub failed-is : r.failed ≡ is_failure r.file.content.last.given
  pub word-is : r.word.index ≡ i
  pub names : Names r.word r.file

-- the file that argument j names was read, or was not since the one before it could not be
pub data OtherRead (j : ℕ) (second : List ℕ) (one other : Fetched) : Type 0 where
  skipped : one.failed ≡ true → other.word.index ≡ j → other.file.content ≡ nothing → other.count ≡ 0 → other.failed ≡ true
      → OtherRead j second one other
  read : one.failed ≡ false → Read j second other → OtherRead j second one other

-- the first is that of argument i and the second that of argument j; the counts are theirs, and one that was not read is told
pub record BothRead (i j : ℕ) (first second : List ℕ) (r : Two) : Type 0 where
  pub first-counts : IsPrefixLen r.first first
  pub second-counts : IsPrefixLen r.second second
  pub first-is : r.first ≡ r.one.count
  pub second_is : r.second ≡ r.other.count
  pub failed-is : r.failed ≡ (r.one.failed || r.other.failed)
  pub one-is : Read i first r.one
  pub other-is : OtherRead j second r.one r.other
