-- The bytes of a file, read by read. What each read gives is said by the system; what becomes of it is said here. Assumes nothing.
use Rattle.std.specs.Prelude.{◌≡◌, Bool, true, false, ◌||◌, List, [], ◌∷◌, ◌++◌, ◌⊎◌, ℕ, ◌+◌, ◌≤◌, ◌<◌, eqb, negsuc, length, take, drop, replicate}
use Rattle.input.specs.Reading.{IsPrefixLen, count_given, is_failure}
use Rattle.input.specs.declared.content.Chunk.{Chunk}
use Rattle.input.specs.declared.content.Content.{Content}
use Rattle.input.specs.declared.content.Extended.{Extended}
use Rattle.input.specs.declared.Got.{Got}

-- how many bytes a read gave, and these bytes
abbrev pub size_of : Chunk → ℕ
size_of k = count_given k.read.given

abbrev pub piece_of : Chunk → List ℕ
piece_of k = take (size_of k) k.bytes

-- the bytes of a content
abbrev pub text_of : Content → List ℕ
text_of c = take c.count c.bytes

-- nothing was read
unfoldable pub nothing : Content
nothing = record { bytes = replicate 66826 0; count = 0; reads = 0; last = record { given = negsuc 0 } }

-- a content with the bytes of one read more, which stand after those before them
abbrev pub extended : Content → Chunk → Content
extended c k =
    record {
      bytes = take c.count c.bytes ++ (piece_of k ++ drop (size_of k) (drop c.count c.bytes));
      count = c.count + size_of k;
      reads = c.reads + 1;
      last = k.read;
    }

-- a content after these reads, the last of them first
unfoldable pub gathered : List Chunk → Content
gathered [] = nothing
gathered (k ∷ ks) = extended (gathered ks) k

-- the bytes of these reads, one after the other; the last read is the first of the list
unfoldable pub bytes_of : List Chunk → List ℕ
bytes_of [] = []
bytes_of (k ∷ ks) = bytes_of ks ++ piece_of k

-- nothing more is read: the last read gave no byte, or there is no room
abbrev pub is_done : Content → Bool
is_done c = eqb (count_given c.last.given) 0 || eqb c.count 66826

-- no read but the last was the end
unfoldable pub NoneDone : List Chunk → Type 0
NoneDone [] = Unit {0}
NoneDone (k ∷ []) = Unit {0}
NoneDone (k ∷ j ∷ ks) = (is_done (gathered (j ∷ ks)) ≡ false) × NoneDone (j ∷ ks)

-- one read more
pub record Grows (c : Content) (e : Extended) : Type 0 where
  pub content-is : e.content ≡ extended c e.chunk
  pub size : c.count + size_of e.chunk ≤ 66826
  pub inside : IsPrefixLen (size_of e.chunk) e.chunk.bytes

-- whether a file goes on
pub record GoesOn (c : Content) (b : Bool) : Type 0 where
  pub more : b ≡ true → (is_done c ≡ false) × (c.reads < 18446744073709551615)
  pub ends : b ≡ false → (is_done c ≡ true) ⊎ (c.reads ≡ 18446744073709551615)

-- the bytes lie within their array
pub record Within (c : Content) : Type 0 where
  pub inside : c.count ≤ 66826
  pub long : length c.bytes ≡ 66826

-- a file that was read, or could not be opened: its bytes are those of as many reads as it counts, and the last of them was the end
pub record Whole (c : Content) : Type 0 where
  pub within : Within c
  pub chunks : List Chunk
  pub content-is : c ≡ gathered chunks
  pub number : length chunks ≡ c.reads
  pub bytes-are : text_of c ≡ bytes_of chunks
  pub first-end : NoneDone chunks
  pub stops : (is_done c ≡ true) ⊎ (c.reads ≡ 18446744073709551615)

-- the bytes of a content stand at the front of a buffer, as many of them as have room, and n says how many these are
pub record Delivered (buf : List ℕ) (n : ℕ) (c : Content) : Type 0 where
  pub counts : IsPrefixLen n buf
  pub bytes-are : take n buf ≡ take (length buf) (text_of c)

-- a file that was read into a buffer
pub record Ended (buf : List ℕ) (r : Got) : Type 0 where
  pub counts : IsPrefixLen r.count buf
  pub bytes-are : take r.count buf ≡ take (length buf) (text_of r.content)
  pub failed-is : r.failed ≡ is_failure r.content.last.given
  pub whole : Whole r.content
