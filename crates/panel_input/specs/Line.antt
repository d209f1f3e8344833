-- A line of standard input, read by read. What each read gives is said by the system; what becomes of it is said here. Assumes nothing.
use Rattle.std.specs.Prelude.{◌≡◌, Bool, true, false, cond, not, ◌&&◌, List, [], ◌∷◌, ◌++◌, ◌⊎◌, ℕ, ◌+◌, ◌≤◌, ◌<◌, eqb, ltb, length, take, set, replicate}
use Rattle.input.specs.Reading.{IsPrefixLen, count_given, is_failure}
use Rattle.panel_input.specs.declared.gathering.ByteRead.{ByteRead}
use Rattle.panel_input.specs.declared.gathering.RequestLine.{RequestLine}

-- nothing was read
unfoldable pub empty_line : RequestLine
empty_line =
    record { line = replicate 4097 0; count = 0; failed = false; missed = 0; ended = false; over = false; reads = 0 }

-- a read failed; with the eighth in a row the input is lost
abbrev pub missed_read : RequestLine → RequestLine
missed_read l =
    cond (ltb l.missed 7)
    (record {
      line = l.line;
      count = l.count;
      failed = true;
      missed = l.missed + 1;
      ended = false;
      over = false;
      reads = l.reads + 1;
    })
    (record {
      line = l.line;
      count = l.count;
      failed = true;
      missed = l.missed;
      ended = true;
      over = true;
      reads = l.reads + 1;
    })

-- the input ended: there is no line where nothing was read and no read failed
abbrev pub input_end : RequestLine → RequestLine
input_end l =
    record {
      line = l.line;
      count = l.count;
      failed = l.failed;
      missed = 0;
      ended = eqb l.count 0 && not l.failed;
      over = true;
      reads = l.reads + 1;
    }

-- a line feed ends the line, and is no byte of it
abbrev pub line_feed : RequestLine → RequestLine
line_feed l =
    record {
      line = l.line;
      count = l.count;
      failed = l.failed;
      missed = 0;
      ended = false;
      over = true;
      reads = l.reads + 1;
    }

-- any other byte is kept after those before it, where there is room, and else passed over
abbrev pub keep_byte : RequestLine → ℕ → RequestLine
keep_byte l b =
    cond (ltb l.count 4097)
    (record {
      line = set l.line l.count b;
      count = l.count + 1;
      failed = l.failed;
      missed = 0;
      ended = false;
      over = false;
      reads = l.reads + 1;
    })
    (record {
      line = l.line;
      count = l.count;
      failed = l.failed;
      missed = 0;
      ended = false;
      over = false;
      reads = l.reads + 1;
    })

-- a line after one read more
unfoldable pub step : RequestLine → ByteRead → RequestLine
step l r =
    cond (is_failure r.read.given) (missed_read l)
    (cond (eqb (count_given r.read.given) 0) (input_end l) (cond (eqb r.byte 10) (line_feed l) (keep_byte l r.byte)))

-- a line after these reads, the last of them first
unfoldable pub gathered : List ByteRead → RequestLine
gathered [] = empty_line
gathered (r ∷ rs) = step (gathered rs) r

-- the bytes that a read gave to the line: none where it failed, where the input ended, and where it was a line feed
abbrev pub byte_of : ByteRead → List ℕ
byte_of r =
    cond (is_failure r.read.given) [] (cond (eqb (count_given r.read.given) 0) [] (cond (eqb r.byte 10) [] (r.byte ∷ [])))

-- those of these reads, the last of which is the first
unfoldable pub bytes_of : List ByteRead → List ℕ
bytes_of [] = []
bytes_of (r ∷ rs) = bytes_of rs ++ byte_of r

-- the bytes that were read, in their order, stand at the front of a buffer, as many of them as have room
pub record Keeps (bytes buf : List ℕ) (n : ℕ) : Type 0 where
  pub inside : n ≤ length buf
  pub kept : take n buf ≡ take (length buf) bytes
  pub all : n < length buf → n ≡ length bytes

-- no read but the last ended the line: each line before the last read is not over
unfoldable pub NoneOver : List ByteRead → Type 0
NoneOver [] = Unit {0}
NoneOver (r ∷ rs) = ((gathered rs).over ≡ false) × NoneOver rs

-- whether a line goes on
pub record GoesOn (l : RequestLine) (b : Bool) : Type 0 where
  pub more : b ≡ true → (l.over ≡ false) × (l.reads < 18446744073709551615)
  pub ends : b ≡ false → (l.over ≡ true) ⊎ (l.reads ≡ 18446744073709551615)

-- a line that was read: it is that of as many reads as it counts, its bytes are theirs, and it is over with the last of them and not before
pub record Received (l : RequestLine) : Type 0 where
  pub reads : List ByteRead
  pub line-is : l ≡ gathered reads
  pub number : length reads ≡ l.reads
  pub keeps : Keeps (bytes_of reads) l.line l.count
  pub counts : IsPrefixLen l.count l.line
  pub first-end : NoneOver reads
  pub stops : (l.over ≡ true) ⊎ (l.reads ≡ 18446744073709551615)
