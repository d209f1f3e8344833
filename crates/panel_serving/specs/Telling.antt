-- What is printed for a request. Assumes nothing.
use Rattle.std.specs.Prelude.{ℕ, ◌+◌, List, ◌++◌, length}
use Rattle.aiger.specs.Text.{bytes, digits}
use Rattle.replies.specs.Reply.{Reply}

-- Clause 12.7: how many bytes the answer has, a line feed, and these bytes: a line and the text after it
unfoldable pub printed : Reply → List ℕ
printed r = digits (length r.line + length r.out) ++ bytes "\n" ++ r.line ++ r.out
