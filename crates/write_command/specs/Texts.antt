-- What the program write prints. Circuit memory has 33,032 words, those that a file with M 4,096 needs. Assumes nothing.
use Rattle.std.specs.Prelude.{Bool, true, false, List, [], ℕ}
use Rattle.aiger.specs.Circuit.{Circuit}
use Rattle.aiger.specs.Load.{load}
use Rattle.renumbered.specs.Renumbered.{write_binary}
use Rattle.replies.specs.Reply.{Reply, reply_of}
use Rattle.commands.specs.Texts as text

-- the loaded circuit, in binary form or as text
abbrev pub written : Bool → Circuit → Reply
written true c = record { line = []; out = write_binary c }
written false c = text.written c

unfoldable pub write_reply : Bool → List ℕ → Reply
write_reply binary file = reply_of (written binary) (load 33032 file)
