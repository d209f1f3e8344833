-- Clause 12.7: the resident program request by request. A request is a call of two users' history, or a line is printed at once and nothing
-- changes.
-- Assumes nothing.
use Rattle.std.specs.Prelude.{◌≡◌, Bool, true, false, cond, ◌||◌, List, [], ◌∷◌, ℕ, ◌+◌, ◌%◌, eqb, leb, length, take, replicate}
use Rattle.std.proofs.Math.Option.{Option, none, some}
use Rattle.aiger.specs.Text.{bytes}
use Rattle.aiger.specs.Circuit.{Circuit}
use Rattle.aiger.specs.Load.{Answer, refused, gives, load}
use Rattle.aiger.specs.Memory.{image}
use Rattle.aiger.specs.Operations.{front}
use Rattle.job.specs.Replies.{told_length}
use Rattle.replies.specs.Refusal.{refusal_text}
use Rattle.replies.specs.Reply.{Reply, refusal}
use Rattle.search_command.specs.Texts.{said_words}
use Rattle.preview_command.specs.Texts.{words_line}
use Rattle.call_forms.specs.History as History
use Rattle.panel_lines.specs.Grammar.{Command, parse}
use Rattle.panel_lines.specs.declared.Query.{Query}
use Rattle.panel_lines.specs.declared.Query.TheVariants.{Pin, Search, Fold, Write, Generate, SearchFrom}
use Rattle.panel_lines.specs.declared.View.{View}
use Rattle.panel_lines.specs.declared.View.TheVariants.{Replay, Widen, Waveform}
use Rattle.panel_names.specs.Naming.{files_of}
use Rattle.panel.specs.Answers.{load_words, pin_words, text_words, text_length}
use Rattle.panel_files.specs.Files.{verdict_words}

-- ---- what a request asks

-- what was read for a request: a read of its own line failed; at least one of the files that it names cannot be read; or the bytes of the
-- first file and of the second. Of a file that is longer than any circuit file or witness these are its first bytes, more than 66,825, or
-- 65,536 in a join: it is refused with the same number
pub data Files : Type 0 where
  unread : Files
  missing : Files
  read : (first second : List ℕ) → Files

-- a call of a history, or a line that is printed at once
pub data Action : Type 0 where
  calls : History.Call → Action
  prints : List ℕ → Action

-- a memory into which a file was loaded: the circuit's words, and 0 after them, of 33,032 words, those that M 4,096 needs
unfoldable pub file_words : Circuit → List ℕ
file_words c = front (image c) (replicate 33032 0)

-- user 0's join of two files, by what load says of each
abbrev pub join_action : Answer Circuit → Answer Circuit → Action
join_action (refused n) b = Action.prints (refusal_text n)
join_action (gives c) (refused n) = Action.prints (refusal_text n)
join_action (gives c) (gives d) = Action.calls (History.Call.join 0 (file_words c) (file_words d))

-- a query; the output lent to it has `room` bytes, and what they held does not matter
abbrev pub query_call : ℕ → ℕ → Query → History.Call
query_call room user (Pin input value) = History.Call.set_pin user input value
query_call room user (Search b k D) = History.Call.search user b k D (replicate room 0)
query_call room user (Fold b t) = History.Call.fold user b t (replicate room 0)
query_call room user (Write form) = History.Call.write user form (replicate room 0)
query_call room user (Generate seed i l a) = History.Call.generate user seed i l a (replicate room 0)
query_call room user (SearchFrom b t place D) = History.Call.search_from user b t place D (replicate room 0)

-- a view of a witness
abbrev pub view_call : ℕ → ℕ → List ℕ → View → History.Call
view_call room user witness Replay = History.Call.replay user witness
view_call room user witness Widen = History.Call.widen user witness (replicate room 0)
view_call room user witness (Waveform only) = History.Call.waveform user only witness (replicate room 0)

-- a command whose files were read. A join by another user than 0 gets 18 before its files are judged
abbrev pub action_of : ℕ → ℕ → List ℕ → List ℕ → Command → Action
action_of room user first second (Command.query q) = Action.calls (query_call room user q)
action_of room user first second (Command.load file) = Action.calls (History.Call.load user first)
action_of room user first second (Command.preview file) = Action.calls (History.Call.preview user first)
action_of room user first second (Command.join old new) =
    cond (eqb user 0) (join_action (load 33032 first) (load 33032 second)) (Action.prints (refusal_text 18))
action_of room user first second (Command.view v file) = Action.calls (view_call room user first v)

-- who is answered `unreadable` where a file cannot be read: user 0 for a load or a join, either user for the others
abbrev pub may_ask : ℕ → Command → Bool
may_ask user (Command.query q) = leb user 1
may_ask user (Command.load file) = eqb user 0
may_ask user (Command.preview file) = leb user 1
may_ask user (Command.join old new) = eqb user 0
may_ask user (Command.view v file) = leb user 1

-- a command of whose files one cannot be read: 18 comes before `unreadable`, and a command that names no file needs none
abbrev pub missing_action : ℕ → ℕ → Command → Action
missing_action room user c =
    cond (eqb (length (files_of c)) 0) (action_of room user [] [] c)
    (Action.prints (cond (may_ask user c) (bytes "unreadable\n") (refusal_text 18)))

-- Clause 12.9: a request whose line was not read is `unreadable`, whatever was read of it; one that is no command is `malformed`
abbrev pub request_action : ℕ → Files → Option (ℕ × Command) → Action
request_action room Files.unread r = Action.prints (bytes "unreadable\n")
request_action room Files.missing none = Action.prints (bytes "malformed\n")
request_action room Files.missing (some r) = missing_action room r.0 r.1
request_action room (Files.read first second) none = Action.prints (bytes "malformed\n")
request_action room (Files.read first second) (some r) = action_of room r.0 first second r.1

-- ---- what is printed for what a call returned

-- a line, and the text after it. A preview answers 0 words where none are told, and `words_line 0` is empty
abbrev pub call_reply : History.Returned → Reply
call_reply (History.Returned.loaded a) = record { line = load_words a; out = [] }
call_reply (History.Returned.pinned a) = record { line = pin_words a; out = [] }
call_reply (History.Returned.searched a out) = record { line = said_words a; out = take (told_length a) out }
call_reply (History.Returned.folded a out) = record { line = text_words a; out = take (text_length a) out }
call_reply (History.Returned.written a out) = record { line = text_words a; out = take (text_length a) out }
call_reply (History.Returned.previewed a n) = record { line = load_words a; out = words_line n }
call_reply (History.Returned.replayed a) = record { line = verdict_words a; out = [] }

-- ---- a request, and a session

-- what is printed for a request, whether a circuit was loaded, and the state after it
pub data Turn (room : ℕ) (request : List ℕ) (files : Files) (s : History.State) : Reply → Bool → History.State → Type 0 where
  prints : {line : List ℕ} → request_action room files (parse request) ≡ Action.prints line
      → Turn room request files s (record { line = line; out = [] }) false s
  calls : {call : History.Call} {returned : History.Returned} {s' : History.State}
      → request_action room files (parse request) ≡ Action.calls call → History.Step s call returned s'
      → Turn room request files s (call_reply returned) (History.is_accepted returned) s'

-- a request that was answered
pub record Exchange : Type 0 where
  pub request : List ℕ
  pub files : Files
  pub reply : Reply
  pub loaded : Bool

-- the state in which the resident program starts: a circuit memory of 33,032 words, those that M 4,096 needs, which holds no circuit; a
-- working memory of 1,048,576 words, those that the greatest size needs; and the pins of both users, all free
unfoldable pub start : History.State
start = record { memory = replicate 33032 4294967295; work = replicate 1048576 0; pins = replicate 512 2 }

-- requests that are answered one after the other, from a state to a state
pub data Session (room : ℕ) : History.State → List Exchange → History.State → Type 0 where
  ends : {s : History.State} → Session room s [] s
  goes : {s s' t : History.State} {e : Exchange} {es : List Exchange} → Turn room e.request e.files s e.reply e.loaded s'
      → Session room s' es t → Session room s (e ∷ es) t

-- how many bytes these requests have, and how many bytes are printed for them
unfoldable pub asked_bytes : List Exchange → ℕ
asked_bytes [] = 0
asked_bytes (e ∷ es) = length e.request + asked_bytes es

unfoldable pub told_bytes : List Exchange → ℕ
told_bytes [] = 0
told_bytes (e ∷ es) = length e.reply.line + length e.reply.out + told_bytes es

-- what the loop of the resident program counts: requests, their bytes, and the bytes of the replies, these two modulo 2^64
pub record Totals : Type 0 where
  pub requests : ℕ
  pub asked : ℕ
  pub told : ℕ

-- nothing was counted
abbrev pub no_totals : Totals
no_totals = record { requests = 0; asked = 0; told = 0 }

-- what the loop of the resident program does: requests are answered, each from the state that the one before left, and these are the totals
pub record SessionOf (room : ℕ) (s : History.State) (n : Totals) (t : History.State) : Type 0 where
  pub exchanges : List Exchange
  pub count : length exchanges ≡ n.requests
  pub asked : asked_bytes exchanges % 18446744073709551616 ≡ n.asked
  pub told : told_bytes exchanges % 18446744073709551616 ≡ n.told
  pub session : Session room s exchanges t

-- the totals after a request of so many bytes, for which so many are printed
abbrev pub one_more : Totals → ℕ → ℕ → Totals
one_more n asked told =
    record {
      requests = n.requests + 1;
      asked = (n.asked + asked) % 18446744073709551616;
      told = (n.told + told) % 18446744073709551616;
    }

-- whether a request is a command of user u
abbrev pub is_of : ℕ → Option (ℕ × Command) → Bool
is_of u none = false
is_of u (some r) = eqb r.0 u

-- the exchanges that concern user u: the user's own commands, and those by which a circuit was loaded. A malformed request is no one's
unfoldable pub concerning : ℕ → List Exchange → List Exchange
concerning u [] = []
concerning u (e ∷ es) = cond (is_of u (parse e.request) || e.loaded) (e ∷ concerning u es) (concerning u es)
