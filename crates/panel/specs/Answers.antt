-- Clause 12.7: what the resident program answers to a command, and what the command leaves. A query is a call of two users' history;
-- what is printed is a line, and for some answers a text after it. Assumes nothing.
use Rattle.std.specs.Prelude.{◌≡◌, cond, List, [], ◌∷◌, ◌++◌, ℕ, ◌≤◌, ltb, length}
use Rattle.aiger.specs.Text.{bytes}
use Rattle.aiger.specs.Load.{Answer, refused, gives}
use Rattle.aiger.specs.Write.{line_of}
use Rattle.job.specs.Replies.{told_length}
use Rattle.replies.specs.Refusal.{refusal_text}
use Rattle.replies.specs.Reply.{Reply, refusal, Fronts}
use Rattle.replies.specs.declared.Report.{Report}
use Rattle.search_command.specs.Texts.{said_words}
use Rattle.preview_command.specs.Texts.{preview_reply}
use Rattle.call_forms.specs.Forms.{UserLoaded}
use Rattle.call_forms.specs.History as History
use Rattle.panel_lines.specs.declared.Query.{Query}
use Rattle.panel_lines.specs.declared.Query.TheVariants.{Pin, Search, Fold, Write, Generate, SearchFrom}

-- ---- lines, by answers

-- load: its counts M I L O A B C
abbrev pub load_words : Answer (List ℕ) → List ℕ
load_words (refused n) = refusal_text n
load_words (gives []) = []
load_words (gives (n ∷ ns)) = bytes "loads " ++ line_of n ns

abbrev pub pin_words : Answer (Unit {0}) → List ℕ
pin_words (refused n) = refusal_text n
pin_words (gives a) = bytes "set\n"

-- fold, write and generate: a text has no line before it
abbrev pub text_words : Answer ℕ → List ℕ
text_words (refused n) = refusal_text n
text_words (gives n) = []

-- how many bytes of the output are printed: none, or a text of n bytes
abbrev pub no_text : {A : Type 0} → Answer A → ℕ
no_text a = 0

abbrev pub text_length : Answer ℕ → ℕ
text_length (refused n) = 0
text_length (gives n) = n

-- ---- commands

-- there is an answer that the operation permits, its line stands at the front of line, and so many bytes of out are to be printed after it
pub record Reported {A : Type 0} (permits : Answer A → Type 0) (words : Answer A → List ℕ) (long : Answer A → ℕ)
    (line : List ℕ) (r : Report) (line' out' : List ℕ) : Type 0 where
  pub answer : Answer A
  pub permitted : permits answer
  pub line-is : Fronts (words answer) line r.line line'
  pub out-is : r.out ≡ long answer
  pub inside : r.out ≤ length out'

-- load FILE, on the bytes of the file
abbrev pub LoadReported : ℕ → List ℕ → List ℕ → List ℕ → List ℕ → Report → List ℕ → List ℕ → List ℕ → Type 0
LoadReported user file m pins line r m' pins' line' =
    Reported (λ a. UserLoaded m file pins user a m' pins') load_words no_text line r line' []

-- a query, as the call of a history that it is
abbrev pub Queried : Query → ℕ → History.State → List ℕ → List ℕ → Report → History.State → List ℕ → List ℕ → Type 0
Queried (Pin input value) user s out line r s' out' line' =
    Reported (λ a. History.Step s (History.Call.set_pin user input value) (History.Returned.pinned a) s' × (out' ≡ out)) pin_words no_text
    line r line' out'
Queried (Search b k D) user s out line r s' out' line' =
    Reported (λ a. History.Step s (History.Call.search user b k D out) (History.Returned.searched a out') s') said_words told_length
    line r line' out'
Queried (Fold b t) user s out line r s' out' line' =
    Reported (λ a. History.Step s (History.Call.fold user b t out) (History.Returned.folded a out') s') text_words text_length
    line r line' out'
Queried (Write form) user s out line r s' out' line' =
    Reported (λ a. History.Step s (History.Call.write user form out) (History.Returned.written a out') s') text_words text_length
    line r line' out'
Queried (Generate seed i l g) user s out line r s' out' line' =
    Reported (λ a. History.Step s (History.Call.generate user seed i l g out) (History.Returned.written a out') s') text_words text_length
    line r line' out'
Queried (SearchFrom b t place D) user s out line r s' out' line' =
    Reported (λ a. History.Step s (History.Call.search_from user b t place D out) (History.Returned.searched a out') s') said_words told_length
    line r line' out'

-- preview FILE: what the program preview prints, to user 0 or 1; 18 to any other
abbrev pub preview_reply_to : ℕ → List ℕ → Reply
preview_reply_to user file = cond (ltb 1 user) (refusal 18) (preview_reply file)
