-- Clause 12.7: the commands of the resident program. A request is a line of its input: the user's number, a verb and its
-- arguments, with one space between two of them. Assumes nothing.
use Rattle.std.specs.Prelude.{Bool, true, false, cond, List, [], ◌∷◌, ℕ, eqb, leb, length}
use Rattle.std.proofs.Math.Option.{Option, none, some}
use Rattle.aiger.specs.Lists.{same}
use Rattle.aiger.specs.Text.{bytes, when, ◌>>=◌, ◌>>◌}
use Rattle.arguments.specs.Arguments.{number_of, seed_of, place_of}
use Rattle.panel_lines.specs.declared.Verb.{Verb}
use Rattle.panel_lines.specs.declared.View.{View}
use Rattle.panel_lines.specs.declared.View.TheVariants.{Replay, Widen, Waveform}
use Rattle.panel_lines.specs.declared.Query.{Query}
use Rattle.panel_lines.specs.declared.Query.TheVariants.{Pin, Search, Fold, Write, Generate, SearchFrom}

-- a command: a query, which names no file; or load, preview, join, or a view of a witness, which name files
pub data Command : Type 0 where
  query : Query → Command
  load : (file : List ℕ) → Command
  preview : (file : List ℕ) → Command
  join : (old new : List ℕ) → Command
  view : View → (witness : List ℕ) → Command

-- the bytes before the first space, and those from it on
unfoldable pub split : List ℕ → List ℕ × List ℕ
split [] = ([], [])
split (c ∷ s) = cond (eqb c 32) ([], c ∷ s) (c ∷ (split s).0, (split s).1)

-- the word after a space, which has a byte at least, and what follows it. What is given is empty, or begins with the space at which
-- `split` ended
unfoldable pub word : List ℕ → Option (List ℕ × List ℕ)
word [] = none
word (c ∷ s) = when (leb 1 (length (split s).0)) >> some (split s)

-- a word that is a number
unfoldable pub number : List ℕ → Option (ℕ × List ℕ)
number s = do
  w ← word s
  n ← number_of w.0
  some (n, w.1)

-- a word that is a seed
unfoldable pub seed : List ℕ → Option (ℕ × List ℕ)
seed s = do
  w ← word s
  n ← seed_of w.0
  some (n, w.1)

-- a word that is a place
unfoldable pub place : List ℕ → Option (ℕ × List ℕ)
place s = do
  w ← word s
  n ← place_of w.0
  some (n, w.1)

-- nothing follows
unfoldable pub ended : List ℕ → Option (Unit {0})
ended [] = some tt
ended (c ∷ s) = none

-- ---- the arguments of a verb

-- a place and a number
unfoldable pub place_number : List ℕ → Option (ℕ × ℕ)
place_number s = do
  a ← place s
  b ← number a.1
  ended b.1
  some (a.0, b.0)

-- two numbers
unfoldable pub two_numbers : List ℕ → Option (ℕ × ℕ)
two_numbers s = do
  a ← number s
  b ← number a.1
  ended b.1
  some (a.0, b.0)

-- one name of a file
unfoldable pub one_name : List ℕ → Option (List ℕ)
one_name s = do
  f ← word s
  ended f.1
  some f.0

-- nothing, or a word that may be given
unfoldable pub flag_of : List ℕ → List ℕ → Option Bool
flag_of w [] = some false
flag_of w (c ∷ s) = one_name (c ∷ s) >>= λ v. when (same v w) >> some true

-- pin INPUT VALUE
unfoldable pub pin_of : List ℕ → Option Command
pin_of s = two_numbers s >>= λ p. some (Command.query (Pin p.0 p.1))

-- search b k D
unfoldable pub search_of : List ℕ → Option Command
search_of s = do
  b ← number s
  p ← two_numbers b.1
  some (Command.query (Search b.0 p.0 p.1))

-- fold b t
unfoldable pub fold_of : List ℕ → Option Command
fold_of s = two_numbers s >>= λ p. some (Command.query (Fold p.0 p.1))

-- Clause 12.14: a form, by the word `binary`, which is 1, or by its number
unfoldable pub form_of : List ℕ → Option ℕ
form_of w = cond (same w (bytes "binary")) (some 1) (number_of w)

-- write [binary | FORM], in form 0 where nothing follows
unfoldable pub write_of : List ℕ → Option Command
write_of [] = some (Command.query (Write 0))
write_of (c ∷ s) = do
  w ← one_name (c ∷ s)
  form ← form_of w
  some (Command.query (Write form))

-- load FILE
unfoldable pub load_of : List ℕ → Option Command
load_of s = one_name s >>= λ f. some (Command.load f)

-- preview FILE
unfoldable pub preview_of : List ℕ → Option Command
preview_of s = one_name s >>= λ f. some (Command.preview f)

-- join OLD NEW
unfoldable pub join_of : List ℕ → Option Command
join_of s = do
  old ← word s
  new ← one_name old.1
  some (Command.join old.0 new)

-- replay WITNESS and widen WITNESS
unfoldable pub view_of : View → List ℕ → Option Command
view_of v s = one_name s >>= λ f. some (Command.view v f)

-- waveform WITNESS [inputs]
unfoldable pub waveform_of : List ℕ → Option Command
waveform_of s = do
  f ← word s
  only ← flag_of (bytes "inputs") f.1
  some (Command.view (Waveform only) f.0)

-- generate SEED I L A
unfoldable pub generate_of : List ℕ → Option Command
generate_of s = do
  n ← seed s
  i ← number n.1
  p ← two_numbers i.1
  some (Command.query (Generate n.0 i.0 p.0 p.1))

-- search-from b t PLACE D
unfoldable pub search_from_of : List ℕ → Option Command
search_from_of s = do
  b ← number s
  t ← number b.1
  p ← place_number t.1
  some (Command.query (SearchFrom b.0 t.0 p.0 p.1))

-- ---- a request

-- the verbs
abbrev pub verbs : List (List ℕ × Verb)
verbs =
    (bytes "pin", Verb.Pin)
    ∷ (bytes "search", Verb.Search)
    ∷ (bytes "fold", Verb.Fold)
    ∷ (bytes "write", Verb.Write)
    ∷ (bytes "load", Verb.Load)
    ∷ (bytes "preview", Verb.Preview)
    ∷ (bytes "join", Verb.Join)
    ∷ (bytes "replay", Verb.Replay)
    ∷ (bytes "widen", Verb.Widen)
    ∷ (bytes "waveform", Verb.Waveform)
    ∷ (bytes "generate", Verb.Generate)
    ∷ (bytes "search-from", Verb.SearchFrom)
    ∷ []

-- the verb that a table gives for a word
abbrev pub among : List (List ℕ × Verb) → List ℕ → Option Verb
among [] w = none
among (v ∷ vs) w = cond (same w v.0) (some v.1) (among vs w)

abbrev pub verb_of : List ℕ → Option Verb
verb_of w = among verbs w

-- a verb with what follows it
abbrev pub command_of : Verb → List ℕ → Option Command
command_of Verb.Pin s = pin_of s
command_of Verb.Search s = search_of s
command_of Verb.Fold s = fold_of s
command_of Verb.Write s = write_of s
command_of Verb.Load s = load_of s
command_of Verb.Preview s = preview_of s
command_of Verb.Join s = join_of s
command_of Verb.Replay s = view_of Replay s
command_of Verb.Widen s = view_of Widen s
command_of Verb.Waveform s = waveform_of s
command_of Verb.Generate s = generate_of s
command_of Verb.SearchFrom s = search_from_of s

-- a request of at most 4,096 bytes, without the line feed: the user, and the command
unfoldable pub parse : List ℕ → Option (ℕ × Command)
parse request = do
  when (leb (length request) 4096)
  user ← number_of (split request).0
  word ← word (split request).1
  verb ← verb_of word.0
  command ← command_of verb word.1
  some (user, command)
