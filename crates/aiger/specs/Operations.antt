-- Clause 10.1: what each operation answers, and what it leaves in the lent memories. A circuit memory m, a file f, a working memory w, an
-- output out and a witness text are the lists of their words or bytes; m', w' and out' are those that the operation leaves. What has no
-- such second list is lent to be read only (Clause 6.5: of circuit memories load changes its own, join its third). Assumes nothing.
use Rattle.std.specs.Prelude.{◌≡◌, Bool, true, false, cond, ◌&&◌, List, [], ◌∷◌, ◌++◌, ℕ, ◌+◌, ◌*◌, ◌≤◌, T, leb, ltb, length, drop}
use Rattle.std.proofs.Math.Option.{Option, none, some}
use Rattle.aiger.specs.Circuit.{Circuit}
use Rattle.aiger.specs.Load.{Answer, refused, gives, load}
use Rattle.aiger.specs.Frames.{size}
use Rattle.aiger.specs.Search.{Outcome, Report, NeverOf, reached_right, question, permitted, first_witness}
use Rattle.aiger.specs.Witness.{Witness, witness_length, read_witness, confirms}
use Rattle.aiger.specs.Write.{count_row, write}
use Rattle.aiger.specs.Memory.{Holds, image}
use Rattle.aiger.specs.Fold.{folds}

-- a text at the front, everything after it as it was
abbrev pub front : List ℕ → List ℕ → List ℕ
front text out = text ++ drop (length text) out

-- Clause 6.1, number 9: no circuit is held
abbrev pub HoldsNone : List ℕ → Type 0
HoldsNone m = (c : Circuit) → Holds m c → ⊥

-- load. Clauses 6.2, 6.3 and 6.6: a refusal leaves the memory; an accepted load answers the counts and leaves the words past those needed
pub data Loaded (m f : List ℕ) : Answer (List ℕ) → List ℕ → Type 0 where
  refuses : {n : ℕ} → load (length m) f ≡ refused n → Loaded m f (refused n) m
  stores : (c : Circuit) → load (length m) f ≡ gives c → Loaded m f (gives (c.max_var ∷ count_row c)) (front (image c) m)

-- A test, and the number of the refusal where it fails.
pub record Test : Type 0 where
  pub number : ℕ
  pub passes : Bool

abbrev pub need : ℕ → Bool → Test
need n p = record { number = n; passes = p }

-- Clause 6.3: tests stand in the order in which they are made, and the first that fails refuses
unfoldable pub judge : List Test → Answer (Unit {0})
judge [] = gives tt
judge (t ∷ ts) = cond t.passes (judge ts) (refused t.number)

-- The form of an operation on the circuit in memory m: refusal 9 where m holds none; else the refusal of the first test that fails; else
-- the effect, which relates the circuit, the answer and what is left of that which was lent to be written. A refusal leaves it as it was.
pub data Operated {A S : Type 0} (m : List ℕ) (tests : Circuit → List Test) (lent : S) (effect : Circuit → A → S → Type 0)
    : Answer A → S → Type 0 where
  no_circuit : HoldsNone m → Operated m tests lent effect (refused 9) lent
  refuses : (c : Circuit) {n : ℕ} → Holds m c → judge (tests c) ≡ refused n → Operated m tests lent effect (refused n) lent
  acts : (c : Circuit) {a : A} {s : S} → Holds m c → judge (tests c) ≡ gives tt → effect c a s → Operated m tests lent effect (gives a) s

abbrev pub is_some : {A : Type 0} → Option A → Bool
is_some none = false
is_some (some a) = true

-- Clause 6.1, number 10: there is a bad line b
abbrev pub bad_test : Circuit → ℕ → Test
bad_test c b = need 10 (ltb b (length c.bads))

-- Clauses 6.1 and 2.9, number 12: the size is at most 65,536 and has its 16 words a unit among the `room` words
abbrev pub size_test : Circuit → ℕ → ℕ → Test
size_test c k room = need 12 (leb (size c k) 65536 && leb (16 * size c k) room)

-- the tests 10 to 12 of search and fold: `budget` is whether the budget is right, true where there is none, and working memory has `room`
-- words
abbrev pub bound_tests : Circuit → ℕ → ℕ → Bool → ℕ → List Test
bound_tests c b k budget room = bad_test c b ∷ need 11 (leb k 255 && budget) ∷ size_test c k room ∷ []

-- Clause 6.1, number 11: the budget is neither 0 nor above 2 to the 32
abbrev pub budget_right : ℕ → Bool
budget_right D = leb 1 D && leb D 4294967296

-- Clauses 3.1, 6.3 and 6.4: search's tests 10 to 13, where the output has `len` bytes
abbrev pub search_tests : Circuit → ℕ → ℕ → ℕ → ℕ → ℕ → List Test
search_tests c b k D room len = bound_tests c b k (budget_right D) room ++ (need 13 (leb (witness_length c b k) len) ∷ [])

-- Clause 3.6: found leaves its witness at the front, none and spent leave every byte
abbrev pub shown : Circuit → ℕ → Outcome → List ℕ → List ℕ
shown c b (Outcome.found t) out = front (first_witness c b t) out
shown c b (Outcome.none k) out = out
shown c b (Outcome.spent t) out = out

-- the length of the witness that found leaves, 0 where there is none
abbrev pub shown_length : Circuit → ℕ → Outcome → ℕ
shown_length c b (Outcome.found t) = witness_length c b t
shown_length c b (Outcome.none k) = 0
shown_length c b (Outcome.spent t) = 0

-- search: where several outcomes, or several reached places (Clause 12.10), are permitted the program's choice is a function of the
-- circuit, b, k and D alone, so that what working memory held never matters (Clause 3.7). Working memory and output are lent to be
-- written; what working memory holds after is not promised.
pub record SearchEffect (chosen : Circuit → ℕ → ℕ → ℕ → Report) (b k D : ℕ) (out : List ℕ)
    (c : Circuit) (o : Report) (left : List ℕ × List ℕ) : Type 0 where
  pub chose : o ≡ chosen c b k D
  pub allowed : T (permitted c b k D o.outcome)
  pub measured : o.length ≡ shown_length c b o.outcome
  pub never : NeverOf (question c b) k o
  pub told : T (reached_right (question c b) D o.outcome o.reached)
  pub shows : left.1 ≡ shown c b o.outcome out

abbrev pub Searched : (Circuit → ℕ → ℕ → ℕ → Report) → List ℕ → ℕ → ℕ → ℕ → List ℕ → List ℕ → Answer Report → List ℕ → List ℕ → Type 0
Searched chosen m b k D w out a w' out' =
    Operated m (λ c. search_tests c b k D (length w) (length out)) (w, out) (SearchEffect chosen b k D out) a (w', out')

-- Clauses 6.3 and 6.4: fold's tests 10 to 13; the output needs 24 bytes for each unit of the size at t, and 64
abbrev pub fold_tests : Circuit → ℕ → ℕ → ℕ → ℕ → List Test
fold_tests c b t room len = bound_tests c b t true room ++ (need 13 (leb (24 * size c t + 64) len) ∷ [])

-- fold: the text of a permitted circuit at the front of the output, and as the answer its length. Which circuit is a function of c, b and t
-- alone, and its text is no longer than the output that is needed
pub record FoldEffect (chosen : Circuit → ℕ → ℕ → Circuit) (b t : ℕ) (out : List ℕ)
    (c : Circuit) (n : ℕ) (left : List ℕ × List ℕ) : Type 0 where
  pub permitted : T (folds c b t (chosen c b t))
  pub short : length (write (chosen c b t)) ≤ 24 * size c t + 64
  pub count : n ≡ length (write (chosen c b t))
  pub shows : left.1 ≡ front (write (chosen c b t)) out

abbrev pub Folded : (Circuit → ℕ → ℕ → Circuit) → List ℕ → ℕ → ℕ → List ℕ → List ℕ → Answer ℕ → List ℕ → List ℕ → Type 0
Folded chosen m b t w out a w' out' =
    Operated m (λ c. fold_tests c b t (length w) (length out)) (w, out) (FoldEffect chosen b t out) a (w', out')

-- replay of a witness without `x`: 14 where the text is no witness of the circuit, else yes or no. Nothing is lent to be written.
pub record ReplayEffect (text : List ℕ) (c : Circuit) (says : Bool) (left : Unit {0}) : Type 0 where
  pub witness : Witness
  pub reads : read_witness c text ≡ some witness
  pub judged : says ≡ confirms c witness

abbrev pub Replayed : List ℕ → List ℕ → Answer Bool → Type 0
Replayed m text a = Operated m (λ c. need 14 (is_some (read_witness c text)) ∷ []) tt (ReplayEffect text) a tt

-- Clauses 6.4, 6.5 and 7.1: write answers the length of the text, 9 or 13, and leaves the bytes past the text
pub record WriteEffect (out : List ℕ) (c : Circuit) (n : ℕ) (left : List ℕ) : Type 0 where
  pub count : n ≡ length (write c)
  pub shows : left ≡ front (write c) out

abbrev pub Written : List ℕ → List ℕ → Answer ℕ → List ℕ → Type 0
Written m out a out' = Operated m (λ c. need 13 (leb (length (write c)) (length out)) ∷ []) out (WriteEffect out) a out'
