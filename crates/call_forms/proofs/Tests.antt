-- The tests that a call begins with. Assumes nothing.
use mathlib.Core.Path.{◌≡◌, refl, sym, ap, ◌∙◌}
use mathlib.Core.Bool.{true, false}
use mathlib.Core.List.{List, [], ◌∷◌}
use Prim.Native.Nat.{ℕ, ◌≤◌, ◌<◌}
use native.Mathlib.Omega.{arith}
use borrow.Author.Tests.{le-leb, lt-leb}
use lib.Dec.{leb}
use Rattle.aiger.specs.Load.{Answer, refused, gives}
use Rattle.aiger.specs.Operations.{Test, need, judge}
use Rattle.first_tests.proofs.Tested.{never, refused-same}
use Rattle.writer.specs.Forms.{form_test, WrittenIn}
use Rattle.call_forms.specs.Table.{Row, pin_row, write_row}
use Rattle.call_forms.specs.Forms.{Tested, ForUser, user_test, PinSet, UserWritten}

-- a user who may
pub judged-known : (row : Row) (user : ℕ) → leb user row.last ≡ true → judge (user_test row user ∷ []) ≡ gives tt
unfolding judge
judged-known row user e = rw e

-- a user who may not, whatever tests follow
pub judged-stranger : (row : Row) (user : ℕ) (more : List Test) → leb user row.last ≡ false → judge (user_test row user ∷ more) ≡ refused 18
unfolding judge
judged-stranger row user more e = rw e

module _ {A S : Type 0} (row : Row) (user : ℕ) {lent : S} {P : Answer A → S → Type 0} where
  pub known : {a : Answer A} {s : S} → leb user row.last ≡ true → P a s → ForUser row user lent P a s
  known e p = Tested.passes (judged-known row user e) p

  pub stranger : leb user row.last ≡ false → ForUser row user lent P (refused 18) lent
  stranger e = Tested.refuses (judged-stranger row user [] e)

  -- the same by numbers
  pub known_by : {a : Answer A} {s : S} → user ≤ row.last → P a s → ForUser row user lent P a s
  known_by h p = known (le-leb user row.last h) p

  pub stranger-by : row.last < user → ForUser row user lent P (refused 18) lent
  stranger-by h = stranger (lt-leb user row.last h)

  -- what is answered to a user who may
  pub known_only : user ≤ row.last → (a : Answer A) (s : S) → ForUser row user lent P a s → P a s
  known_only u a s (Tested.refuses e) = absurd (never (sym e ∙ judged-known row user (le-leb user row.last u)))
  known_only u a s (Tested.passes e p) = p

-- the first test refuses a user who may not, whatever follows, and leaves what was lent
pub first-refuses : {A S : Type 0} (row : Row) (user : ℕ) (more : List Test) {lent : S} {P : Answer A → S → Type 0} {a : Answer A} {s : S} → row.last < user
    → Tested (user_test row user ∷ more) lent P a s → (a ≡ refused 18) × (s ≡ lent)
first-refuses row user more h (Tested.refuses k) = (ap refused (refused-same (sym k ∙ judged-stranger row user more (lt-leb user row.last h))), refl)
first-refuses row user more h (Tested.passes k p) = absurd (never (sym (judged-stranger row user more (lt-leb user row.last h)) ∙ k))

-- so for a pin, before 9 and whatever its value
pub pin-stranger : (user input value : ℕ) {m shared shared' : List ℕ} {a : Answer (Unit {0})} → 1 < user → PinSet m user input value shared a shared'
    → (a ≡ refused 18) × (shared' ≡ shared)
pin-stranger user input value h x = first-refuses pin_row user (need 18 (leb value 2) ∷ []) h x

-- and for write, before 21 and whatever its form
pub write-stranger : (user form : ℕ) {m out out' : List ℕ} {a : Answer ℕ} → 1 < user → UserWritten m user form out a out'
    → (a ≡ refused 18) × (out' ≡ out)
write-stranger user form h x = first-refuses write_row user (form_test form ∷ []) h x

-- a user who may write: what the operation answers without users
module _ (user : ℕ) (e : leb user write_row.last ≡ true) (form : ℕ) where
  -- the two tests are that of the form
  form-alone : judge (user_test write_row user ∷ form_test form ∷ []) ≡ judge (form_test form ∷ [])
  unfolding judge
  form-alone = rw e

  pub write_known : {m out out' : List ℕ} {a : Answer ℕ} → WrittenIn form m out a out' → UserWritten m user form out a out'
  write_known (Tested.refuses h) = Tested.refuses (form-alone ∙ h)
  write_known (Tested.passes h w) = Tested.passes (form-alone ∙ h) w

  pub write-only : {m out out' : List ℕ} {a : Answer ℕ} → UserWritten m user form out a out' → WrittenIn form m out a out'
  write-only (Tested.refuses h) = Tested.refuses (sym form-alone ∙ h)
  write-only (Tested.passes h w) = Tested.passes (sym form-alone ∙ h) w

pub write-refused : (user form : ℕ) {m : List ℕ} (out : List ℕ) → leb user write_row.last ≡ false → UserWritten m user form out (refused 18) out
write-refused user form out e = Tested.refuses (judged-stranger write_row user (form_test form ∷ []) e)
