-- The operation write in form 0 is the text writer, in form 1 the binary writer, byte for byte; in any other form it answers 21, whatever
-- is lent. Clause 12.14. Assumes nothing.
use mathlib.Core.Path.{◌≡◌, refl, sym, ◌∙◌}
use mathlib.Core.Bool.{true, false}
use mathlib.Core.List.{List, [], ◌∷◌}
use Prim.Native.Nat.{ℕ, zero, suc, ◌≤◌, ◌<◌}
use native.Mathlib.Omega.{arith}
use borrow.Author.Tests.{le-leb, lt-leb}
use lib.Dec.{leb}
use Rattle.aiger.specs.Load.{Answer, refused, gives}
use Rattle.aiger.specs.Operations.{judge, Written}
use Rattle.roundtrip.proofs.Determined.{written_same}
use Rattle.first_tests.specs.Tested.{Tested}
use Rattle.first_tests.proofs.Tested.{passed, failed, tested-same}
use Rattle.renumbered.specs.Renumbered.{WrittenBinary}
use Rattle.write_binary.proofs.RoundTrip as binary
use Rattle.writer.specs.Forms.{form_test, InForm, WrittenIn}

-- a form that there is
pub known-form : (form : ℕ) → form ≤ 1 → judge (form_test form ∷ []) ≡ gives tt
unfolding judge
known-form form l = rw (le-leb form 1 l)

-- another number
pub no-form : (form : ℕ) → 1 < form → judge (form_test form ∷ []) ≡ refused 21
unfolding judge
no-form form l = rw (lt-leb form 1 l)

-- the operation answers 21 to it, whatever is lent
pub other-form : {m out out' : List ℕ} {a : Answer ℕ} (form : ℕ) → 1 < form → WrittenIn form m out a out' → (a ≡ refused 21) × (out' ≡ out)
other-form form l w = failed (no-form form l) w

pub refused-form : {m : List ℕ} (form : ℕ) (out : List ℕ) → 1 < form → WrittenIn form m out (refused 21) out
refused-form form out l = Tested.refuses (no-form form l)

-- form 0 is the text writer
of-text : {m out out' : List ℕ} {a : Answer ℕ} → InForm 0 m out a out' → Written m out a out'
of-text (InForm.text e w) = w
of-text (InForm.binary e w) = absurd (omega (arith, e))

-- form 1 is the binary writer
of-binary : {m out out' : List ℕ} {a : Answer ℕ} → InForm 1 m out a out' → WrittenBinary m out a out'
of-binary (InForm.text e w) = absurd (omega (arith, e))
of-binary (InForm.binary e w) = w

module _ {m out out' : List ℕ} {a : Answer ℕ} where
  pub form-text : WrittenIn 0 m out a out' → Written m out a out'
  form-text w = of-text (passed (known-form 0 (omega arith)) w)

  pub form-binary : WrittenIn 1 m out a out' → WrittenBinary m out a out'
  form-binary w = of-binary (passed (known-form 1 (omega arith)) w)

  pub text-form : (form : ℕ) → form ≡ 0 → Written m out a out' → WrittenIn form m out a out'
  text-form form e w = Tested.passes (known-form form (omega arith)) (InForm.text e w)

  pub binary-form : (form : ℕ) → form ≡ 1 → WrittenBinary m out a out' → WrittenIn form m out a out'
  binary-form form e w = Tested.passes (known-form form (omega arith)) (InForm.binary e w)

-- each form answers one thing and leaves one output
pub form-same : {m out : List ℕ} {form : ℕ} (a b : Answer ℕ) (o₁ o₂ : List ℕ) → InForm form m out a o₁ → InForm form m out b o₂ → (a ≡ b) × (o₁ ≡ o₂)
form-same a b o₁ o₂ (InForm.text e w) (InForm.text d v) = written_same w v
form-same a b o₁ o₂ (InForm.text e w) (InForm.binary d v) = absurd (omega (arith, e, d))
form-same a b o₁ o₂ (InForm.binary e w) (InForm.text d v) = absurd (omega (arith, e, d))
form-same a b o₁ o₂ (InForm.binary e w) (InForm.binary d v) = binary.written_same w v

pub write_same : {m out o₁ o₂ : List ℕ} {a b : Answer ℕ} {form : ℕ} → WrittenIn form m out a o₁ → WrittenIn form m out b o₂ → (a ≡ b) × (o₁ ≡ o₂)
write_same {o₁ = o₁} {o₂ = o₂} {a = a} {b = b} w v = tested-same (λ (o p : List ℕ). o ≡ p) refl form-same a b o₁ o₂ w v
