-- Clause 12.14: the forms of the operation write, and what it answers and leaves in each. Assumes nothing.
use Rattle.std.specs.Prelude.{◌≡◌, List, [], ◌∷◌, ℕ, zero, suc, leb}
use Rattle.aiger.specs.Circuit.{Circuit}
use Rattle.aiger.specs.Load.{Answer}
use Rattle.aiger.specs.Write.{write}
use Rattle.aiger.specs.Operations.{Test, need, Written}
use Rattle.first_tests.specs.Tested.{Tested}
use Rattle.renumbered.specs.Renumbered.{write_binary, WrittenBinary}

-- 21 where the form is neither 0 nor 1
abbrev pub form_test : ℕ → Test
form_test form = need 21 (leb form 1)

-- form 0 is the text, form 1 the binary form, each with its bytes and its length
pub data InForm (form : ℕ) (m out : List ℕ) (a : Answer ℕ) (out' : List ℕ) : Type 0 where
  text : form ≡ 0 → Written m out a out' → InForm form m out a out'
  binary : form ≡ 1 → WrittenBinary m out a out' → InForm form m out a out'

-- the bytes of a form
abbrev pub text_in : ℕ → Circuit → List ℕ
text_in zero c = write c
text_in (suc n) c = write_binary c

-- write answers the length of the text, 21, 9 or 13, in this order
abbrev pub WrittenIn : ℕ → List ℕ → List ℕ → Answer ℕ → List ℕ → Type 0
WrittenIn form m out a out' = Tested (form_test form ∷ []) out (InForm form m out) a out'
