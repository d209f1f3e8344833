-- Clause 6.3: tests that need no circuit come before all others. Assumes nothing.
use Rattle.std.specs.Prelude.{◌≡◌, List, ℕ}
use Rattle.aiger.specs.Load.{Answer, refused, gives}
use Rattle.aiger.specs.Operations.{Test, judge}

-- The form of a call: tests that need no circuit, in their order, come before all others; the first that fails refuses, and leaves what
-- was lent as it was. Where all pass, the operation answers.
pub data Tested {A S : Type 0} (tests : List Test) (lent : S) (answers : Answer A → S → Type 0) : Answer A → S → Type 0 where
  refuses : {n : ℕ} → judge tests ≡ refused n → Tested tests lent answers (refused n) lent
  passes : {a : Answer A} {s : S} → judge tests ≡ gives tt → answers a s → Tested tests lent answers a s
