-- `column_of` meets its contract: the counts and positions of the layout are those of the words.
-- Assumes nothing.
use mathlib.Core.Path.{◌≡◌, ◌∙◌}
use Prim.Native.Nat.{ℕ}
use native.Mathlib.Omega.{arith}
use borrow.Author.Rules.{rules}
use Rattle.columns.specs.Columns.{spaced}
use Rattle.columns.proofs.column_of.Statement.{statement}
use Rattle.columns.proofs.column_of.Tie as tie

same : {a b s t m n : ℕ} → a ≡ b → s ≡ t → m ≡ n → spaced a s m ≡ spaced b t n
same e f g = λ i. spaced (e i) (f i) (g i)

returns : tie.Need-returns-in-Input
returns c =
    rw c.in-Input.is (c.spaced.ensures ∙ same (omega arith) (omega arith) (omega arith))

returns-2 : tie.Need-returns-in-Latch
returns-2 c =
    rw c.in-Latch.is (c.spaced-in-Latch.ensures ∙ same (omega arith) (omega arith) (omega arith))

returns-3 : tie.Need-returns-in-Gate
returns-3 c =
    rw c.in-Gate.is (c.spaced-in-Gate.ensures ∙ same (omega arith) (omega arith) (omega arith))

returns-4 : tie.Need-returns-in-Next
returns-4 c =
    rw c.in-Next.is (c.spaced-in-Next.ensures ∙ same (omega arith) (omega arith) (omega arith))

returns-5 : tie.Need-returns-in-Root
returns-5 c =
    rw c.in-Root.is (c.spaced-in-Root.ensures ∙ same (omega arith) (omega arith) (omega arith))

returns-6 : tie.Need-returns-in-Left
returns-6 c =
    rw c.in-Left.is (c.spaced-in-Left.ensures ∙ same (omega arith) (omega arith) (omega arith))

returns-7 : tie.Need-returns-in-Right
returns-7 c =
    rw c.in-Right.is (c.spaced-in-Right.ensures ∙ same (omega arith) (omega arith) (omega arith))

pub column_of_spec : {M : Type 1} → statement M
column_of_spec =
    tie.close
    (tie.spec (λ c κs. search rules) (λ c. search rules) (λ c κs. search rules) (λ c. search rules) (λ c κs. search rules) (λ c. search rules) (λ c κs. search rules) (λ c. search rules) (λ c. search rules) (λ c κs. search rules) (λ c. search rules) (λ c. search rules) (λ c. search rules) (λ c κs. search rules) (λ c. search rules) (λ c. search rules) (λ c κs. search rules) (λ c. search rules) (λ c. search rules) (λ c κs. search rules) returns returns-2 returns-3 returns-4 returns-5 returns-6 returns-7)
