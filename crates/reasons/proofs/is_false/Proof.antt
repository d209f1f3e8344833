-- `reasons::is_false` meets its contract. Assumes nothing.
use mathlib.Core.Path.{◌≡◌, refl}
use mathlib.Core.Bool.{Bool, true, false}
use Prim.Native.Nat.{ℕ, ◌+◌, ◌-◌, ◌%◌}
use native.Mathlib.Omega.{arith}
use borrow.Author.Tests.{eq-eqb, ne_eqb, eqb-true, eqb-false}
use lib.Dec.{eqb}
use Rattle.reasons.specs.Reason as R
use borrow.Author.Rules.{rules}
use Rattle.reasons.proofs.is_false.Statement.{statement}
use Rattle.reasons.proofs.is_false.Tie as tie

-- the test as a sum
summed : (a l : ℕ) → eqb (a + l % 2) 2 ≡ eqb a (2 - l % 2)
summed a l = go (eqb a (2 - l % 2)) refl
  where
    go : (b : Bool) → eqb a (2 - l % 2) ≡ b → eqb (a + l % 2) 2 ≡ b
    go true e = eq-eqb (a + l % 2) 2 (omega (arith, eqb-true a (2 - l % 2) e))
    go false e = ne_eqb (a + l % 2) 2 (λ h. eqb-false a (2 - l % 2) e (omega (arith, h)))

returns : tie.Need-returns
unfolding R.is_false
returns c = rw (← c.field-fact.ensures) (summed (c.field-fact.result % 4) c.args.l)

pub is_false_spec : {M : Type 1} → statement M
is_false_spec = tie.close (tie.spec (λ c κs. search rules) (λ c. search rules) returns)
