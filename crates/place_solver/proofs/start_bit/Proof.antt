-- `place_solver::start_bit` meets its contract. Assumes nothing.
use mathlib.Core.Path.{sym, ap, ◌∙◌}
use Prim.Native.Nat.{ℕ}
use borrow.Author.Tests.{eq-eqb, ne_eqb}
use Rattle.memory.specs.Record as R
use Rattle.place_solver.specs.From as S
use borrow.Author.Rules.{rules}
use Rattle.place_solver.proofs.start_bit.Statement.{statement}
use Rattle.place_solver.proofs.start_bit.Tie as tie

returns : tie.Need-returns-then-fact-eq2
unfolding S.started_bit
returns c = rw (← c.field-fact.ensures, ← c.with_digit-new.ensures, eq-eqb _ _ c.if-fact-eq2.true, ← c.set_field.ensures) c.set_field-then-fact-eq2.ensures

returns-2 : tie.Need-returns-else-fact-eq2
unfolding S.started_bit
returns-2 c = rw (← c.field-fact.ensures, ← c.with_digit-new.ensures, ne_eqb _ _ c.if-fact-eq2.false) c.set_field.ensures

pub start_bit_spec : {M : Type 1} → statement M
start_bit_spec =
    tie.close
    (tie.spec (λ c κs. search rules) (λ c κs. search rules) (λ c κs. search rules) (λ c κs. search rules) (λ c. search rules) returns (λ c. search rules) returns-2)
