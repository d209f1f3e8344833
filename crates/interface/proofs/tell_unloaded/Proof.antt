-- `interface::tell_unloaded` meets its contract. Assumes nothing.
use mathlib.Core.Path.{refl}
use borrow.Author.Rules.{rules}
use borrow.Author.Tests.{eq-eqb, ne_eqb}
use native.Mathlib.Omega.{arith}
use Rattle.interface.proofs.tell_unloaded.Statement.{statement}
use Rattle.interface.proofs.tell_unloaded.Tie as tie

returns : tie.Need-returns-then-n-eq18
returns c =
    let e = eq-eqb c.args.n 18 (omega arith) in
    record { returns = rw e (omega arith); leaves = rw e }

same_length : tie.Need-shape_of-answer
same_length c = c.tell_circuit.auto.answer

returns-2 : tie.Need-returns
returns-2 c =
    let e = ne_eqb c.args.n 18 (λ h. omega (arith, h)) in
    record { returns = rw e; leaves = rw e c.tell_circuit.ensures }

pub tell_unloaded_spec : {M : Type 1} → statement M
tell_unloaded_spec =
    tie.close
    (tie.spec returns (λ c κs. search rules) same_length returns-2)
