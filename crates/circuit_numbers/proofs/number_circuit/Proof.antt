-- `circuit_numbers::number_circuit` meets its contract. Assumes nothing.
use Prim.Native.Nat.{◌+◌, ◌≤◌}
use native.Mathlib.Omega.{arith}
use borrow.Author.Rules.{rules}
use Rattle.renumber.proofs.Naming.{inputs-ready, latches-ready}
use Rattle.circuit_numbers.proofs.Laws.{Sizes, sizes, names-given}
use Rattle.circuit_numbers.proofs.number_circuit.Statement.{statement}
use Rattle.circuit_numbers.proofs.number_circuit.Tie as tie

number-inputs-requires : tie.Need-number_inputs-requires
number-inputs-requires c κs =
    inputs-ready c.requires.0 c.args.p c.requires.1.0 c.args.names.now (omega (arith, c.requires.1.1.0))

cast-number-triples : tie.Need-overflow_cast-p
cast-number-triples c = omega (arith, sizes c.requires.0 c.requires.1.0)

number-triples-requires : tie.Need-number_triples-requires
number-triples-requires c κs =
    latches-ready c.requires.0 c.args.p c.requires.1.0 c.number_inputs.new.names (omega (arith, c.requires.1.1.0, c.number_inputs.auto.names)) (c.args.p.i + 1)
    (omega (arith, sizes c.requires.0 c.requires.1.0))

number-listed-requires : tie.Need-number_listed-requires
number-listed-requires c κs = (
  c.requires.0,
  (
    c.requires.1.0,
    (
      names-given c.requires.0 c.args.p c.requires.1.0 c.args.names.now c.number_inputs.new.names c.number_triples.new.names c.requires.1.1.0 c.requires.1.1.1
          c.number_inputs.auto.names c.number_triples.auto.names c.number_inputs.ensures c.number_triples.ensures,
      c.requires.1.1.2,
    ),
  ),
)

pub number_circuit_spec : {M : Type 1} → statement M
number_circuit_spec =
    tie.close
    (tie.spec number-inputs-requires (λ c. search rules) cast-number-triples number-triples-requires number-listed-requires (λ c. search rules) (λ c. search rules) (λ c. search rules))
