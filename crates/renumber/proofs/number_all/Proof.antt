-- `join::number_all` meets its contract. Assumes nothing.
use Rattle.renumber.proofs.Naming.{inputs-ready, latches-ready, gates-ready, numbered}
use native.Mathlib.Omega.{arith}
use borrow.Author.Rules.{rules}
use Rattle.renumber.proofs.number_all.Statement.{statement}
use Rattle.renumber.proofs.number_all.Tie as tie
use Rattle.renumber.proofs.number_all.Reads as reads
use Rattle.renumber.proofs.number_all.Lts as lts
use Rattle.renumber.proofs.number_inputs.Reads as number-inputs-reads
use Rattle.renumber.proofs.number_triples.Reads as number-triples-reads

number-inputs-requires : tie.Need-number_inputs-requires
number-inputs-requires c κs = inputs-ready c.requires.0 c.args.p c.requires.1.0 c.args.names.now c.requires.1.1.0

number-triples-requires : tie.Need-number_triples-requires
number-triples-requires c κs =
    latches-ready c.requires.0 c.args.p c.requires.1.0 c.number_inputs.new.names (omega (arith, c.number_inputs.auto.names, c.requires.1.1.0)) c.args.latch c.requires.1.1.1

number-triples-requires-2 : tie.Need-number_triples-requires-2
number-triples-requires-2 c κs =
    gates-ready c.requires.0 c.args.p c.requires.1.0 c.number_triples.new.names (omega (arith, c.number_inputs.auto.names, c.number_triples.auto.names, c.requires.1.1.0)) c.args.gate
    c.requires.1.1.2

returns : tie.Need-returns
returns c =
    numbered c.requires.0 c.args.p c.requires.1.0 c.args.latch c.args.gate c.args.names.now c.number_inputs.new.names c.number_triples.new.names
    c.number_triples-2.new.names c.requires.1.1.3 c.number_inputs.ensures c.number_triples.ensures c.number_triples-2.ensures

pub number_all_spec : {M : Type 1} → statement M
number_all_spec =
    tie.close
    (tie.spec number-inputs-requires number-triples-requires number-triples-requires-2 (λ c. search rules) returns)
