-- `solver::first_hit` meets its contract. Assumes nothing.
use mathlib.Core.Path.{◌∙◌, refl}
use Rattle.nodes.specs.Edges.{edge_word}
use Rattle.solver.proofs.Solving.{free-few, solved-is}
use borrow.Author.Rules.{rules}
use Rattle.solver.proofs.first_hit.Statement.{statement}
use Rattle.solver.proofs.first_hit.Tie as tie
use Rattle.solver.proofs.first_hit.Reads as reads
use Rattle.solver.proofs.first_hit.Lts as lts
use Rattle.conflicts.proofs.run.Reads as run-reads
use Rattle.netlist.proofs.build.Reads as build-reads
use Rattle.solver.proofs.put_bits.Reads as put-bits-reads

put-bits-requires : tie.Need-put_bits-requires
put-bits-requires c κs =
    let a = c.args in
    free-few a.work.now c.build-net.new.work c.run-said.new.work a.g (edge_word a.root) a.effort c.requires c.build-net.result c.run-said.result c.build-net.ensures c.run-said.ensures

returns : tie.Need-returns
returns c =
    let a = c.args in
    solved-is a.work.now c.build-net.new.work c.run-said.new.work a.g (edge_word a.root) a.effort c.requires c.build-net.result c.run-said.result c.build-net.ensures c.run-said.ensures _ c.run-said.result refl (c.run-said.auto.work ∙ c.build-net.auto.work) c.put_bits.ensures

pub first_hit_spec : {M : Type 1} → statement M
first_hit_spec = tie.close (tie.spec (λ c κs. search rules) (λ c κs. search rules) put-bits-requires (λ c. search rules) returns)
