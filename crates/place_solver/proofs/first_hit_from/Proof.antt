-- `place_solver::first_hit_from` meets its contract. Assumes nothing.
use mathlib.Core.Path.{◌∙◌, refl}
use Rattle.nodes.specs.Edges.{edge_word}
use Rattle.place_solver.proofs.Solving.{free-few, solved-from}
use borrow.Author.Rules.{rules}
use Rattle.place_solver.proofs.first_hit_from.Statement.{statement}
use Rattle.place_solver.proofs.first_hit_from.Tie as tie

build-requires : tie.Need-build-net-requires
build-requires c κs = c.requires.0

start-bits-requires : tie.Need-start_bits-requires
start-bits-requires c κs =
    let a = c.args in
    free-few a.work.now c.build-net.new.work a.g (edge_word a.root) c.requires.0 c.build-net.result c.build-net.ensures

put-bits-requires : tie.Need-put_bits-requires
put-bits-requires c κs =
    let a = c.args in
    free-few a.work.now c.build-net.new.work a.g (edge_word a.root) c.requires.0 c.build-net.result c.build-net.ensures

returns : tie.Need-returns
returns c =
    let a = c.args in
    solved-from a.work.now c.build-net.new.work c.start_bits.new.work c.run-said.new.work a.g (edge_word a.root) a.place a.effort c.requires.0 c.requires.1 c.build-net.result c.run-said.result c.build-net.ensures c.start_bits.ensures c.run-said.ensures _ c.run-said.result refl (c.run-said.auto.work ∙ c.start_bits.auto.work ∙ c.build-net.auto.work) c.put_bits.ensures

pub first_hit_from_spec : {M : Type 1} → statement M
first_hit_from_spec =
    tie.close
    (tie.spec build-requires start-bits-requires (λ c κs. search rules) put-bits-requires (λ c. search rules) returns)
