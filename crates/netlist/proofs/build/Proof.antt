-- `netlist::build` meets its contract. Assumes nothing.
use mathlib.Core.Path.{◌∙◌}
use native.Mathlib.Omega.{arith}
use Rattle.nodes.specs.Edges.{edge_word}
use Rattle.netlist.proofs.Building.{kept-few, netlist-is}
use borrow.Author.Rules.{rules}
use Rattle.netlist.proofs.build.Statement.{statement}
use Rattle.netlist.proofs.build.Tie as tie
use Rattle.netlist.proofs.build.Reads as reads
use Rattle.netlist.proofs.build.Lts as lts
use Rattle.cone.proofs.assign.Reads as assign_reads
use Rattle.nodes.proofs.Edge.word.Reads as word-reads
use Rattle.records.proofs.arrange.Reads as arrange-reads
use Rattle.records.proofs.renumber.Reads as renumber-reads
use Rattle.records.proofs.set_leaves.Reads as set-leaves-reads

cast-kept : tie.Need-overflow_cast-kept
cast-kept c = omega (arith, kept-few c.args.work.now c.set_leaves.new.work c.assign-kept.new.work c.args.g (edge_word c.args.root) c.assign-kept.result c.requires c.set_leaves.ensures c.assign-kept.auto.work c.assign-kept.ensures, c.requires.sized.nodes, c.requires.sized.room)

add-arrange : tie.Need-overflow_add-first-2
add-arrange c = omega (arith, kept-few c.args.work.now c.set_leaves.new.work c.assign-kept.new.work c.args.g (edge_word c.args.root) c.assign-kept.result c.requires c.set_leaves.ensures c.assign-kept.auto.work c.assign-kept.ensures, c.requires.sized.nodes, c.requires.sized.room)

arrange-requires : tie.Need-arrange-requires
arrange-requires c κs = omega (arith, kept-few c.args.work.now c.set_leaves.new.work c.assign-kept.new.work c.args.g (edge_word c.args.root) c.assign-kept.result c.requires c.set_leaves.ensures c.assign-kept.auto.work c.assign-kept.ensures, c.requires.sized.nodes, c.requires.sized.room, c.requires.exact, c.assign-kept.auto.work, c.set_leaves.auto.work)

add-t18 : tie.Need-overflow_add-result
add-t18 c = omega (arith, kept-few c.args.work.now c.set_leaves.new.work c.assign-kept.new.work c.args.g (edge_word c.args.root) c.assign-kept.result c.requires c.set_leaves.ensures c.assign-kept.auto.work c.assign-kept.ensures, c.requires.sized.nodes, c.requires.sized.room)

returns : tie.Need-returns
returns c =
    let a = c.args in
    netlist-is a.work.now c.set_leaves.new.work c.assign-kept.new.work a.g (edge_word a.root) c.assign-kept.result c.requires c.set_leaves.ensures c.assign-kept.auto.work c.assign-kept.ensures c.arrange.new.work c.word.result c.renumber-top.result _ c.word.ensures c.renumber-top.ensures c.arrange.ensures (c.arrange.auto.work ∙ c.assign-kept.auto.work ∙ c.set_leaves.auto.work)

pub build_spec : {M : Type 1} → statement M
build_spec =
    tie.close
    (tie.spec (λ c. search rules) (λ c. search rules) (λ c κs. search rules) (λ c κs. search rules) cast-kept (λ c κs. search rules) (λ c. search rules) (λ c κs. search rules) (λ c. search rules) add-arrange arrange-requires add-t18 (λ c. search rules) (λ c. search rules) returns)
