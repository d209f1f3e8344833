use mathlib.Core.Path.{◌∙◌}
use native.Mathlib.Omega.{arith}
use Rattle.nodes.specs.Store.{pairs_of}
use Rattle.simulation.proofs.Nets.{kept_trans, net-kept}
use Rattle.simulation.proofs.Places.{slotted, started}
use borrow.Author.Rules.{rules}
use Rattle.simulation.proofs.start_hits.Statement.{statement}
use Rattle.simulation.proofs.start_hits.Tie as tie
use Rattle.simulation.proofs.start_hits.Reads as reads
use Rattle.simulation.proofs.start_hits.Lts as lts
use Rattle.simulation.proofs.clear_leaves.Reads as clear-leaves-reads
use Rattle.simulation.proofs.eval_gates.Reads as eval-gates-reads
use Rattle.simulation.proofs.hit_word.Reads as hit-word-reads
use Rattle.simulation.proofs.put_slots.Reads as put-slots-reads

put-slots-requires : tie.Need-put_slots-requires
put-slots-requires c κs =
    let so = c.requires.1.0 in
    (slotted (net-kept c.requires.0 c.clear_leaves.new.work c.clear_leaves.ensures.kept c.clear_leaves.auto.work) so c.args.count (omega arith), omega arith)

eval-gates-requires : tie.Need-eval_gates-requires
eval-gates-requires c κs =
    let w = c.args.work.now in
    ((pairs_of w c.args.g, c.args.root, net-kept c.requires.0 c.put_slots.new.work (kept_trans w c.clear_leaves.new.work c.put_slots.new.work c.clear_leaves.ensures.kept c.put_slots.ensures.kept) (c.put_slots.auto.work ∙ c.clear_leaves.auto.work)), omega arith)

returns : tie.Need-returns
returns c =
    started c.clear_leaves.new.work c.put_slots.new.work c.eval_gates.new.work c.args.block c.hit_word.result c.requires.0 c.requires.1.0 c.requires.1.1 c.clear_leaves.auto.work c.put_slots.auto.work c.eval_gates.auto.work c.clear_leaves.ensures c.put_slots.ensures c.eval_gates.ensures c.hit_word.ensures

pub start_hits_spec : {M : Type 1} → statement M
start_hits_spec =
    tie.close
    (tie.spec (λ c κs. search rules) put-slots-requires (λ c. search rules) eval-gates-requires (λ c κs. search rules) (λ c. search rules) returns)
