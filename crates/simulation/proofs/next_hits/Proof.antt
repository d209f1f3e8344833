use Prim.Native.Nat.{◌+◌}
use native.Mathlib.Omega.{arith}
use Rattle.nodes.specs.Store.{pairs_of}
use Rattle.simulation.proofs.Nets.{net-kept}
use Rattle.simulation.proofs.Places.{slotted, carry-few, advanced}
use borrow.Author.Rules.{rules}
use Rattle.simulation.proofs.next_hits.Statement.{statement}
use Rattle.simulation.proofs.next_hits.Tie as tie
use Rattle.simulation.proofs.next_hits.Reads as reads
use Rattle.simulation.proofs.next_hits.Lts as lts
use Rattle.simulation.proofs.carry.Reads as carry-reads
use Rattle.simulation.proofs.eval_gates.Reads as eval-gates-reads
use Rattle.simulation.proofs.hit_word.Reads as hit-word-reads
use Rattle.simulation.proofs.put_slots.Reads as put-slots-reads

add-top : tie.Need-overflow_add-top
add-top c =
    omega (arith, carry-few c.args.block c.carry-top.result c.requires.0.0 c.carry-top.ensures c.requires.0.2, c.requires.0.1.slots-of.count-is)

mul-first : tie.Need-offset_bounds-firsts-top
mul-first c =
    omega (arith, carry-few c.args.block c.carry-top.result c.requires.0.0 c.carry-top.ensures c.requires.0.2, c.requires.0.1.slots-of.count-is)

shared-slice-read-first : tie.Need-bounds-firsts-top
shared-slice-read-first c =
    omega (arith, carry-few c.args.block c.carry-top.result c.requires.0.0 c.carry-top.ensures c.requires.0.2, c.requires.0.1.slots-of.count-is, c.requires.0.1.held)

cast-first : tie.Need-overflow_cast-first
cast-first c =
    let f = carry-few c.args.block c.carry-top.result c.requires.0.0 c.carry-top.ensures c.requires.0.2 in
    omega (arith, (c.requires.0.1.firsts-of (6 + c.carry-top.result) f).most, c.requires.0.1.net.sized)

add-put-slots : tie.Need-overflow_add-top-2
add-put-slots c =
    omega (arith, carry-few c.args.block c.carry-top.result c.requires.0.0 c.carry-top.ensures c.requires.0.2, c.requires.0.1.slots-of.count-is)

put-slots-requires : tie.Need-put_slots-requires
put-slots-requires c κs =
    let f = carry-few c.args.block c.carry-top.result c.requires.0.0 c.carry-top.ensures c.requires.0.2 in
    (slotted c.requires.0.1.net c.requires.0.1.slots-of (6 + c.carry-top.result + 1) (omega arith), omega arith)

eval-gates-requires : tie.Need-eval_gates-requires
eval-gates-requires c κs =
    let f = carry-few c.args.block c.carry-top.result c.requires.0.0 c.carry-top.ensures c.requires.0.2 in
    ((pairs_of c.args.work.now c.args.g, c.args.root, net-kept c.requires.0.1.net c.put_slots.new.work c.put_slots.ensures.kept c.put_slots.auto.work), (c.requires.0.1.firsts-of (6 + c.carry-top.result) f).gates)

returns : tie.Need-returns
returns c =
    advanced c.put_slots.new.work c.eval_gates.new.work c.args.block c.carry-top.result c.hit_word.result c.requires.0.1 c.carry-top.ensures c.requires.0.2 c.put_slots.auto.work c.eval_gates.auto.work c.put_slots.ensures c.eval_gates.ensures c.hit_word.ensures

pub next_hits_spec : {M : Type 1} → statement M
next_hits_spec =
    tie.close
    (tie.spec (λ c κs. search rules) add-top mul-first shared-slice-read-first cast-first add-put-slots (λ c. search rules) put-slots-requires eval-gates-requires (λ c κs. search rules) (λ c. search rules) returns)
