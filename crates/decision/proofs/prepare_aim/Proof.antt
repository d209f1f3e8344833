-- `decision::prepare_aim` meets its contract. Assumes nothing.
use mathlib.Core.Path.{◌∙◌}
use native.Mathlib.Omega.{arith}
use Rattle.limits.proofs.Sizes.{limited, counts_of, size_is}
use Rattle.decision.proofs.Graphs.{markable, prepared}
use borrow.Author.Rules.{rules}
use Rattle.decision.proofs.prepare_aim.Statement.{statement}
use Rattle.decision.proofs.prepare_aim.Tie as tie
use Rattle.decision.proofs.prepare_aim.Reads as reads
use Rattle.decision.proofs.prepare_aim.Lts as lts
use Rattle.cone.proofs.mark.Reads as mark-reads
use Rattle.unroll.proofs.unroll_aim.Reads as unroll-aim-reads

size-requires : tie.Need-size-room-requires
size-requires c κs =
    (limited c.requires.ready.held c.requires.ready.layout_of, c.requires.last)

unroll-aim-requires : tie.Need-unroll_aim-made-requires
unroll-aim-requires c κs =
    let r = c.requires.ready in
    let z = c.size-room.ensures ∙ size_is (counts_of r.held r.layout_of) c.args.aim.t in
    record {
      ready = r;
      bad = c.requires.bad;
      last = c.requires.last;
      room-is = z;
      most = omega (arith, z, c.requires.units);
      held = omega (arith, z, c.requires.held);
    }

mark-requires : tie.Need-mark-requires
mark-requires c κs = markable c.unroll_aim-made.ensures

returns : tie.Need-returns
returns c =
    let r = c.requires.ready in
    let z = c.size-room.ensures ∙ size_is (counts_of r.held r.layout_of) c.args.aim.t in
    prepared c.unroll_aim-made.ensures c.mark.new.work c.mark.ensures c.mark.auto.work z

pub prepare_aim_spec : {M : Type 1} → statement M
prepare_aim_spec =
    tie.close (tie.spec size-requires unroll-aim-requires mark-requires (λ c. search rules) returns)
