use Rattle.std.proofs.Common.{arith}
use Rattle.diagrams.specs.States.{state_of}
use Rattle.collection.specs.Collecting.{renamed_in}
use Rattle.collection.proofs.Turns.{mapped-none, mapped-more, mapped-all}
use Rattle.collection.proofs.rename.Goals as goal

pub loop-at-init : goal.loop-at-init
loop-at-init c = mapped-none (renamed_in (state_of c.args.w.now).nodes) c.args.roots.now

pub loop-at-preserved : goal.loop-at-preserved
loop-at-preserved c =
    mapped-more (renamed_in (state_of c.args.w.now).nodes) c.args.roots.now c.loop-at.roots c.loop-at.at c.renamed.result
    (omega arith) c.renamed.ensures c.loop-at.invariant

pub returns : goal.returns
returns c =
    mapped-all (renamed_in (state_of c.args.w.now).nodes) c.args.roots.now c.loop-at.roots c.loop-at.at (omega arith)
    c.loop-at.invariant
