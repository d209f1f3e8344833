-- `unroll::put_frame` meets its contract. Assumes nothing.
use mathlib.Core.Path.{◌∙◌}
use native.Mathlib.Omega.{arith}
use Rattle.frames.proofs.Facts.{gates-are}
use Rattle.unroll.proofs.Facts.{ready_with}
use Rattle.unroll.proofs.put_frame.Statement.{statement}
use Rattle.unroll.proofs.put_frame.Tie as tie

put-gates-requires : tie.Need-put_gates-graph-requires
put-gates-requires c κs =
    let x = c.requires.1.0 in
    (c.requires.0, record { stored = x.stored; room = omega (arith, x.room); edges = x.edges })

constrain-requires : tie.Need-constrain-requires
constrain-requires c κs =
    let u = c.put_gates-graph.ensures in
    let x = c.requires.1.0 in (
      (c.args.order.now, ready_with c.requires.0 c.put_gates-graph.auto.map),
      (
        record {
          stored = u.grown.stored;
          room = omega (arith, u.grown.most, u.grown.room, x.room, gates-are c.requires.0);
          edges = u.edges;
        },
        omega (arith, c.requires.1.1, u.grown.least),
      ),
    )

same_length : tie.Need-shape_of-work
same_length c =
    c.constrain.auto.work ∙ c.put_gates-graph.auto.work

same-length-2 : tie.Need-shape_of-map
same-length-2 c = c.put_gates-graph.auto.map

returns : tie.Need-returns
returns c =
    record { mid = c.put_gates-graph.new.work; graph = c.put_gates-graph.result; gates = c.put_gates-graph.ensures; constraints = c.constrain.ensures }

pub put_frame_spec : {M : Type 1} → statement M
put_frame_spec = tie.close (tie.spec put-gates-requires constrain-requires same_length same-length-2 returns)
