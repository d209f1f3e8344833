-- `unroll::first_frame` meets its contract. Assumes nothing.
use mathlib.Core.Path.{◌∙◌}
use native.Mathlib.Omega.{arith}
use Rattle.frames.proofs.Facts.{gates-are}
use Rattle.unroll.proofs.Facts.{ready_with}
use Rattle.unroll.proofs.Frames.{first-edges, first-mapped, framed-first}
use Rattle.unroll.proofs.first_frame.Statement.{statement}
use Rattle.unroll.proofs.first_frame.Tie as tie

put-starts-requires : tie.Need-put_starts-requires
put-starts-requires c κs = (c.args.order.now, c.requires.0)

put-inputs-requires : tie.Need-put_inputs-requires
put-inputs-requires c κs =
    let z = c.requires.1.extensible.stored.sized in (
      (c.args.order.now, ready_with c.requires.0 c.put_starts.auto.map),
      omega (arith, c.requires.1.bits, z.leaves, z.nodes, z.room),
    )

put-gates-requires : tie.Need-put_gates-graph-requires
put-gates-requires c κs =
    let F = c.requires.1 in (
      ready_with c.requires.0 (c.put_inputs.auto.map ∙ c.put_starts.auto.map),
      record {
        stored = F.extensible.stored;
        room = omega (arith, F.extensible.room);
        edges =
            first-edges c.requires.0 F.blank c.put_starts.ensures c.args.layout.u c.put_inputs.ensures c.args.g
            F.extensible.stored.sized.leaves c.requires.0.layout_of.u-is F.bits;
      },
    )

constrain-requires : tie.Need-constrain-requires
constrain-requires c κs =
    let u = c.put_gates-graph.ensures in
    let k = c.put_gates-graph.auto.map ∙ c.put_inputs.auto.map ∙ c.put_starts.auto.map in (
      (c.args.order.now, ready_with c.requires.0 k),
      (
        record {
          stored = u.grown.stored;
          room = omega (arith, u.grown.most, u.grown.room, c.requires.1.extensible.room, gates-are c.requires.0);
          edges = u.edges;
        },
        omega (arith, u.grown.stored.sized.leaves),
      ),
    )

same_length : tie.Need-shape_of-work
same_length c =
    c.constrain.auto.work ∙ c.put_gates-graph.auto.work

same-length-2 : tie.Need-shape_of-map
same-length-2 c =
    c.put_gates-graph.auto.map ∙ c.put_inputs.auto.map ∙ c.put_starts.auto.map

returns : tie.Need-returns
returns c = λ none alone b t.
    framed-first c.requires.0 c.requires.1.extensible.stored none
    (first-mapped c.requires.0 c.requires.1.blank c.put_starts.ensures c.args.layout.u c.put_inputs.ensures
    c.requires.0.layout_of.u-is c.put_gates-graph.ensures)
    c.constrain.ensures alone b t

pub first_frame_spec : {M : Type 1} → statement M
first_frame_spec =
    tie.close
    (tie.spec put-starts-requires put-inputs-requires put-gates-requires constrain-requires same_length same-length-2 returns)
