-- `unroll::unroll_aim` meets its contract. Assumes nothing.
use mathlib.Core.Path.{◌∙◌}
use native.Mathlib.Omega.{arith}
use Rattle.unroll.proofs.Facts.{ready_with}
use Rattle.unroll.proofs.Unrolling.{blank-zeros, room-enough, start-enough, first_fits, frames-fit, hit-fits, hit-node, unrolled}
use borrow.Author.Rules.{rules}
use Rattle.unroll.proofs.unroll_aim.Statement.{statement}
use Rattle.unroll.proofs.unroll_aim.Tie as tie

add_free : tie.Need-overflow_add-free
add_free c = omega (arith, c.requires.last)

mul-free : tie.Need-overflow_mul-free
mul-free c = omega (arith, room-enough c.requires, c.requires.most)

add-free-2 : tie.Need-overflow_add-free-2
add-free-2 c = omega (arith, room-enough c.requires, c.requires.most)

start-requires : tie.Need-start-empty-requires
start-requires c κs = start-enough c.requires

first-frame-requires : tie.Need-first_frame-first-requires
first-frame-requires c κs =
    (c.requires.ready, first_fits c.requires c.start-empty.ensures.0 c.start-empty.ensures.1 _ (blank-zeros 4097))

put-frames-requires : tie.Need-put_frames-frames-requires
put-frames-requires c κs =
    (ready_with c.requires.ready c.first_frame-first.auto.map, frames-fit c.requires c.start-empty.ensures.0 c.start-empty.ensures.1 c.first_frame-first.ensures c.args.aim.alone)

hit-edge-requires : tie.Need-hit_edge-requires
hit-edge-requires c κs =
    let alone = c.args.aim.alone in (
      (c.args.order.now, ready_with c.requires.ready (c.put_frames-frames.auto.map ∙ c.first_frame-first.auto.map)),
      (
        hit-fits c.requires c.start-empty.ensures.0 c.start-empty.ensures.1 c.first_frame-first.ensures alone c.put_frames-frames.ensures,
        (hit-node c.requires c.start-empty.ensures.0 c.start-empty.ensures.1 c.first_frame-first.ensures alone c.put_frames-frames.ensures, c.requires.bad),
      ),
    )

same_length : tie.Need-shape_of-work
same_length c = c.hit_edge.auto.work ∙ c.put_frames-frames.auto.work ∙ c.first_frame-first.auto.work ∙ c.start-empty.auto.work

returns : tie.Need-returns
returns c =
    unrolled c.requires c.start-empty.ensures.0 c.start-empty.ensures.1 c.first_frame-first.ensures c.args.aim.alone c.put_frames-frames.ensures
    c.hit_edge.new.work c.hit_edge.result c.hit_edge.ensures

pub unroll_aim_spec : {M : Type 1} → statement M
unroll_aim_spec =
    tie.close
    (tie.spec add_free mul-free add-free-2 start-requires (λ c. search rules) first-frame-requires (λ c. search rules) put-frames-requires (λ c. search rules) hit-edge-requires same_length returns)
