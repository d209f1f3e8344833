-- Each turn maps a frame. Assumes nothing.
use mathlib.Core.Path.{◌≡◌, sym, ap₂, ◌∙◌, subst}
use Prim.Native.Nat.{ℕ, ◌+◌, ◌*◌, ◌≤◌}
use native.Mathlib.Omega.{arith}
use Rattle.layout.specs.Words.{circuit_in}
use Rattle.frames.proofs.Places.{inputs_are}
use Rattle.unroll.specs.Map.{FramedTo, BarredTo}
use Rattle.unroll.proofs.Facts.{ready_with, row_within}
use Rattle.unroll.proofs.Frames.{moved-edges, next-mapped, framed-barred, framed-next, bar-room, frame-room}
use Rattle.unroll.proofs.put_frames.Goals as goal

pub loop-u-init : goal.loop-u-init
loop-u-init c = c.requires.frames_fit.framed

pub bar_edge-kept-requires : goal.bar_edge-kept-requires
bar_edge-kept-requires c =
    let less : c.loop-u.u + 1 ≤ c.args.aim.t = omega arith in
    record {
      prepared = (c.args.order.now, ready_with c.requires.ready c.loop-u.auto.map);
      extensible = bar-room c.requires.ready c.requires.frames_fit less c.loop-u.invariant;
      edge_lt_nodes = (c.loop-u.invariant.node, c.requires.frames_fit.bad);
    }

pub overflow_mul-inputs : goal.overflow_mul-inputs
overflow_mul-inputs c =
    let F = c.requires.frames_fit in
    let z = F.framed.stored.sized in
    omega (arith, row_within c.args.layout.i c.loop-u.u c.args.aim.t (omega arith), F.bits, z.leaves, z.nodes, z.room)

pub overflow_add-starts : goal.overflow_add-starts
overflow_add-starts c =
    let F = c.requires.frames_fit in
    let z = F.framed.stored.sized in
    omega (arith, row_within c.args.layout.i c.loop-u.u c.args.aim.t (omega arith), F.bits, z.leaves, z.nodes, z.room)

pub put_leaves-requires : goal.put_leaves-requires
put_leaves-requires c =
    let F = c.requires.frames_fit in
    let z = F.framed.stored.sized in
    let w = row_within c.args.layout.i c.loop-u.u c.args.aim.t (omega arith) in
    record {
      prepared = (c.args.order.now, ready_with c.requires.ready c.loop-u.auto.map);
      i_bound = (omega (arith, w, F.bits, z.leaves, z.nodes, z.room), omega arith);
    }

pub put_frame-made-requires : goal.put_frame-made-requires
put_frame-made-requires c =
    let F = c.requires.frames_fit in
    let A = c.args.aim in
    let C = circuit_in c.args.m.now in
    let room = c.args.first.graph.room in
    let v = c.put_leaves.ensures in
    let less : c.loop-u.u + 1 ≤ A.t = omega arith in
    let f = c.loop-u.invariant in
    let k = framed-barred c.requires.ready A.alone A.b A.t c.loop-u.u room
    (subst (λ (n : ℕ). FramedTo A.alone C A.b A.t c.loop-u.u n room c.loop-u.work c.loop-u.made c.loop-u.map) (sym f.free) f) c.bar_edge-kept.ensures in
    let x = frame-room c.requires.ready F less
    (subst (λ (n : ℕ). BarredTo A.alone C A.b A.t c.loop-u.u n room c.bar_edge-kept.new.work c.bar_edge-kept.result c.loop-u.map) f.free k) in
    record {
      ready = ready_with c.requires.ready (c.put_leaves.auto.map ∙ c.loop-u.auto.map);
      extensible = record {
        stored = x.stored;
        room = x.room;
        edges =
            moved-edges c.requires.ready v.state v.next v.latches _ v.inputs c.bar_edge-kept.result.graph
            x.stored.sized.leaves
            (omega (arith, row_within c.args.layout.i c.loop-u.u A.t less, F.bits, f.free, k.free)) x.edges;
      };
      edge_lt_nodes = k.node;
    }

pub loop-u-preserved : goal.loop-u-preserved
loop-u-preserved c =
    let A = c.args.aim in
    let r = c.requires.ready in
    let room = c.args.first.graph.room in
    let C = circuit_in c.args.m.now in
    let f = c.loop-u.invariant in
    let v = c.put_leaves.ensures in
    let less : c.loop-u.u + 1 ≤ A.t = omega arith in
    let k = framed-barred r A.alone A.b A.t c.loop-u.u room
    (subst (λ (n : ℕ). FramedTo A.alone C A.b A.t c.loop-u.u n room c.loop-u.work c.loop-u.made c.loop-u.map) (sym f.free) f) c.bar_edge-kept.ensures in
    subst (λ (n : ℕ). FramedTo A.alone C A.b A.t (c.loop-u.u + 1) n room c.put_frame-made.new.work c.put_frame-made.result c.put_frame-made.new.map) (k.free ∙ f.free)
    (framed-next r _ (next-mapped r v.state v.next v.latches _ v.inputs c.put_frame-made.ensures.gates)
    c.put_frame-made.ensures.constraints A.alone A.b A.t c.loop-u.u room (omega arith)
    (ap₂ (λ (s i : ℕ). s + i * (c.loop-u.u + 1)) r.layout_of.u-is (inputs_are r.held r.layout_of))
    (subst (λ (n : ℕ). BarredTo A.alone C A.b A.t c.loop-u.u n room c.bar_edge-kept.new.work c.bar_edge-kept.result c.loop-u.map) (sym k.free) k))

pub returns : goal.returns
returns c =
    let A = c.args.aim in
    let C = circuit_in c.args.m.now in
    let g = c.args.first.graph in
    let e : c.loop-u.u ≡ A.t = omega arith in
    subst (λ (u : ℕ). FramedTo A.alone C A.b A.t u g.free g.room c.loop-u.work c.loop-u.made c.loop-u.map) e c.loop-u.invariant
