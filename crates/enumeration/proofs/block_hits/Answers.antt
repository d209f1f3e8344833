-- `enumeration::block_hits`: the words are the values of the frames so far, and `left` tells the runs that they allow. Assumes nothing.
use Rattle.std.proofs.Common.{◌≡◌, subst, ℕ, ◌+◌, ◌-◌, length, arith}
use Rattle.layout.specs.Words.{circuit_in}
use Rattle.frames.proofs.Facts.{right, known, no-cycle, ready_with}
use Rattle.frames.proofs.Places.{inputs_are}
use Rattle.frames.proofs.Starts.{latches-room}
use Rattle.enumeration.specs.Blocks.{StartsGiven}
use Rattle.enumeration.proofs.Blocks.{Valued, Left, Remaining, row_first, row_room, row_next, valued-start, valued-next, left-start, left-next, valued-hits, none_left}
use Rattle.enumeration.proofs.block_hits.Goals as goal

pub overflow_sub-top : goal.overflow_sub-top
overflow_sub-top c = omega (arith, c.requires.n_value, latches-room (circuit_in c.args.m.now) c.args.q.t)

pub first_frame-left-requires : goal.first_frame-left-requires
first_frame-left-requires c =
    let R = c.requires.ready in
    let k = circuit_in c.args.m.now in
    record {
      ready = R;
      m_bound = (omega (arith, c.requires.n_value, latches-room k c.args.q.t), omega (arith, inputs_are R.held R.layout_of, row_room k c.args.q.t 0 (c.args.q.n - c.args.q.free) (omega arith) (row_first k c.args.q.t c.args.q.n c.args.q.free c.requires.n_value.0 c.requires.n_value.1)));
    }

pub loop-init : goal.loop-init
loop-init c =
    let f = c.first_frame-left.ensures in
    let R = c.requires.ready in
    let k = circuit_in c.args.m.now in
    let first = row_first k c.args.q.t c.args.q.n c.args.q.free c.requires.n_value.0 c.requires.n_value.1 in
    let v =
    valued-start k (right R.held) c.args.q.t c.args.block (c.args.q.n - c.args.q.free) f.cleared f.started f.filled c.first_frame-left.new.values f.constant
    (subst (λ (n : ℕ). StartsGiven k n c.args.block f.cleared f.started) c.requires.n_value.0 f.starts) first f.inputs f.evaluated in
    record {
      room = omega (arith, c.first_frame-left.auto.values, R.room);
      remain = first;
      valued = v;
      allowed = left-start k (right R.held) (known R.held) (no-cycle R.held) c.args.q.t c.args.block c.first_frame-left.result c.first_frame-left.new.values v f.constrained;
    }

pub returns-then-left-eq0 : goal.returns-then-left-eq0
returns-then-left-eq0 c =
    let a = c.args in
    none_left (circuit_in a.m.now) a.q.t a.block c.loop.counter a.q.b (omega arith)
    (subst (λ (w : ℕ). Left (circuit_in a.m.now) a.q.t a.block c.loop.counter w) c.if-left-eq0.true c.loop.invariant.allowed)

pub overflow_sub-top-in-loop : goal.overflow_sub-top-in-loop
overflow_sub-top-in-loop c =
    let R = c.requires.ready in
    omega (arith, inputs_are R.held R.layout_of, row_room (circuit_in c.args.m.now) c.args.q.t c.loop.counter c.loop.top (omega arith) c.loop.invariant.remain)

pub next_frame-left-requires : goal.next_frame-left-requires
next_frame-left-requires c =
    let R = c.requires.ready in
    let k = circuit_in c.args.m.now in
    let e = row_next k c.args.q.t c.loop.counter c.loop.top (omega arith) c.loop.invariant.remain in
    record {
      ready = ready_with R c.loop.invariant.room;
      i_le_top = (omega (arith, inputs_are R.held R.layout_of, row_room k c.args.q.t (c.loop.counter + 1) (c.loop.top - length k.inputs) (omega arith) e), omega (arith, c.requires.b_bound));
    }

pub loop-preserved : goal.loop-preserved
loop-preserved c =
    let f = c.next_frame-left.ensures in
    let R = c.requires.ready in
    let k = circuit_in c.args.m.now in
    let i = inputs_are R.held R.layout_of in
    let e : Remaining k c.args.q.t (c.loop.counter + 1) (c.loop.top - c.args.layout.i) = omega (arith, row_next k c.args.q.t c.loop.counter c.loop.top (omega arith) c.loop.invariant.remain) in
    let v =
    valued-next k (right R.held) (known R.held) (no-cycle R.held) c.args.q.t c.args.block c.loop.counter (c.loop.top - c.args.layout.i) c.loop.values f.moved
    f.filled c.next_frame-left.new.values c.loop.invariant.valued f.advanced (omega arith) e f.inputs f.evaluated in
    record {
      room = omega (arith, c.next_frame-left.auto.values, c.loop.invariant.room);
      remain = e;
      valued = v;
      allowed = left-next k (right R.held) (known R.held) (no-cycle R.held) c.args.q.t c.args.block c.loop.counter c.loop.left c.next_frame-left.result c.next_frame-left.new.values v c.loop.invariant.allowed
          f.constrained;
    }

pub bad_word-requires : goal.bad_word-requires
bad_word-requires c = record { ready = ready_with c.requires.ready c.loop.invariant.room; b_bound = c.requires.b_bound.0 }

pub returns : goal.returns
returns c =
    let R = c.requires.ready in
    let a = c.args in
    let k = circuit_in a.m.now in
    let e : c.loop.counter ≡ a.q.t = omega arith in
    valued-hits k (right R.held) (known R.held) (no-cycle R.held) a.q.t a.block a.q.b c.loop.left c.loop.values c.bad_word.result
    (subst (λ (n : ℕ). Valued k a.q.t a.block n c.loop.values) e c.loop.invariant.valued) (subst (λ (n : ℕ). Left k a.q.t a.block n c.loop.left) e c.loop.invariant.allowed)
    c.bad_word.ensures
