-- `enumeration::scan_span`: no place of an earlier block hits. Assumes nothing.
use Rattle.std.proofs.Common.{◌≡◌, ◌+◌, ◌*◌, arith}
use Rattle.aiger.specs.Search.{onward, reaches}
use Rattle.layout.specs.Words.{circuit_in}
use Rattle.frames.proofs.Facts.{ready_with}
use Rattle.enumeration.proofs.Least.{block-before, block_here}
use Rattle.enumeration.proofs.Onward.{onward-each, none_before}
use Rattle.enumeration.proofs.scan_span.Goals as goal

pub loop-block-init : goal.loop-block-init
loop-block-init c =
    let A = c.args in
    λ y l e. none_before (reaches (circuit_in A.m.now) A.q.b A.q.t) A.span.from y (omega arith) e

pub block_hits-all-requires : goal.block_hits-all-requires
block_hits-all-requires c =
    record {
      ready = ready_with c.requires.ready (omega (arith, c.requires.ready.room));
      b_bound = (c.requires.b_bound.0, omega (arith, c.requires.b_bound));
      n_value = c.requires.n_value;
    }

pub returns-then-p-lt64 : goal.returns-then-p-lt64
returns-then-p-lt64 c =
    let A = c.args in
    let p = reaches (circuit_in A.m.now) A.q.b A.q.t in
    let b = c.loop-block.block in
    let w = c.onward_word-hits.result in
    let r = c.first_difference.result in
    let each = onward-each p b c.block_hits-all.result A.span.from w c.block_hits-all.ensures c.onward_word-hits.ensures in
    record {
      within = omega arith;
      before = λ y l. block-before (onward A.span.from p) b w r c.loop-block.invariant each c.first_difference.ensures y (omega arith);
      here = λ l.
          let e : c.min.result ≡ 64 * b + r = omega arith in
          rw e (block_here (onward A.span.from p) b w r c.loop-block.invariant each c.first_difference.ensures (omega arith));
    }

pub loop-block-preserved : goal.loop-block-preserved
loop-block-preserved c =
    let A = c.args in
    let p = reaches (circuit_in A.m.now) A.q.b A.q.t in
    let b = c.loop-block.block in
    let w = c.onward_word-hits.result in
    let each = onward-each p b c.block_hits-all.result A.span.from w c.block_hits-all.ensures c.onward_word-hits.ensures in
    λ y l. block-before (onward A.span.from p) b w c.first_difference.result c.loop-block.invariant each c.first_difference.ensures y (omega arith)

pub returns : goal.returns
returns c =
    record {
      within = omega arith;
      before = λ y l. c.loop-block.invariant y (omega arith);
      here = λ l. absurd (omega arith);
    }
