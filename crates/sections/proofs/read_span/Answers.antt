-- `sections::read_span` meets its contract: each turn of its loop reads a section. Assumes nothing.
use Rattle.std.proofs.Common.{arith, ◌<◌, ◌∙◌}
use Rattle.sections.proofs.Parts.{section-end}
use Rattle.sections.proofs.Spans.{reached-none, reached-more, reached-stops, reached-all}
use Rattle.sections.proofs.read_span.Goals as goal

pub loop-k-init : goal.loop-k-init
loop-k-init c =
    let a = c.args in
    reached-none a.s.now a.at a.p a.first a.end a.limit a.words.now c.requires.at_in_bounds

pub read_section-requires-clause-k_in_bounds : goal.read_section-requires-clause-k_in_bounds
read_section-requires-clause-k_in_bounds c =
    let k : c.loop-k.k < 6 = omega (arith, c.loop-k-test.true, c.requires.first_le_end.1) in
    omega (arith, section-end c.args.p c.loop-k.k k c.requires.chained.0, c.requires.chained.1, c.loop-k.invariant.size)

pub loop-k-preserved : goal.loop-k-preserved
loop-k-preserved c =
    reached-more c.loop-k.invariant c.loop-k-test.true c.requires.first_le_end.1 c.in_ok-read.ensures c.read_section.auto.words

pub returns-in_err-read : goal.returns-in_err-read
returns-in_err-read c =
    rw c.from_residual.ensures
    (reached-stops c.loop-k.invariant c.loop-k-test.true c.requires.first_le_end.1 c.read_section.new.words c.in_err-read.ensures)

pub returns : goal.returns
returns c = reached-all c.loop-k.invariant (omega (arith, c.loop-k.auto.k-end, c.loop-k-test.false))
