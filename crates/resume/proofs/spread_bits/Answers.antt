-- `resume::spread_bits`: the bits from u on are done. Assumes nothing.
use Rattle.std.proofs.Common.{◌≡◌, ◌+◌, ◌-◌, arith}
use Rattle.resume.proofs.Turns.{spreading-start, spreading-more}
use Rattle.resume.proofs.spread_bits.Goals as goal

pub loop-u-init : goal.loop-u-init
loop-u-init c = spreading-start c.args.work.now c.args.y c.args.g.free c.args.bits.now

pub next_rank-r-requires : goal.next_rank-r-requires
next_rank-r-requires c = omega (arith, c.loop-u.invariant.few, c.loop-u.invariant.within, c.requires.sized)

pub loop-u-preserved : goal.loop-u-preserved
loop-u-preserved c =
    let k : c.loop-u.u - 1 + 1 ≡ c.loop-u.u = omega arith in
    spreading-more c.args.work.now c.args.y c.args.g.free
    c.args.bits.now c.loop-u.bits c.loop-u.r c.loop-u.u c.marked_bit.result c.next_rank-r.result c.loop-u.invariant (omega arith)
    (omega arith) (rw k at c.marked_bit.ensures) (rw k at c.next_rank-r.ensures)

pub returns : goal.returns
returns c = let p = c.loop-u.invariant in record { new = λ j h. p.done j (omega arith) h; others = p.others }
