-- `enumeration::put_free`: the free bits below j are written. Assumes nothing.
use Rattle.std.proofs.Common.{◌≡◌, arith}
use Rattle.aiger.specs.Bits.{nonzero}
use Rattle.aiger.specs.Frames.{free_bit}
use Rattle.frames.proofs.Stores.{next_more}
use Rattle.places.proofs.Digits.{digit-is}
use Rattle.enumeration.proofs.put_free.Goals as goal

pub loop-j-preserved : goal.loop-j-preserved
loop-j-preserved c =
    next_more (λ i w. nonzero w ≡ free_bit c.args.n c.args.x i) c.loop-j.free c.loop-j.j c.bit_of.result (omega arith)
    c.loop-j.invariant (digit-is c.bit_of.result _ c.bit_of.ensures)
