-- `places::end_of`: no power past the 63rd is below x. Assumes nothing.
use Rattle.std.proofs.Common.{arith}
use lib.Pow.{pow_mono}
use Rattle.places.proofs.end_of.Goals as goal

pub returns-then-n-gt63 : goal.returns-then-n-gt63
returns-then-n-gt63 c = omega (arith, pow_mono c.if-n-gt63.true)

pub returns : goal.returns
returns c = omega (arith, pow_mono c.if-n-gt63.false)
