-- `places::passes_all`: no power past the 63rd is reached. Assumes nothing.
use Rattle.std.proofs.Common.{◌^◌, ℕ, sym, ap, arith}
use borrow.Author.Tests.{lt-leb}
use lib.Dec.{leb}
use lib.Pow.{pow_mono}
use Rattle.places.proofs.passes_all.Goals as goal

pub returns-then-n-gt63 : goal.returns-then-n-gt63
returns-then-n-gt63 c = sym (lt-leb (2 ^ c.args.n) c.args.x (omega (arith, pow_mono c.if-n-gt63.true)))

pub returns : goal.returns
returns c = ap (λ (x : ℕ). leb x c.args.x) (omega (arith, pow_mono c.if-n-gt63.false))
