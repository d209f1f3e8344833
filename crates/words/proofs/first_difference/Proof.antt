-- `words::first_difference` meets its contract, by the law for every width. Clauses 5.8, 11.2. Assumes nothing.
use Rattle.words.proofs.Bits.{first-difference}
use Rattle.words.proofs.first_difference.Statement.{statement}
use Rattle.words.proofs.first_difference.Tie as tie

returns : tie.Need-returns
returns c = first-difference 64 c.args.a c.args.b c.ranges.a.fits c.ranges.b.fits

pub first_difference_spec : {M : Type 1} → statement M
first_difference_spec = tie.close (tie.spec returns)
