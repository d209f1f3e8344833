-- `enumeration::first_below`: the places below total are those from 0 on. Assumes nothing.
use Rattle.std.proofs.Common.{arith}
use Rattle.enumeration.proofs.Least.{from_zero}
use Rattle.enumeration.proofs.first_below.Goals as goal

pub first_in-requires : goal.first_in-requires
first_in-requires c =
    record { ready = c.requires.ready; b_bound = (c.requires.b_bound.0, omega arith, omega arith); n_value = c.requires.n_value }

pub returns : goal.returns
returns c = from_zero c.first_in.ensures
