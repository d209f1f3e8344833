-- `search::tell_spent` meets its contract: what was reached, by `reached_number`. Assumes nothing.
use Prim.Native.Nat.{◌+◌, ◌*◌}
use native.Mathlib.Omega.{arith}
use Rattle.frames.proofs.Starts.{bits_are, bits-few}
use Rattle.search.proofs.Choice.{spent-told}
use borrow.Author.Rules.{rules}
use Rattle.search.proofs.tell_spent.Statement.{statement}
use Rattle.search.proofs.tell_spent.Tie as tie

mul-n : tie.Need-overflow_mul-n
mul-n c = omega (arith, bits-few c.args.layout.i c.args.t c.requires.0.inputs c.requires.1)

add-n-2 : tie.Need-overflow_add-n-2
add-n-2 c = omega (arith, bits-few c.args.layout.i c.args.t c.requires.0.inputs c.requires.1, c.requires.0.starts, c.requires.0.latches)

cast-t8 : tie.Need-overflow_cast-result
cast-t8 c = omega (arith, c.requires.1)

reached-number-requires : tie.Need-reached_number-requires
reached-number-requires c κs = (c.requires.2, c.requires.3)

returns : tie.Need-returns
returns c =
    λ C b e s.
    spent-told C b c.args.t c.args.d c.reached_number.result
    (c.reached_number.ensures C b c.args.t (bits_are C c.args.t e.starts e.inputs) s)

pub tell_spent_spec : {M : Type 1} → statement M
tell_spent_spec =
    tie.close
    (tie.spec (λ c. search rules) mul-n add-n-2 cast-t8 reached-number-requires returns)
