-- `frames::advance` meets its contract. Assumes nothing.
use native.Mathlib.Omega.{arith}
use Rattle.frames.proofs.Facts.{latches-inside, latches-few, next-below, latches-apart}
use Rattle.frames.proofs.Latches.{advanced}
use borrow.Author.Rules.{rules}
use Rattle.frames.proofs.advance.Statement.{statement}
use Rattle.frames.proofs.advance.Tie as tie

next-state-requires : tie.Need-next_state-requires
next-state-requires c κs =
    ((latches-inside c.requires.0, omega (arith, latches-few c.requires.0, c.requires.1)), next-below c.requires.0)

put-state-requires : tie.Need-put_state-requires
put-state-requires c κs =
    ((latches-inside c.requires.0, omega (arith, latches-few c.requires.0, c.requires.1, c.next_state.auto.state)), latches-apart c.requires.0)

returns : tie.Need-returns
returns c =
    advanced c.requires.0 c.next_state.new.state c.args.values.now c.put_state.new.values c.next_state.ensures c.put_state.ensures c.put_state.auto.values

pub advance_spec : {M : Type 1} → statement M
advance_spec =
    tie.close (tie.spec next-state-requires put-state-requires (λ c. search rules) (λ c. search rules) returns)
