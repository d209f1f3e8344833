-- `output::put_ended` meets its contract: the digits, and the byte after them. Assumes nothing.
use mathlib.Core.List.{[], ◌∷◌}
use Prim.Native.Nat.{◌<◌}
use native.Mathlib.Omega.{arith}
use lib.ListN.{length}
use Rattle.aiger.specs.Text.{digits}
use Rattle.output.specs.Row.{ending}
use Rattle.output.proofs.Output.{room-first, room-second, placed-two, placed-byte}
use borrow.Author.Rules.{rules}
use Rattle.output.proofs.put_ended.Statement.{statement}
use Rattle.output.proofs.put_ended.Tie as tie

-- there is room for the byte
below : (w : tie.After-put_number-end) → w.put_number-end.result < length w.put_number-end.new.out
below w =
    omega (
      arith,
      room-second w.args.out.now w.args.at (digits w.args.n) (ending w.args.left ∷ []) w.requires w.put_number-end.ensures,
    )

put-number-requires : tie.Need-put_number-end-requires
put-number-requires c κs =
    room-first c.args.out.now c.args.at (digits c.args.n) (ending c.args.left ∷ []) c.requires

slice-write-out : tie.Need-bounds-out-end
slice-write-out c = below c.before.before.before

add-result : tie.Need-overflow_add-result
add-result c = omega (arith, below c.before.before.before)

returns : tie.Need-returns
returns c =
    rw c.ending_byte.ensures
    (placed-two c.args.out.now c.args.at (digits c.args.n) (ending c.args.left ∷ []) c.requires c.put_number-end.ensures
    (placed-byte c.put_number-end.new.out c.put_number-end.result (ending c.args.left) (below c.before.before.before)))

pub put_ended_spec : {M : Type 1} → statement M
put_ended_spec =
    tie.close
    (tie.spec put-number-requires (λ c κs. search rules) slice-write-out add-result (λ c. search rules) returns)
