-- `output::put_place` meets its contract: the frame, the place and the line feed, one after the other. Assumes nothing.
use mathlib.Core.Path.{◌∙◌}
use mathlib.Core.List.{List, [], ◌∷◌, ◌++◌}
use Prim.Native.Nat.{◌<◌}
use native.Mathlib.Omega.{arith}
use lib.ListN.{length, length-set}
use Rattle.aiger.specs.Text.{long_digits}
use Rattle.output.specs.Output.{Room}
use Rattle.output.specs.Row.{number_text}
use Rattle.output.proofs.Output.{room-first, room-second, placed-two, placed-byte}
use borrow.Author.Rules.{rules}
use Rattle.output.proofs.put_place.Statement.{statement}
use Rattle.output.proofs.put_place.Tie as tie

-- there is room for the place and the line feed behind the frame, and for the line feed behind the place
behind : (w : tie.After-put_ended-start) → Room w.put_ended-start.new.out w.put_ended-start.result (long_digits w.args.place ++ 10 ∷ [])
behind w =
    room-second w.args.out.now w.args.at (number_text w.args.t 1) (long_digits w.args.place ++ 10 ∷ []) w.requires w.put_ended-start.ensures

below : (w : tie.After-put_long-end) → w.put_long-end.result < length w.put_long-end.new.out
below w =
    omega (
      arith,
      room-second w.put_ended-start.new.out w.put_ended-start.result (long_digits w.args.place) (10 ∷ []) (behind w.before.before.before.before)
          w.put_long-end.ensures,
    )

put-ended-requires : tie.Need-put_ended-start-requires
put-ended-requires c κs =
    room-first c.args.out.now c.args.at (number_text c.args.t 1) (long_digits c.args.place ++ 10 ∷ []) c.requires

put-long-requires : tie.Need-put_long-end-requires
put-long-requires c κs =
    room-first c.put_ended-start.new.out c.put_ended-start.result (long_digits c.args.place) (10 ∷ []) (behind c.before.before.before)

slice-write-out : tie.Need-bounds-out-end
slice-write-out c = below c.before.before

add-result : tie.Need-overflow_add-result
add-result c = omega (arith, below c.before.before)

same_length : tie.Need-shape_of-out
same_length c =
    length-set c.put_long-end.new.out _ _ ∙ c.put_long-end.auto.out
    ∙ c.put_ended-start.auto.out

returns : tie.Need-returns
returns c =
    placed-two c.args.out.now c.args.at (number_text c.args.t 1) (long_digits c.args.place ++ 10 ∷ []) c.requires c.put_ended-start.ensures
    (placed-two c.put_ended-start.new.out c.put_ended-start.result (long_digits c.args.place) (10 ∷ []) (behind c.before.before.before.before.before.before) c.put_long-end.ensures
    (placed-byte c.put_long-end.new.out c.put_long-end.result 10 (below c.before.before)))

pub put_place_spec : {M : Type 1} → statement M
put_place_spec =
    tie.close
    (tie.spec put-ended-requires put-long-requires slice-write-out add-result same_length returns)
