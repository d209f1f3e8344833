-- `answer_places::tell_reached` meets its contract. Assumes nothing.
use mathlib.Core.Path.{refl}
use borrow.Author.Rules.{rules}
use Rattle.answer_places.proofs.tell_reached.Statement.{statement}
use Rattle.answer_places.proofs.tell_reached.Tie as tie

slice-aggregate-put : tie.Need-slice_bounds-put-end
slice-aggregate-put c = refl

same_length : tie.Need-shape_of-answer
same_length c = c.put.auto.answer

returns : tie.Need-returns
returns c = c.put.ensures

pub tell_reached_spec : {M : Type 1} → statement M
tell_reached_spec =
    tie.close
    (tie.spec slice-aggregate-put (λ c κs. search rules) same_length returns)
