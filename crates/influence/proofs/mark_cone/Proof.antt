-- `influence::mark_cone` meets its contract. Assumes nothing.
use mathlib.Core.Path.{◌≡◌, sym, ◌∙◌}
use Prim.Native.Nat.{ℕ, ◌+◌, ◌<◌}
use native.Mathlib.Omega.{arith}
use borrow.Author.Rules.{rules}
use lib.ListN.{length}
use Rattle.frames.proofs.Facts.{bad-inside, ready_with}
use Rattle.influence.proofs.Rooms.{bad-literals, constraint-literals, marks-are}
use Rattle.influence.proofs.mark_cone.Statement.{statement}
use Rattle.influence.proofs.mark_cone.Tie as tie

add-mark-words : tie.Need-overflow_add-layout
add-mark-words c = omega (arith, bad-inside c.requires.0 c.args.b c.requires.1)

mark-words-requires : tie.Need-mark_words-requires
mark-words-requires c κs = bad-literals c.requires.0 c.args.b c.requires.1

mark-words-requires-2 : tie.Need-mark_words-requires-2
mark-words-requires-2 c κs =
    constraint-literals (ready_with c.requires.0 (omega (arith, c.mark_words.auto.marks, c.requires.0.room)))

settle-requires : tie.Need-settle-requires
settle-requires c κs =
    let one = c.mark_words.auto.marks in
    let two = c.mark_words-2.auto.marks in
    (ready_with c.requires.0 (omega (arith, two, one, c.requires.0.room)), c.requires.1)

same_length : tie.Need-shape_of-marks
same_length c = c.settle.auto.marks ∙ c.mark_words-2.auto.marks ∙ c.mark_words.auto.marks

returns : tie.Need-returns
returns c =
    marks-are c.requires.0 c.args.b c.requires.1 c.args.marks.now c.mark_words.new.marks c.mark_words-2.new.marks c.settle.new.marks
    c.mark_words.ensures c.mark_words-2.ensures c.settle.ensures

pub mark_cone_spec : {M : Type 1} → statement M
mark_cone_spec =
    tie.close
    (tie.spec add-mark-words mark-words-requires mark-words-requires-2 settle-requires same_length returns)
