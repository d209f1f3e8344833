-- `witness::read_heading` meets its contract: each answer by the first three bytes, and by the number after them. Assumes nothing.
use Rattle.std.proofs.Common.{Some, ap, refl}
use Rattle.witness.proofs.Heads.{short, no_one, no-feed, no-b, other, number, no_answer}
use Rattle.witness.proofs.read_heading.Goals as goal

pub returns-then-text-lt3 : goal.returns-then-text-lt3
returns-then-text-lt3 c = no_answer (short c.args.text.now c.if-text-lt3.true)

pub returns-then-text-ne49 : goal.returns-then-text-ne49
returns-then-text-ne49 c = no_answer (no_one c.args.text.now c.if-text-lt3.false c.if-text-ne49.true)

pub returns-then-text-ne10 : goal.returns-then-text-ne10
returns-then-text-ne10 c = no_answer (no-feed c.args.text.now c.if-text-lt3.false c.if-text-ne10.true)

pub returns-then-text-ne98 : goal.returns-then-text-ne98
returns-then-text-ne98 c = no_answer (no-b c.args.text.now c.if-text-lt3.false c.if-text-ne98.true)

pub returns-in_default : goal.returns-in_default
returns-in_default c =
    no_answer
    (other c.args.text.now c.if-text-lt3.false c.if-text-ne49.false c.if-text-ne10.false c.if-text-ne98.false c.in_default.ensures refl)

pub returns-in_default-number : goal.returns-in_default-number
returns-in_default-number c =
    no_answer
    (other c.args.text.now c.if-text-lt3.false c.if-text-ne49.false c.if-text-ne10.false c.if-text-ne98.false c.in-Some.ensures
    (rw c.in_default-number.is))

pub returns : goal.returns
returns c =
    number c.args.text.now c.if-text-lt3.false c.if-text-ne49.false c.if-text-ne10.false c.if-text-ne98.false c.in-Some.ensures
    (ap Some c.in-Ended.is)
