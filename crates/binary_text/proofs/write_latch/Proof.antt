-- `binary_text::write_latch` meets its contract. Assumes nothing.
use borrow.Author.Rules.{rules}
use Rattle.output.specs.Row.{number_text}
use Rattle.output.proofs.Output.{room-first, room-second, placed-two}
use Rattle.binary_text.proofs.Steps.{latch-one, latch-two}
use Rattle.binary_text.proofs.write_latch.Statement.{statement}
use Rattle.binary_text.proofs.write_latch.Tie as tie

put-ended-requires : tie.Need-put_ended-requires
put-ended-requires c κs =
    let a = c.args in
    rw (latch-one a.next a.reset c.if-reset-eq0.true) at c.requires

returns : tie.Need-returns-then-reset-eq0
returns c =
    let a = c.args in
    rw (latch-one a.next a.reset c.if-reset-eq0.true) c.put_ended.ensures

put-ended-requires-2 : tie.Need-put_ended-end-requires
put-ended-requires-2 c κs =
    let a = c.args in
    room-first a.out.now a.at (number_text a.next 1) (number_text a.reset 0)
    (rw (latch-two a.next a.reset c.if-reset-eq0.false) at c.requires)

put-ended-requires-3 : tie.Need-put_ended-requires-2
put-ended-requires-3 c κs =
    let a = c.args in
    room-second a.out.now a.at (number_text a.next 1) (number_text a.reset 0)
    (rw (latch-two a.next a.reset c.if-reset-eq0.false) at c.requires)
    c.put_ended-end.ensures

returns-2 : tie.Need-returns
returns-2 c =
    let a = c.args in
    let e = latch-two a.next a.reset c.if-reset-eq0.false in
    rw e (placed-two a.out.now a.at (number_text a.next 1) (number_text a.reset 0) (rw e at c.requires)
    c.put_ended-end.ensures c.put_ended-2.ensures)

pub write_latch_spec : {M : Type 1} → statement M
write_latch_spec =
    tie.close
    (tie.spec put-ended-requires (λ c. search rules) returns put-ended-requires-2 put-ended-requires-3 (λ c. search rules) returns-2)
