-- `write::write` meets its contract: each answer by the test of the memory and by the length of the text. Assumes nothing.
use native.Mathlib.Omega.{arith}
use Rattle.aiger.specs.Operations.{Operated}
use Rattle.write.proofs.Answers.{too_long, fitting}
use borrow.Author.Rules.{rules}
use Rattle.write.proofs.write.Statement.{statement}
use Rattle.write.proofs.write.Tie as tie

returns : tie.Need-returns-in_default
returns c = Operated.no_circuit (rw c.in_default.is at c.test.ensures)

text-length-requires : tie.Need-text_length-length-requires
text-length-requires c κs =
    let t = rw c.in-Some.is at c.test.ensures in
    (t.1, t.0)

returns-2 : tie.Need-returns-then-out-length
returns-2 c =
    let t = rw c.in-Some.is at c.test.ensures in
    let a = c.args in
    too_long t.1 c.text_length-length.ensures a.out.now c.if-out-length.true

write-text-requires : tie.Need-write_text-requires
write-text-requires c κs =
    let t = rw c.in-Some.is at c.test.ensures in
    (t.1, t.0, omega (arith, c.text_length-length.ensures, c.if-out-length.false))

returns-3 : tie.Need-returns
returns-3 c =
    let t = rw c.in-Some.is at c.test.ensures in
    let a = c.args in
    fitting t.1 c.text_length-length.ensures a.out.now c.if-out-length.false c.write_text.ensures

pub write_spec : {M : Type 1} → statement M
write_spec =
    tie.close
    (tie.spec (λ c κs. search rules) (λ c. search rules) (λ c. search rules) returns text-length-requires returns-2 write-text-requires (λ c. search rules) returns-3)
