-- `binary_text::write_gate` meets its contract. Assumes nothing.
use native.Mathlib.Omega.{arith}
use borrow.Author.Rules.{rules}
use borrow.Author.Tests.{lt-ltb, le-ltb}
use Rattle.binary_text.proofs.write_gate.Statement.{statement}
use Rattle.binary_text.proofs.write_gate.Tie as tie

write-differences-requires : tie.Need-write_differences-requires
write-differences-requires c κs =
    let a = c.args in
    (c.requires.1, omega (arith, c.if-left-right.true), rw (lt-ltb a.left a.right c.if-left-right.true) at c.requires.2)

returns : tie.Need-returns-then-left-right
returns c =
    let a = c.args in
    rw (lt-ltb a.left a.right c.if-left-right.true) c.write_differences.ensures

write-differences-requires-2 : tie.Need-write_differences-requires-2
write-differences-requires-2 c κs =
    let a = c.args in
    (c.requires.0, c.if-left-right.false, rw (le-ltb a.left a.right c.if-left-right.false) at c.requires.2)

returns-2 : tie.Need-returns
returns-2 c =
    let a = c.args in
    rw (le-ltb a.left a.right c.if-left-right.false) c.write_differences-2.ensures

pub write_gate_spec : {M : Type 1} → statement M
write_gate_spec =
    tie.close
    (tie.spec write-differences-requires (λ c. search rules) returns write-differences-requires-2 (λ c. search rules) returns-2)
