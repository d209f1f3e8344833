-- `witness::start_of` meets its contract. Assumes nothing.
use mathlib.Core.Path.{sym, ◌∙◌}
use native.Mathlib.Omega.{arith}
use borrow.Author.Rules.{rules}
use Rattle.witness.proofs.start_of.Statement.{statement}
use Rattle.witness.proofs.start_of.Tie as tie

bit-at-requires : tie.Need-bit_at-value-requires
bit-at-requires c κs = c.requires (sym c.equals.ensures ∙ c.if-equals.true)

add-t7 : tie.Need-overflow_add-result
add-t7 c = omega (arith, c.requires (sym c.equals.ensures ∙ c.if-equals.true))

returns : tie.Need-returns-then-equals
returns c =
    let e = sym c.equals.ensures ∙ c.if-equals.true in
    (rw e c.bit_at-value.ensures, rw e)

returns-2 : tie.Need-returns
returns-2 c =
    let e = sym c.equals.ensures ∙ c.if-equals.false in
    (rw e c.is_true.ensures, rw e)

pub start_of_spec : {M : Type 1} → statement M
start_of_spec =
    tie.close
    (tie.spec (λ c κs. search rules) bit-at-requires add-t7 returns (λ c κs. search rules) returns-2)
