-- `choices::wish` meets its contract. Assumes nothing.
use borrow.Author.Tests.{eq-eqb, le-leb, lt-leb, ne_eqb}
use Rattle.choices.specs.Choices as Ch
use borrow.Author.Rules.{rules}
use Rattle.choices.proofs.wish.Statement.{statement}
use Rattle.choices.proofs.wish.Tie as tie

returns : tie.Need-returns-then-v-ge1073741824
unfolding Ch.wish
returns c = rw (le-leb _ _ c.if-v-ge1073741824.true)

returns-2 : tie.Need-returns-then-field-eq1
unfolding Ch.wish
returns-2 c = rw (← c.field.ensures, lt-leb _ _ c.if-v-ge1073741824.false, eq-eqb _ _ c.if-field-eq1.true)

returns-3 : tie.Need-returns
unfolding Ch.wish
returns-3 c = rw (← c.field.ensures, lt-leb _ _ c.if-v-ge1073741824.false, ne_eqb _ _ c.if-field-eq1.false)

pub wish_spec : {M : Type 1} → statement M
wish_spec =
    tie.close
    (tie.spec returns (λ c κs. search rules) (λ c. search rules) returns-2 (λ c. search rules) (λ c. search rules) returns-3)
