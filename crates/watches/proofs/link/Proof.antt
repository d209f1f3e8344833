-- `watches::link` meets its contract. Assumes nothing.
use borrow.Author.Tests.{eq-eqb, le-ltb, lt-ltb, ne_eqb}
use Rattle.watches.specs.Watch as W
use borrow.Author.Rules.{rules}
use Rattle.watches.proofs.link.Statement.{statement}
use Rattle.watches.proofs.link.Tie as tie

returns : tie.Need-returns-then-from-eq0
unfolding W.linked
returns c =
    rw (
      lt-ltb _ _ c.if-from-arena.true,
      eq-eqb _ _ c.if-from-eq0.true,
    ) c.set_head.ensures

returns-2 : tie.Need-returns-else-from-eq0
unfolding W.linked
returns-2 c =
    rw (
      lt-ltb _ _ c.if-from-arena.true,
      ne_eqb _ _ c.if-from-eq0.false,
    ) c.set_head-else-from-eq0.ensures

returns-3 : tie.Need-returns-then-f-eq0
unfolding W.linked
returns-3 c =
    rw (
      le-ltb _ _ c.if-from-arena.false,
      eq-eqb _ _ c.if-f-eq0.true,
    ) c.set_field.ensures

returns-4 : tie.Need-returns-else-f-eq0
unfolding W.linked
returns-4 c =
    rw (
      le-ltb _ _ c.if-from-arena.false,
      ne_eqb _ _ c.if-f-eq0.false,
    ) c.set_field-else-f-eq0.ensures

pub link_spec : {M : Type 1} → statement M
link_spec =
    tie.close
    (tie.spec (λ c κs. search rules) (λ c κs. search rules) (λ c. search rules) returns (λ c. search rules) returns-2 (λ c κs. search rules) (λ c κs. search rules) (λ c. search rules) returns-3 (λ c. search rules) returns-4)
