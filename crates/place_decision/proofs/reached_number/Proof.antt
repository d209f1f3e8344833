-- `place_decision::reached_number` meets its contract. Assumes nothing.
use mathlib.Core.Path.{◌≡◌, ap, ◌∙◌}
use Prim.Native.Nat.{ℕ, min}
use native.Mathlib.Omega.{arith}
use Rattle.aiger.specs.Search.{greatest}
use Rattle.place_decision.proofs.Told.{told-few, told-many}
use borrow.Author.Rules.{rules}
use Rattle.place_decision.proofs.reached_number.Statement.{statement}
use Rattle.place_decision.proofs.reached_number.Tie as tie

number-of-requires : tie.Need-number_of-requires
number-of-requires c κs = omega (arith, c.requires)

returns : tie.Need-returns-then-n-le1024
returns c = λ C b t e s. told-few C b t c.args.d c.args.n c.capped.result c.args.work.now e s c.if-n-le1024.true (c.capped.ensures ∙ ap (min greatest) c.number_of.ensures)

returns-2 : tie.Need-returns
returns-2 c = λ C b t e s. told-many C b t c.args.d c.args.n c.larger.result c.args.work.now e s c.if-n-le1024.false c.requires.1 c.larger.ensures

pub reached_number_spec : {M : Type 1} → statement M
reached_number_spec =
    tie.close
    (tie.spec number-of-requires (λ c κs. search rules) returns (λ c κs. search rules) returns-2)
