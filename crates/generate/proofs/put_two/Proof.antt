-- `generate::put_two` meets its contract. Assumes nothing.
use mathlib.Core.Path.{◌≡◌}
use native.Mathlib.Omega.{arith}
use borrow.Author.Rules.{rules}
use Rattle.generate.proofs.Lines.{line-two}
use Rattle.generate.proofs.put_two.Statement.{statement}
use Rattle.generate.proofs.put_two.Tie as tie

put-row-requires : tie.Need-put_row-requires
put-row-requires c κs =
    let a = c.args in
    (omega arith, rw (line-two a.a a.b) c.requires)

returns : tie.Need-returns
returns c =
    let a = c.args in
    rw (line-two a.a a.b) at c.put_row.ensures

pub put_two_spec : {M : Type 1} → statement M
put_two_spec =
    tie.close
    (tie.spec (λ c. search rules) put-row-requires (λ c. search rules) returns)
