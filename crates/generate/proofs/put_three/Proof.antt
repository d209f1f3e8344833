-- `generate::put_three` meets its contract. Assumes nothing.
use mathlib.Core.Path.{◌≡◌}
use native.Mathlib.Omega.{arith}
use borrow.Author.Rules.{rules}
use Rattle.generate.proofs.Lines.{line-three}
use Rattle.generate.proofs.put_three.Statement.{statement}
use Rattle.generate.proofs.put_three.Tie as tie

put-row-requires : tie.Need-put_row-requires
put-row-requires c κs =
    let a = c.args in
    (omega arith, rw (line-three a.a a.b a.c) c.requires)

returns : tie.Need-returns
returns c =
    let a = c.args in
    rw (line-three a.a a.b a.c) at c.put_row.ensures

pub put_three_spec : {M : Type 1} → statement M
put_three_spec =
    tie.close
    (tie.spec (λ c. search rules) put-row-requires (λ c. search rules) returns)
