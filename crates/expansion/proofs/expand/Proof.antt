-- `expansion::expand` meets its contract. Assumes nothing.
use Prim.Native.Nat.{◌+◌}
use native.Mathlib.Omega.{arith}
use Rattle.pins.specs.Pins.{pins_of}
use Rattle.expansion.proofs.Rows.{expand-all}
use borrow.Author.Rules.{rules}
use Rattle.expansion.proofs.expand.Statement.{statement}
use Rattle.expansion.proofs.expand.Tie as tie

free-inputs-requires : tie.Need-free_inputs-n-requires
free-inputs-requires c κs = (c.requires.0, c.requires.1)

expand-rows-requires : tie.Need-expand_rows-requires
expand-rows-requires c κs = (c.requires.0, c.requires.1, c.requires.2, c.requires.3, c.free_inputs-n.ensures)

returns : tie.Need-returns
returns c =
    let a = c.args in
    expand-all (pins_of a.pins.now a.user) a.inputs a.start (a.t + 1) a.out.now c.expand_rows.new.out
    (omega (arith, c.requires.3)) c.expand_rows.ensures

pub expand_spec : {M : Type 1} → statement M
expand_spec =
    tie.close
    (tie.spec free-inputs-requires expand-rows-requires (λ c. search rules) returns)
