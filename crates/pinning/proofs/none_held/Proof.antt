-- `pinning::none_held` meets its contract. Assumes nothing.
use mathlib.Core.Path.{◌≡◌, ap, ◌∙◌}
use native.Mathlib.Omega.{arith}
use Rattle.pins.specs.Pins.{pins_of}
use Rattle.pinning.specs.Free.{none_held, inputs_said}
use Rattle.pinning.proofs.Free.{said-few}
use borrow.Author.Rules.{rules}
use Rattle.pinning.proofs.none_held.Statement.{statement}
use Rattle.pinning.proofs.none_held.Tie as tie

first-free-requires : tie.Need-first_free-requires
first-free-requires c κs = let a = c.args in (c.requires, omega (arith, c.inputs_said.ensures, said-few a.m.now))

returns : tie.Need-returns
returns c =
    let a = c.args in
    c.first_free.ensures ∙ ap (none_held (pins_of a.pins.now a.user)) c.inputs_said.ensures

pub none_held_spec : {M : Type 1} → statement M
none_held_spec =
    tie.close
    (tie.spec (λ c κs. search rules) first-free-requires returns)
