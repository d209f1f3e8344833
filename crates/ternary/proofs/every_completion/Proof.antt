-- `ternary::every_completion` meets its contract. Assumes nothing.
use mathlib.Core.Path.{◌≡◌, sym, ap, ◌∙◌}
use mathlib.Core.Bool.{true}
use Prim.Native.Nat.{ℕ}
use native.Mathlib.Omega.{arith}
use lib.ListN.{length-replicate}
use Rattle.layout.specs.Words.{circuit_in}
use Rattle.ternary.specs.Entries.{sees_hit}
use Rattle.ternary.proofs.Simulation.{sees-sound}
use borrow.Author.Rules.{rules}
use Rattle.ternary.proofs.every_completion.Statement.{statement}
use Rattle.ternary.proofs.every_completion.Tie as tie

simulate-requires : tie.Need-simulate-requires
simulate-requires c κs =
    (c.requires.0, c.requires.1, search rules, search rules, c.requires.2)

returns : tie.Need-returns
returns c =
    let a = c.args in
    let e =
    c.simulate.ensures
    ∙ ap (λ (n : ℕ). sees_hit n (circuit_in a.m.now) a.order.now a.q.bad a.q.frames a.body.now)
    (length-replicate {A = ℕ} 8194 1) in (
      e,
      λ t. sees-sound c.requires.0 8194 a.q.bad a.q.frames a.q.eithers a.body.now (omega arith) c.requires.1 c.requires.2
          (sym e ∙ t),
    )

pub every_completion_spec : {M : Type 1} → statement M
every_completion_spec =
    tie.close
    (tie.spec (λ c. search rules) (λ c. search rules) simulate-requires returns)
