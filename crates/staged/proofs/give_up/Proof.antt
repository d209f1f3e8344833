-- `staged::give_up` meets its contract. Assumes nothing.
use mathlib.Core.Path.{◌≡◌, subst}
use mathlib.Core.List.{List}
use Prim.Native.Nat.{ℕ, max}
use native.Mathlib.Omega.{arith}
use borrow.Author.Rules.{rules}
use Rattle.stages.specs.Endings.{Ending, Staged}
use Rattle.staged.specs.declared.Passed.TheVariants as passed
use Rattle.staged.specs.Answers.{Shows}
use Rattle.staged.proofs.Turns.{given-up, given-past}
use Rattle.staged.proofs.give_up.Statement.{statement}
use Rattle.staged.proofs.give_up.Tie as tie

returns : tie.Need-returns-then-k-u
returns c =
    let s = c.args in
    λ C work. given-past C s.k (max s.t s.first) work (omega (arith, c.if-k-u.true, c.later-u.ensures))

returns-2 : tie.Need-returns
returns-2 c =
    let s = c.args in
    let e = c.later-u.ensures in
    λ C work. subst (λ (u : ℕ). Shows C s.k (Staged.ends (Ending.gave_up u)) work (passed.GaveUp c.later-u.result)) e
    (given-up C s.k c.later-u.result work (omega (arith, c.if-k-u.false)))

pub give_up_spec : {M : Type 1} → statement M
give_up_spec =
    tie.close
    (tie.spec (λ c κs. search rules) returns returns-2)
