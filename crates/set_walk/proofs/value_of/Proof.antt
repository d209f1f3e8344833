-- `set_walk::value_of` meets its contract. The invariant: the edge has the value of the first one. Assumes nothing.
use mathlib.Core.Path.{◌≡◌, refl, sym, ap, ◌∙◌}
use Prim.Native.Nat.{ℕ, suc, ◌+◌, ◌-◌, ◌*◌, ◌/◌, ◌≤◌, ◌<◌}
use native.Mathlib.Omega.{arith}
use borrow.Author.Rules.{rules}
use lib.ListN.{length, get_or, set}
use Rattle.diagrams.specs.States.{state_of}
use Rattle.diagrams.specs.Meaning.{value, In}
use Rattle.set_walk.specs.Walk.{bits_of}
use Rattle.set_walk.proofs.Evaluation.{value-constant}
use Rattle.set_walk.proofs.value_of.Statement.{statement}
use Rattle.set_walk.proofs.value_of.Tie as tie

abbrev invariant-loop : tie.invariant-loop-at
invariant-loop w e bits at₀ at = In (state_of w).nodes at × (value (state_of w).nodes (bits_of bits) at ≡ value (state_of w).nodes (bits_of bits) e)

abbrev decreases-loop : tie.decreases-loop-at
decreases-loop w e bits at₀ at = at / 2

loop-holds : tie.Need-loop-at-init invariant-loop decreases-loop
loop-holds c = (c.requires.1, refl)

follow-requires : tie.Need-follow-at-requires invariant-loop decreases-loop
follow-requires c κs = (c.requires.0, (omega arith, c.loop-at.invariant.0))

loop-less : tie.Need-loop-at-smaller invariant-loop decreases-loop
loop-less c = c.follow-at.ensures.lower

loop-again : tie.Need-loop-at-preserved invariant-loop decreases-loop
loop-again c = (omega (arith, c.follow-at.ensures.lower, c.loop-at.invariant.0), c.follow-at.ensures.same ∙ c.loop-at.invariant.1)

returns : tie.Need-returns invariant-loop decreases-loop
returns c =
    let a = c.args in
    value-constant (state_of a.w.now).nodes c.requires.0 (bits_of a.bits.now) c.loop-at.at (omega arith) ∙ c.loop-at.invariant.1

pub value_of_spec : {M : Type 1} → statement M
value_of_spec =
    tie.close
    (tie.spec invariant-loop decreases-loop loop-holds follow-requires loop-less loop-again returns)
