-- `set_walk::follow` meets its contract. Assumes nothing.
use mathlib.Core.Path.{◌≡◌, refl, sym, ap, ◌∙◌}
use Prim.Native.Nat.{ℕ, suc, ◌+◌, ◌-◌, ◌*◌, ◌/◌, ◌≤◌, ◌<◌}
use native.Mathlib.Omega.{arith}
use borrow.Author.Rules.{rules}
use lib.ListN.{length, get_or, set}
use Rattle.diagrams.specs.States.{state_of}
use Rattle.set_walk.specs.Walk.{bits_of}
use Rattle.set_walk.proofs.Evaluation.{follow-hi, follow-lo}
use Rattle.set_walk.proofs.follow.Statement.{statement}
use Rattle.set_walk.proofs.follow.Tie as tie

returns : tie.Need-returns-then-is_true
returns c =
    let a = c.args in
    follow-hi (state_of a.w.now).nodes c.requires.0 (bits_of a.bits.now) a.e c.requires.1.0 c.requires.1.1 c.read-n.result
    c.read-n.ensures _ (sym c.is_true.ensures ∙ c.if-is_true.true) c.flip.ensures

returns-2 : tie.Need-returns
returns-2 c =
    let a = c.args in
    follow-lo (state_of a.w.now).nodes c.requires.0 (bits_of a.bits.now) a.e c.requires.1.0 c.requires.1.1 c.read-n.result
    c.read-n.ensures _ (sym c.is_true.ensures ∙ c.if-is_true.false) c.flip-2.ensures

pub follow_spec : {M : Type 1} → statement M
follow_spec =
    tie.close
    (tie.spec (λ c κs. search rules) (λ c κs. search rules) (λ c κs. search rules) returns (λ c κs. search rules) returns-2)
