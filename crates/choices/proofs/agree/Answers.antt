-- `choices::agree` meets its contract. Assumes nothing.
use Rattle.choices.proofs.Turns.{agreed-none, agreed-stop, agreed-more}
use Rattle.choices.specs.Choices.{agreed}
use Prim.Native.Nat.{◌+◌, ◌-◌}
use lib.ListN as N
use native.Mathlib.Omega.{arith}
use mathlib.Core.Path.{◌≡◌, refl, sym, ap, ◌∙◌}
use Rattle.choices.proofs.agree.Goals as goal

pub returns-then-differs : goal.returns-then-differs
returns-then-differs c =
    let s = c.args in
    sym (agreed-stop s.work.now s.nodes c.loop-at.at (s.end - c.loop-at.at) (sym c.differs.ensures ∙ c.if-differs.true)) ∙ c.loop-at.invariant.same

pub loop-at-preserved : goal.loop-at-preserved
loop-at-preserved c =
    let s = c.args in
    let more = agreed-more s.work.now s.nodes c.loop-at.at (s.end - c.loop-at.at) (omega arith) (sym c.differs.ensures ∙ c.if-differs.false) in
    let e : s.end - c.loop-at.at - 1 ≡ s.end - (c.loop-at.at + 1) = omega arith in
    record { same = rw (← e) (sym more ∙ c.loop-at.invariant.same); near = omega arith }

pub returns : goal.returns
returns c =
    let s = c.args in
    let last : c.max.result ≡ c.loop-at.at = omega (arith, c.max.ensures, c.loop-at.invariant.near) in
    last ∙ sym (agreed-none s.work.now s.nodes c.loop-at.at (s.end - c.loop-at.at) (omega arith)) ∙ c.loop-at.invariant.same
