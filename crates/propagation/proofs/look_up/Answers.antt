-- `propagation::look_up` meets its contract. Assumes nothing.
use Rattle.trail.proofs.Turns.{left_by}
use Rattle.propagation.proofs.Turns.{up_none, up-end, up-stop, up_more}
use Rattle.propagation.proofs.Rules.{rule-near, looked-done, looked-none}
use Rattle.propagation.specs.Gates.{looked_up}
use Prim.Native.Nat.{◌/◌, ◌-◌, ◌+◌}
use lib.ListN as N
use native.Mathlib.Omega.{arith}
use mathlib.Core.Logic.{⊎_elim}
use mathlib.Core.Path.{◌≡◌, refl, ap, sym, ◌∙◌}
use Rattle.propagation.proofs.look_up.Goals as goal

pub returns-then-at-eq0 : goal.returns-then-at-eq0
returns-then-at-eq0 c =
    let l = c.loop in
    let s = c.args in
    left_by (sym (up-end l.work s.net l.t l.at (c.args.n - c.loop.counter) c.if-at-eq0.true) ∙ l.invariant)

pub returns-then-t : goal.returns-then-t
returns-then-t c =
    let l = c.loop in
    let s = c.args in
    left_by (sym (up-stop l.work s.net l.t l.at (c.args.n - c.loop.counter) c.if-at-eq0.false c.if-t.true) ∙ l.invariant)

pub apply-t-requires : goal.apply-t-requires
apply-t-requires c =
    let l = c.loop in
    let s = c.args in
    rule-near l.work s.net.nodes (l.at / 2) (sym c.gate_rule.ensures ∙ c.in-Some.is)

pub loop-preserved : goal.loop-preserved
loop-preserved c =
    let rest : c.args.n - (c.loop.counter + 1) ≡ c.args.n - c.loop.counter - 1 = omega arith in
    let l = c.loop in
    let s = c.args in
    let more = up_more l.work s.net l.t l.at (c.args.n - c.loop.counter) (omega arith) c.if-at-eq0.false c.if-t.false in
    let rule = c.gate_rule.ensures in
    let turn =
    ⊎_elim (λ w. looked-done l.work s.net l.t (l.at / 2) (sym w.in-Some.is ∙ rule) w.apply-t.ensures w.work-is w.t-is)
    (λ w. looked-none l.work s.net l.t (l.at / 2) rule w.in_default.is w.work-is w.t-is) c.match-gate_rule.branch-raw in
    rw (rest, turn.words, turn.state, c.next_fan-next.ensures) (sym more ∙ l.invariant)

pub returns : goal.returns
returns c =
    let l = c.loop in
    let s = c.args in
    left_by (sym (up_none l.work s.net l.t l.at (c.args.n - c.loop.counter) (omega arith)) ∙ l.invariant)
