use Rattle.std.proofs.Common.{ℕ, ◌+◌, ◌-◌, ◌∙◌, sym, ap, arith}
use Rattle.diagrams.specs.Words as W
use Rattle.diagrams.specs.States as S
use Rattle.diagrams.specs.declared.Vertex.{Vertex}
use Rattle.diagrams.proofs.View.{count-is}
use Rattle.diagrams.proofs.Follow.{found-spent, found-end, found-yes, found-more}
use Rattle.diagrams.proofs.find.Goals as goal

pub loop-init : goal.loop-init
loop-init c =
    let a = c.args in
    ap (λ (n : ℕ). S.found (S.state_of a.w.now).nodes a.v a.lo a.hi n a.from) (omega (arith, c.get-end.ensures, count-is a.w.now))

pub returns-then-at-eq0 : goal.returns-then-at-eq0
returns-then-at-eq0 c =
    let a = c.args in
    let left = c.get-end.result - c.loop.counter in
    sym (found-end (S.state_of a.w.now).nodes a.v a.lo a.hi left (left - 1) c.loop.at (omega arith) c.if-at-eq0.true) ∙ c.loop.invariant

pub returns-then-is_node : goal.returns-then-is_node
returns-then-is_node c =
    let a = c.args in
    let left = c.get-end.result - c.loop.counter in
    sym
    (found-yes (S.state_of a.w.now).nodes a.v a.lo a.hi left (left - 1) c.loop.at (omega arith) c.if-at-eq0.false
    (ap (λ (x : Vertex). W.is_node x a.v a.lo a.hi) (sym c.read-n.ensures) ∙ sym c.is_node.ensures ∙ c.if-is_node.true))
    ∙ c.loop.invariant

pub loop-preserved : goal.loop-preserved
loop-preserved c =
    let a = c.args in
    let ns = (S.state_of a.w.now).nodes in
    let left = c.get-end.result - (c.loop.counter + 1) in
    ap (λ (x : Vertex). S.found ns a.v a.lo a.hi left x.next) c.read-n.ensures
    ∙ sym
    (found-more ns a.v a.lo a.hi (c.get-end.result - c.loop.counter) left c.loop.at (omega arith) c.if-at-eq0.false
    (ap (λ (x : Vertex). W.is_node x a.v a.lo a.hi) (sym c.read-n.ensures) ∙ sym c.is_node.ensures ∙ c.if-is_node.false))
    ∙ c.loop.invariant

pub returns : goal.returns
returns c =
    let a = c.args in
    sym (found-spent (S.state_of a.w.now).nodes a.v a.lo a.hi (c.get-end.result - c.loop.counter) c.loop.at (omega arith)) ∙ c.loop.invariant
