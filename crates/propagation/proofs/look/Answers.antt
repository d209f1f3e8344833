-- `propagation::look` meets its contract. Assumes nothing.
use mathlib.Core.Path.{◌≡◌, sym, ◌∙◌}
use Rattle.trail.proofs.Turns.{left_by}
use Rattle.propagation.specs.Gates as G
use Rattle.propagation.proofs.Rules.{rule-near, looked-by, looked-still}
use Rattle.propagation.proofs.look.Goals as goal

pub apply-requires : goal.apply-requires
apply-requires c =
    let a = c.args in
    rule-near a.work.now a.net.nodes a.g (sym c.gate_rule.ensures ∙ c.in-Some.is)

pub returns-in-Some : goal.returns-in-Some
unfolding G.followed
returns-in-Some c =
    let a = c.args in
    rw (looked-by a.work.now a.net a.s a.g, ← c.gate_rule.ensures, c.in-Some.is) c.apply.ensures

pub returns-in-None : goal.returns-in-None
returns-in-None c =
    let a = c.args in
    left_by (sym (looked-still a.work.now a.net a.s a.g (sym c.gate_rule.ensures ∙ c.in-None.is)))
