use Rattle.std.proofs.Common.{ap, ◌∙◌}
use Rattle.diagrams.specs.Words.{flip}
use Rattle.diagrams.specs.States.{state_of, and_then, made}
use Rattle.diagrams.proofs.Follow.{full-left, then-full, then-edge}
use Rattle.conjunction.specs.Conjunction.{both}
use Rattle.set_table.proofs.with_value.Goals as goal

pub returns-in_err-x : goal.returns-in_err-x
returns-in_err-x c =
    let a = c.args in
    full-left c.node.new.w c.from_residual.result (and_then (made (state_of a.w.now) a.v 0 1) (λ t x. both t a.e (flip x a.c)))
    c.from_residual.ensures.0
    (then-full (made (state_of a.w.now) a.v 0 1) (λ t x. both t a.e (flip x a.c)) (state_of c.node.new.w) c.in_err-x.ensures)

pub returns : goal.returns
returns c =
    let a = c.args in
    then-edge (made (state_of a.w.now) a.v 0 1) (λ t x. both t a.e (flip x a.c)) (state_of c.node.new.w) c.in_ok-x.x _ c.in_ok-x.ensures
    (c.both.ensures ∙ ap (both (state_of c.node.new.w) a.e) c.flip.ensures)
