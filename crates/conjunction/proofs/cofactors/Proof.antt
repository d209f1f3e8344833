-- `conjunction::cofactors` meets its contract. Assumes nothing.
use borrow.Author.Rules.{rules}
use Rattle.diagrams.specs.States.{state_of}
use Rattle.conjunction.proofs.Follow.{split_by}
use Rattle.conjunction.proofs.cofactors.Statement.{statement}
use Rattle.conjunction.proofs.cofactors.Tie as tie

returns : tie.Need-returns
returns c =
    let a = c.args in
    split_by (state_of a.w.now).nodes a.f a.g c.read-p.result
    c.read-q.result c.smaller-var.result
    c.low.result c.low-2.result c.high.result c.high-2.result
    c.read-p.ensures c.read-q.ensures
    c.smaller-var.ensures c.low.ensures c.low-2.ensures
    c.high.ensures c.high-2.ensures

pub cofactors_spec : {M : Type 1} → statement M
cofactors_spec =
    tie.close
    (tie.spec (λ c κs. search rules) (λ c κs. search rules) (λ c κs. search rules) (λ c κs. search rules) (λ c κs. search rules) (λ c κs. search rules) (λ c κs. search rules) returns)
