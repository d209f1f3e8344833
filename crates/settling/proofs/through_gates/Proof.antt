-- `settling::through_gates` meets its contract. Assumes nothing.
use Rattle.settling.specs.Settling as S
use borrow.Author.Rules.{rules}
use Rattle.settling.proofs.through_gates.Statement.{statement}
use Rattle.settling.proofs.through_gates.Tie as tie

returns : tie.Need-returns
unfolding S.through_gates
returns c =
    let t = c.look-t.ensures in
    rw (← t.words, ← t.state, ← c.field-e.ensures) c.look_up.ensures

pub through_gates_spec : {M : Type 1} → statement M
through_gates_spec =
    tie.close (tie.spec (λ c κs. search rules) (λ c κs. search rules) (λ c κs. search rules) (λ c. search rules) returns)
