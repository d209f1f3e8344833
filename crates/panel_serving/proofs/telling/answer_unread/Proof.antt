-- What is printed is what `panel_session::unread` answered. Assumes nothing.
use Rattle.std.proofs.Common.{[], arith, rules}
use Rattle.panel_session.proofs.Turns.{answered-inside}
use Rattle.panel_serving.proofs.Exchanges.{answered-as}
use Rattle.panel_serving.proofs.telling.answer_unread.Statement.{statement}
use Rattle.panel_serving.proofs.telling.answer_unread.Tie as tie

tell-requires : tie.Need-tell-requires
tell-requires c κs =
    let i = answered-inside (c.unread.ensures [] (record { memory = []; work = []; pins = [] }) []) in
    (i.0, omega (arith, i.1))

returns : tie.Need-returns
returns c = λ request s out. answered-as c.tell.ensures (c.unread.ensures request s out)

pub answer_unread_spec : {M : Type 1} → statement M
answer_unread_spec =
    tie.close
    (tie.spec (λ c κs. search rules) tell-requires returns)
