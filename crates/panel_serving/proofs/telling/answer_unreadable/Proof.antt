-- What is printed is what `panel_session::unreadable` answered. Assumes nothing.
use Rattle.std.proofs.Common.{[], arith, rules}
use Rattle.panel_session.proofs.Turns.{answered-inside}
use Rattle.panel_serving.proofs.Exchanges.{answered-as}
use Rattle.panel_serving.proofs.telling.answer_unreadable.Statement.{statement}
use Rattle.panel_serving.proofs.telling.answer_unreadable.Tie as tie

unreadable-requires : tie.Need-unreadable-requires
unreadable-requires c κs = c.requires

tell-requires : tie.Need-tell-requires
tell-requires c κs =
    let i = answered-inside (c.unreadable.ensures (record { memory = []; work = []; pins = [] }) []) in
    (i.0, omega (arith, i.1))

returns : tie.Need-returns
returns c = λ s out. answered-as c.tell.ensures (c.unreadable.ensures s out)

pub answer_unreadable_spec : {M : Type 1} → statement M
answer_unreadable_spec =
    tie.close
    (tie.spec unreadable-requires tell-requires returns)
