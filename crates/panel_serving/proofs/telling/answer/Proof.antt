-- What is printed is what `panel_session::respond` answered. Assumes nothing.
use Rattle.panel_session.proofs.Turns.{answered-inside}
use Rattle.panel_serving.proofs.Exchanges.{answered-as}
use Rattle.std.proofs.Common.{rules}
use Rattle.panel_serving.proofs.telling.answer.Statement.{statement}
use Rattle.panel_serving.proofs.telling.answer.Tie as tie

respond-requires : tie.Need-respond-response-requires
respond-requires c κs = c.requires

tell-requires : tie.Need-tell-requires
tell-requires c κs = answered-inside c.respond-response.ensures

returns : tie.Need-returns
returns c = answered-as c.tell.ensures c.respond-response.ensures

pub answer_spec : {M : Type 1} → statement M
answer_spec =
    tie.close
    (tie.spec respond-requires tell-requires (λ c. search rules) (λ c. search rules) (λ c. search rules) (λ c. search rules) returns)
