-- A request is read and served, or there is none. Assumes nothing.
use Rattle.std.proofs.Common.{sym, ◌∙◌, rules}
use Rattle.panel_serving.specs.Serving.{Turns, totals_of}
use Rattle.panel_serving.proofs.Exchanges.{turns-unread, turns-serves, tallied-failed, tallied-ended, tallied-served, received-same}
use Rattle.panel_serving.proofs.turning.turn.Statement.{statement}
use Rattle.panel_serving.proofs.turning.turn.Tie as tie

counted-requires : tie.Need-counted-tally-requires
counted-requires c κs = c.requires.2

returns : tie.Need-returns-then-has_failed
returns c =
    let failed = sym c.has_failed.ensures ∙ c.if-has_failed.true in (
      turns-unread _ _ failed c.answer_unread-told.ensures,
      (
        c.counted-tally.ensures ∙ tallied-failed (totals_of c.args.before.tally) c.receive-request.result c.answer_unread-told.result.response failed,
        c.receive-request.ensures,
        record { memory = c.requires.0.memory; pins = c.requires.0.pins },
      ),
    )

returns-2 : tie.Need-returns-then-has_ended
returns-2 c =
    let failed = sym c.has_failed.ensures ∙ c.if-has_failed.false in
    let ended = sym c.has_ended.ensures ∙ c.if-has_ended.true in (
      Turns.ends failed ended c.silence-told.ensures.0 c.silence-told.ensures.1,
      (
        tallied-ended (totals_of c.args.before.tally) c.receive-request.result c.silence-told.result.response failed ended,
        c.receive-request.ensures,
        c.requires.0,
      ),
    )

served-requires : tie.Need-served-requires
served-requires c κs = (c.requires.0, c.receive-request.ensures, c.requires.1, c.requires.2)

returns-3 : tie.Need-returns
returns-3 c =
    let failed = sym c.has_failed.ensures ∙ c.if-has_failed.false in
    let ended = sym c.has_ended.ensures ∙ c.if-has_ended.false in
    let e = c.served.ensures in (
      turns-serves e.1.0 failed ended e.0,
      (
        tallied-served c.served.result (totals_of c.args.before.tally) e.1.0 failed ended e.1.2,
        received-same e.1.0 c.receive-request.ensures,
        e.1.1,
      ),
    )

pub turn_spec : {M : Type 1} → statement M
turn_spec =
    tie.close
    (tie.spec (λ c κs. search rules) (λ c κs. search rules) (λ c κs. search rules) (λ c κs. search rules) counted-requires (λ c. search rules) returns (λ c κs. search rules) (λ c κs. search rules) (λ c κs. search rules) returns-2 served-requires (λ c. search rules) (λ c. search rules) returns-3)
