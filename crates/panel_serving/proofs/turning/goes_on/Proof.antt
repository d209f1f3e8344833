-- The input has more, and the count is below its greatest number. Assumes nothing.
use Rattle.std.proofs.Common.{sym, ◌∙◌, inl, inr, arith, rules}
use Rattle.panel_serving.proofs.Exchanges.{differ}
use Rattle.panel_serving.proofs.turning.goes_on.Statement.{statement}
use Rattle.panel_serving.proofs.turning.goes_on.Tie as tie

returns : tie.Need-returns-then-has_ended
returns c = record { more = λ h. differ h; over = λ h. inl (sym c.has_ended.ensures ∙ c.if-has_ended.true) }

returns-2 : tie.Need-returns-then-tally-lt18446744073709551615
returns-2 c = record { more = λ h. (sym c.has_ended.ensures ∙ c.if-has_ended.false, omega arith); over = λ h. differ (sym h) }

returns-3 : tie.Need-returns
returns-3 c = record { more = λ h. differ h; over = λ h. inr (omega arith) }

pub goes_on_spec : {M : Type 1} → statement M
goes_on_spec =
    tie.close
    (tie.spec (λ c κs. search rules) returns returns-2 returns-3)
