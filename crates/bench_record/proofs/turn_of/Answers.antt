-- `bench_record::turn_of`: nobody's where there is no bench or no allowance, else that of the first that waits. Assumes nothing.
use Rattle.std.proofs.Common.{sym, ◌∙◌}
use Rattle.bench_record.proofs.Laws.{turn-absent, turn-without, turn_in}
use Rattle.bench_record.proofs.turn_of.Goals as goal

pub returns-then-not-is_there : goal.returns-then-not-is_there
returns-then-not-is_there c = sym (turn-absent c.args.shared.now c.args.user (sym c.is_there.ensures ∙ c.if-not-is_there.true))

pub returns-then-allowance_of-eq0 : goal.returns-then-allowance_of-eq0
returns-then-allowance_of-eq0 c =
    sym (turn-without c.args.shared.now c.args.user (sym c.is_there.ensures ∙ c.if-not-is_there.false) (sym c.allowance_of.ensures ∙ c.if-allowance_of-eq0.true))

pub returns : goal.returns
returns c =
    rw (← c.number_at-next.ensures) c.first_waiting.ensures
    ∙ sym (turn_in c.args.shared.now c.args.user (sym c.is_there.ensures ∙ c.if-not-is_there.false) (λ z. c.if-allowance_of-eq0.false (c.allowance_of.ensures ∙ z)))
