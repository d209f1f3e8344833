-- The proof of the cycle of calls {exists_within}. The measure is the number of turns. Assumes nothing.
use Rattle.std.specs.Prelude as code
use Rattle.std.specs.Prelude.{Ok}
use Rattle.std.proofs.Common.{◌≡◌, sym, ap, ◌∙◌, ℕ, ◌-◌, arith}
use Rattle.diagrams.specs.States.{state_of, seen}
use Rattle.diagrams.proofs.Follow.{full-left}
use Rattle.quantification.specs.Quantification.{exists_within}
use Rattle.quantification.proofs.Follow.{within-constant, within-past, within-spent, within-full, within-known}
use Rattle.quantification.proofs.Follow.{within_first, within-second, within_both}
use Rattle.quantification.proofs.+exists_within.Goals as goal

pub returns-then-e-lt2 : goal.returns-then-e-lt2
returns-then-e-lt2 t c =
    let a = c.args in
    within-constant a.level (state_of a.w.now) a.e a.turns c.if-e-lt2.true

pub returns-then-level-n : goal.returns-then-level-n
returns-then-level-n t c =
    let a = c.args in
    within-past a.level (state_of a.w.now) a.e c.if-e-lt2.false c.read-n.result c.read-n.ensures a.turns c.if-level-n.true

pub returns-then-turns-eq0 : goal.returns-then-turns-eq0
returns-then-turns-eq0 t c =
    let a = c.args in
    within-spent a.level (state_of a.w.now) a.e c.if-e-lt2.false c.read-n.result c.read-n.ensures c.if-level-n.false a.turns
    c.if-turns-eq0.true

pub returns-in_err-r : goal.returns-in_err-r
returns-in_err-r t c =
    let a = c.args in
    full-left c.look_up.new.w c.from_residual.result (exists_within a.level a.turns (state_of a.w.now) a.e) c.from_residual.ensures.0
    (within-full a.level (state_of a.w.now) a.e c.if-e-lt2.false c.read-n.result c.read-n.ensures c.if-level-n.false a.turns (a.turns - 1)
    (omega (arith, c.if-turns-eq0.false)) (state_of c.look_up.new.w) c.in_err-r.ensures)

pub returns-in-Some : goal.returns-in-Some
returns-in-Some t c =
    let a = c.args in
    within-known a.level (state_of a.w.now) a.e c.if-e-lt2.false c.read-n.result c.read-n.ensures c.if-level-n.false a.turns (a.turns - 1)
    (omega (arith, c.if-turns-eq0.false)) (state_of c.look_up.new.w) c.in-Some.r
    (ap (λ (x : code.Option ℕ). seen c.look_up.new.w (Ok x)) (sym c.in-Some.is) ∙ c.in_ok-r.ensures)

pub returns-in_err-lo : goal.returns-in_err-lo
returns-in_err-lo t c =
    let a = c.args in
    full-left c.exists_within.new.w c.from_residual-in_err-lo.result (exists_within a.level a.turns (state_of a.w.now) a.e)
    c.from_residual-in_err-lo.ensures.0
    (within_first a.level (state_of a.w.now) a.e c.if-e-lt2.false c.read-n.result c.read-n.ensures c.if-level-n.false a.turns (a.turns - 1)
    (omega (arith, c.if-turns-eq0.false)) (state_of c.look_up.new.w)
    (ap (λ (x : code.Option ℕ). seen c.look_up.new.w (Ok x)) (sym c.in_default.is) ∙ c.in_ok-r.ensures)
    c.flip.result c.flip.ensures (state_of c.exists_within.new.w) c.in_err-lo.ensures)

pub returns-in_err-hi : goal.returns-in_err-hi
returns-in_err-hi t c =
    let a = c.args in
    full-left c.exists_within-2.new.w c.from_residual-in_err-hi.result (exists_within a.level a.turns (state_of a.w.now) a.e)
    c.from_residual-in_err-hi.ensures.0
    (within-second a.level (state_of a.w.now) a.e c.if-e-lt2.false c.read-n.result c.read-n.ensures c.if-level-n.false a.turns (a.turns - 1)
    (omega (arith, c.if-turns-eq0.false)) (state_of c.look_up.new.w)
    (ap (λ (x : code.Option ℕ). seen c.look_up.new.w (Ok x)) (sym c.in_default.is) ∙ c.in_ok-r.ensures)
    c.flip.result c.flip.ensures (state_of c.exists_within.new.w) c.in_ok-lo.lo c.in_ok-lo.ensures c.flip-2.result c.flip-2.ensures
    (state_of c.exists_within-2.new.w) c.in_err-hi.ensures)

pub returns : goal.returns
returns t c =
    let a = c.args in
    within_both a.level (state_of a.w.now) a.e c.if-e-lt2.false c.read-n.result c.read-n.ensures c.if-level-n.false a.turns (a.turns - 1)
    (omega (arith, c.if-turns-eq0.false)) (state_of c.look_up.new.w)
    (ap (λ (x : code.Option ℕ). seen c.look_up.new.w (Ok x)) (sym c.in_default.is) ∙ c.in_ok-r.ensures)
    c.flip.result c.flip.ensures (state_of c.exists_within.new.w) c.in_ok-lo.lo c.in_ok-lo.ensures c.flip-2.result c.flip-2.ensures
    (state_of c.exists_within-2.new.w) c.in_ok-hi.hi c.in_ok-hi.ensures _ c.finish.ensures
