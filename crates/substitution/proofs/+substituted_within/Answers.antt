-- The proof of the cycle of calls {substituted_within}. The measure is the number of turns. Assumes nothing.
use Rattle.std.specs.Prelude as code
use Rattle.std.specs.Prelude.{Ok}
use Rattle.std.proofs.Common.{◌≡◌, sym, ap, ◌∙◌, ℕ, ◌-◌, arith}
use Rattle.diagrams.specs.States.{state_of, seen}
use Rattle.diagrams.proofs.Follow.{full-left}
use Rattle.substitution.specs.Substitution.{substituted_within}
use Rattle.substitution.proofs.Follow.{within-constant, within-spent, within-half, within-full, within-known}
use Rattle.substitution.proofs.Follow.{within_first, within-second, within_both}
use Rattle.substitution.proofs.+substituted_within.Goals as goal

pub returns-then-e-lt2 : goal.returns-then-e-lt2
returns-then-e-lt2 t c =
    let a = c.args in
    within-constant a.by.now a.tag (state_of a.w.now) a.e a.turns c.if-e-lt2.true

pub returns-then-turns-eq0 : goal.returns-then-turns-eq0
returns-then-turns-eq0 t c =
    let a = c.args in
    within-spent a.by.now a.tag (state_of a.w.now) a.e a.turns c.if-turns-eq0.true c.if-e-lt2.false

pub returns-then-x-lt2 : goal.returns-then-x-lt2
returns-then-x-lt2 t c =
    let a = c.args in
    within-half a.by.now a.tag (state_of a.w.now) a.e a.turns (a.turns - 1) (omega (arith, c.if-turns-eq0.false)) c.if-e-lt2.false
    c.read-n.result c.read-n.ensures c.edge_at-x.result c.edge_at-x.ensures c.if-x-lt2.true c.half.result c.half.ensures _ c.substituted_within.ensures

pub returns-in_err-r : goal.returns-in_err-r
returns-in_err-r t c =
    let a = c.args in
    full-left c.look_up.new.w c.from_residual.result (substituted_within a.by.now a.tag a.turns (state_of a.w.now) a.e) c.from_residual.ensures.0
    (within-full a.by.now a.tag (state_of a.w.now) a.e a.turns (a.turns - 1) (omega (arith, c.if-turns-eq0.false)) c.if-e-lt2.false
    c.read-n.result c.read-n.ensures c.edge_at-x.result c.edge_at-x.ensures c.if-x-lt2.false c.flip.result c.mark.result c.flip.ensures c.mark.ensures
    (state_of c.look_up.new.w) c.in_err-r.ensures)

pub returns-in-Some : goal.returns-in-Some
returns-in-Some t c =
    let a = c.args in
    within-known a.by.now a.tag (state_of a.w.now) a.e a.turns (a.turns - 1) (omega (arith, c.if-turns-eq0.false)) c.if-e-lt2.false
    c.read-n.result c.read-n.ensures c.edge_at-x.result c.edge_at-x.ensures c.if-x-lt2.false c.flip.result c.mark.result c.flip.ensures c.mark.ensures
    (state_of c.look_up.new.w) c.in-Some.r c.flip-in-Some.result
    (ap (λ (x : code.Option ℕ). seen c.look_up.new.w (Ok x)) (sym c.in-Some.is) ∙ c.in_ok-r.ensures)
    c.flip-in-Some.ensures

pub returns-in_err-hi : goal.returns-in_err-hi
returns-in_err-hi t c =
    let a = c.args in
    full-left c.substituted_within-2.new.w c.from_residual-in_err-hi.result (substituted_within a.by.now a.tag a.turns (state_of a.w.now) a.e) c.from_residual-in_err-hi.ensures.0
    (within_first a.by.now a.tag (state_of a.w.now) a.e a.turns (a.turns - 1) (omega (arith, c.if-turns-eq0.false)) c.if-e-lt2.false
    c.read-n.result c.read-n.ensures c.edge_at-x.result c.edge_at-x.ensures c.if-x-lt2.false c.flip.result c.mark.result c.flip.ensures c.mark.ensures
    (state_of c.look_up.new.w)
    (ap (λ (x : code.Option ℕ). seen c.look_up.new.w (Ok x)) (sym c.in_default.is) ∙ c.in_ok-r.ensures)
    (state_of c.substituted_within-2.new.w) c.in_err-hi.ensures)

pub returns-in_err-lo : goal.returns-in_err-lo
returns-in_err-lo t c =
    let a = c.args in
    full-left c.substituted_within-3.new.w c.from_residual-in_err-lo.result (substituted_within a.by.now a.tag a.turns (state_of a.w.now) a.e) c.from_residual-in_err-lo.ensures.0
    (within-second a.by.now a.tag (state_of a.w.now) a.e a.turns (a.turns - 1) (omega (arith, c.if-turns-eq0.false)) c.if-e-lt2.false
    c.read-n.result c.read-n.ensures c.edge_at-x.result c.edge_at-x.ensures c.if-x-lt2.false c.flip.result c.mark.result c.flip.ensures c.mark.ensures
    (state_of c.look_up.new.w)
    (ap (λ (x : code.Option ℕ). seen c.look_up.new.w (Ok x)) (sym c.in_default.is) ∙ c.in_ok-r.ensures)
    (state_of c.substituted_within-2.new.w) c.in_ok-hi.hi c.in_ok-hi.ensures (state_of c.substituted_within-3.new.w) c.in_err-lo.ensures)

pub returns : goal.returns
returns t c =
    let a = c.args in
    within_both a.by.now a.tag (state_of a.w.now) a.e a.turns (a.turns - 1) (omega (arith, c.if-turns-eq0.false)) c.if-e-lt2.false
    c.read-n.result c.read-n.ensures c.edge_at-x.result c.edge_at-x.ensures c.if-x-lt2.false c.flip.result c.mark.result c.flip.ensures c.mark.ensures
    (state_of c.look_up.new.w)
    (ap (λ (x : code.Option ℕ). seen c.look_up.new.w (Ok x)) (sym c.in_default.is) ∙ c.in_ok-r.ensures)
    (state_of c.substituted_within-2.new.w) c.in_ok-hi.hi c.in_ok-hi.ensures (state_of c.substituted_within-3.new.w) c.in_ok-lo.lo
    c.in_ok-lo.ensures _ c.finish_choice.ensures
