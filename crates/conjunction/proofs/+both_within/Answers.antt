-- The proof of the cycle of calls {both_within}. The measure is the number of turns. Assumes nothing.
use Rattle.std.specs.Prelude as code
use Rattle.std.specs.Prelude.{Ok}
use Rattle.std.proofs.Common.{◌≡◌, sym, ap, ◌∙◌, ℕ, ◌-◌, arith}
use Rattle.diagrams.specs.States.{state_of, seen}
use Rattle.diagrams.proofs.Follow.{full-left}
use Rattle.conjunction.specs.Conjunction.{both_within}
use Rattle.conjunction.proofs.Follow.{within_same, within-known, within-full, within-spent, within_low, within-high, within_both}
use Rattle.conjunction.proofs.+both_within.Goals as goal

pub returns-then-a-b : goal.returns-then-a-b
returns-then-a-b t c = let a = c.args in within_same a.turns (state_of a.w.now) a.a a.b c.if-a-b.true

pub returns-in_err-e : goal.returns-in_err-e
returns-in_err-e t c =
    let a = c.args in
    full-left c.known.new.w c.from_residual.result (both_within a.turns (state_of a.w.now) a.a a.b) c.from_residual.ensures.0
    (within-full (state_of a.w.now) a.a a.b c.smaller-f.result c.larger-g.result c.if-a-b.false c.smaller-f.ensures c.larger-g.ensures a.turns
    (state_of c.known.new.w) c.in_err-e.ensures)

pub returns-in-Some : goal.returns-in-Some
returns-in-Some t c =
    let a = c.args in
    within-known (state_of a.w.now) a.a a.b c.smaller-f.result c.larger-g.result c.if-a-b.false c.smaller-f.ensures c.larger-g.ensures a.turns
    (state_of c.known.new.w) c.in-Some.e
    (ap (λ (x : code.Option ℕ). seen c.known.new.w (Ok x)) (sym c.in-Some.is) ∙ c.in_ok-e.ensures)

pub returns-then-turns-eq0 : goal.returns-then-turns-eq0
returns-then-turns-eq0 t c =
    let a = c.args in
    within-spent (state_of a.w.now) a.a a.b c.smaller-f.result c.larger-g.result c.if-a-b.false c.smaller-f.ensures c.larger-g.ensures
    (state_of c.known.new.w) (ap (λ (x : code.Option ℕ). seen c.known.new.w (Ok x)) (sym c.in_default.is) ∙ c.in_ok-e.ensures) a.turns
    c.if-turns-eq0.true

pub returns-in_err-lo : goal.returns-in_err-lo
returns-in_err-lo t c =
    let a = c.args in
    full-left c.both_within.new.w c.from_residual-in_err-lo.result (both_within a.turns (state_of a.w.now) a.a a.b)
    c.from_residual-in_err-lo.ensures.0
    (within_low (state_of a.w.now) a.a a.b c.smaller-f.result c.larger-g.result c.if-a-b.false c.smaller-f.ensures c.larger-g.ensures
    (state_of c.known.new.w) (ap (λ (x : code.Option ℕ). seen c.known.new.w (Ok x)) (sym c.in_default.is) ∙ c.in_ok-e.ensures) a.turns
    (a.turns - 1) (omega (arith, c.if-turns-eq0.false)) c.cofactors-x.result c.cofactors-x.ensures (state_of c.both_within.new.w)
    c.in_err-lo.ensures)

pub returns-in_err-hi : goal.returns-in_err-hi
returns-in_err-hi t c =
    let a = c.args in
    full-left c.both_within-2.new.w c.from_residual-in_err-hi.result (both_within a.turns (state_of a.w.now) a.a a.b)
    c.from_residual-in_err-hi.ensures.0
    (within-high (state_of a.w.now) a.a a.b c.smaller-f.result c.larger-g.result c.if-a-b.false c.smaller-f.ensures c.larger-g.ensures
    (state_of c.known.new.w) (ap (λ (x : code.Option ℕ). seen c.known.new.w (Ok x)) (sym c.in_default.is) ∙ c.in_ok-e.ensures) a.turns
    (a.turns - 1) (omega (arith, c.if-turns-eq0.false)) c.cofactors-x.result c.cofactors-x.ensures (state_of c.both_within.new.w)
    c.in_ok-lo.lo c.in_ok-lo.ensures (state_of c.both_within-2.new.w) c.in_err-hi.ensures)

pub returns : goal.returns
returns t c =
    let a = c.args in
    within_both (state_of a.w.now) a.a a.b c.smaller-f.result c.larger-g.result c.if-a-b.false c.smaller-f.ensures c.larger-g.ensures
    (state_of c.known.new.w) (ap (λ (x : code.Option ℕ). seen c.known.new.w (Ok x)) (sym c.in_default.is) ∙ c.in_ok-e.ensures) a.turns
    (a.turns - 1) (omega (arith, c.if-turns-eq0.false)) c.cofactors-x.result c.cofactors-x.ensures (state_of c.both_within.new.w)
    c.in_ok-lo.lo c.in_ok-lo.ensures (state_of c.both_within-2.new.w) c.in_ok-hi.hi _ c.in_ok-hi.ensures c.finish.ensures
