-- `binary::read_gate` meets its contract. Assumes nothing.
use Rattle.std.proofs.Common.{refl}
use Rattle.binary.proofs.Differences.{none_first, not-below, below-zero, none-second, below-zero-2, gate-read}
use Rattle.binary.proofs.read_gate.Goals as goal

pub returns-in_err-first : goal.returns-in_err-first
returns-in_err-first c =
    let a = c.args in
    rw c.from_residual.ensures (none_first a.s.now a.at a.lit c.in_err-first.ensures.meaning, refl)

pub returns-then-first-lt1 : goal.returns-then-first-lt1
returns-then-first-lt1 c =
    let a = c.args in
    (not-below a.s.now a.at a.lit _ _ c.in_ok-first.ensures.meaning c.if-first-lt1.true, refl)

pub returns-then-lit-first : goal.returns-then-lit-first
returns-then-lit-first c =
    let a = c.args in
    (below-zero a.s.now a.at a.lit _ _ c.in_ok-first.ensures.meaning c.if-first-lt1.false c.if-lit-first.true, refl)

pub returns-in_err-second : goal.returns-in_err-second
returns-in_err-second c =
    let a = c.args in
    rw c.from_residual-in_err-second.ensures (
      none-second a.s.now a.at a.lit _ _ c.in_ok-first.ensures.meaning c.if-first-lt1.false c.if-lit-first.false
          c.in_err-second.ensures.meaning,
      refl,
    )

pub returns-then-left-second : goal.returns-then-left-second
returns-then-left-second c =
    let a = c.args in (
      below-zero-2 a.s.now a.at a.lit _ _ c.in_ok-first.ensures.meaning c.if-first-lt1.false c.if-lit-first.false _ _
          c.in_ok-second.ensures.meaning c.if-left-second.true,
      refl,
    )

pub returns : goal.returns
returns c =
    let a = c.args in
    gate-read a.s.now a.at a.lit _ _ c.in_ok-first.ensures.meaning c.if-first-lt1.false c.if-lit-first.false _ _
    c.in_ok-second.ensures.meaning c.if-left-second.false c.in_ok-second.ensures.place.1 _ _
