-- So far it was a session; the measure is how many requests are left. Assumes nothing.
use Rattle.std.proofs.Common.{◌≡◌, ℕ, length, sym, refl, ap, ◌∙◌, arith, rules}
use Rattle.call_forms.specs.History.{State}
use Rattle.panel_session.specs.Session.{SessionOf, Totals}
use Rattle.panel_serving.specs.Serving.{Sized, state_of, totals_of}
use Rattle.panel_serving.specs.declared.turning.Resident.{Resident}
use Rattle.panel_serving.proofs.Exchanges.{turn_more, begun-session, begun_sized, state-same, sized_same, left, left_less}
use Rattle.panel_serving.proofs.session.Statement.{statement}
use Rattle.panel_serving.proofs.session.Tie as tie

abbrev invariant-loop : tie.invariant-loop-rt
invariant-loop rt work₀ out₀ t₀ work out t =
    (length work ≡ length work₀) × (length out ≡ length out₀) × Sized t.after
    × ((s : State) (room : ℕ) → length out₀ ≡ room → SessionOf room s (totals_of t₀.after.tally) (state_of t₀.after work₀)
    → SessionOf room s (totals_of t.after.tally) (state_of t.after work))

abbrev decreases-loop : tie.decreases-loop-rt
decreases-loop rt work₀ out₀ t₀ work out t = left t

turn-requires : tie.Need-turn-t-requires invariant-loop decreases-loop
turn-requires c κs =
    let e = c.begun.ensures in
    let n = ap (λ (x : Totals). x.requests) e.2 in
    (begun_sized e.0 e.1, c.requires, omega (arith, n))

loop-holds : tie.Need-loop-rt-init invariant-loop decreases-loop
loop-holds c = (refl, refl, c.turn-t.ensures.1.2, λ s room e x. x)

turn-requires-2 : tie.Need-turn-t-requires-in-loop-rt invariant-loop decreases-loop
turn-requires-2 c κs =
    let i = c.loop-rt.invariant in
    let k = c.turn-t.auto in
    let n = ap (λ (x : Resident). x.tally.requests) c.after_of.ensures in
    let g = c.goes_on.ensures.more c.loop-rt-test.true in
    (sized_same c.after_of.ensures i.2, omega (arith, i.1, k.out, c.requires), omega (arith, n, g.1))

loop-less : tie.Need-loop-rt-smaller invariant-loop decreases-loop
loop-less c =
    let g = c.goes_on.ensures.more c.loop-rt-test.true in
    left_less c.loop-rt.t c.turn-t-in-loop-rt.result g.0 g.1 (ap (λ (x : Resident). x.tally) c.after_of.ensures) c.turn-t-in-loop-rt.ensures.1.0

loop-again : tie.Need-loop-rt-preserved invariant-loop decreases-loop
loop-again c =
    let i = c.loop-rt.invariant in
    let k = c.turn-t-in-loop-rt.auto in
    let u = c.turn-t-in-loop-rt.ensures in
    let e = c.after_of.ensures in
    let n = ap (λ (x : Resident). totals_of x.tally) e in (
      k.work ∙ i.0,
      k.out ∙ i.1,
      u.1.2,
      λ s room l x. turn_more (i.1 ∙ l) (state-same c.loop-rt.work e (i.3 s room l x)) u.0 n u.1.0 u.1.1,
    )

returns : tie.Need-returns invariant-loop decreases-loop
returns c =
    let k = c.turn-t.auto in
    let t = c.turn-t.ensures in
    let b = c.begun.ensures in (
      c.loop-rt.invariant.3 _ _ k.out (turn_more refl (begun-session c.begun.result c.args.work.now b.0 b.1) t.0 b.2 t.1.0 t.1.1),
      c.goes_on.ensures.over c.loop-rt-test.false,
    )

pub session_spec : {M : Type 1} → statement M
session_spec =
    tie.close
    (tie.spec invariant-loop decreases-loop (λ c κs. search rules) turn-requires loop-holds (λ c κs. search rules) (λ c κs. search rules) turn-requires-2 loop-less loop-again (λ c. search rules) (λ c. search rules) returns)
