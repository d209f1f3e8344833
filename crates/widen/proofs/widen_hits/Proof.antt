-- `widen::widen_hits` meets its contract. Assumes nothing.
use mathlib.Core.Path.{◌≡◌, sym, ap, ◌∙◌}
use mathlib.Core.Bool.{Bool, true}
use mathlib.Core.List.{List}
use Prim.Native.Nat.{ℕ, ◌≤◌, ◌<◌}
use native.Mathlib.Omega.{arith}
use borrow.Author.Rules.{rules}
use borrow.Author.Tests.{not-true, not-false}
use lib.ListN.{length, get_or, length-replicate}
use Rattle.aiger.proofs.Tests.{T_true}
use Rattle.layout.specs.Words.{circuit_in}
use Rattle.frames.proofs.Facts.{ready_with}
use Rattle.completions.specs.Either.{all_pass, shows}
use Rattle.completions.proofs.Widening.{widened-not, widened-steps}
use Rattle.pinned_runs.specs.Obeys.{pinned_shows}
use Rattle.replay.proofs.Under.{rows_fit, inputs-few}
use Rattle.widen.proofs.Pins.{stays-apart, all-agree}
use Rattle.widen.proofs.widen_hits.Statement.{statement}
use Rattle.widen.proofs.widen_hits.Tie as tie

rows-of-requires : tie.Need-rows_of-rows-requires
rows-of-requires c κs = rows_fit c.requires.ready c.requires.fits

-- after the rows: the entry, the pins and the test of completions
module _ (r : tie.After-rows_of-rows) where
  abbrev S : tie.Start
  S = r.before.before.before.before.before.before.before

  abbrev q : ℕ → ℕ
  q i = get_or S.args.own.now i 2

  abbrev w : List ℕ
  w = S.args.body.now

  abbrev p : List ℕ → Bool
  p = pinned_shows (circuit_in S.args.m.now) q S.args.w.q.bad

agree-requires : tie.Need-agree-requires
agree-requires c κs =
    inputs-few (S c).requires.ready (S c).requires.fits (q c) c.rows_of-rows.result c.rows_of-rows.ensures

returns : tie.Need-returns-then-not-agree
returns c =
    stays-apart (S c.before.before).requires.ready (S c.before.before).requires.fits (q c.before.before) c.rows_of-rows.result c.rows_of-rows.ensures c.agree.result c.agree.ensures
    c.if-not-agree.true

-- where all bytes agree the plain test is the test under pins
agreed : (e : tie.Else-not-agree) → (all_pass (p e.before.before) (w e.before.before) ≡ all_pass
    (shows (circuit_in (S e.before.before).args.m.now) (S e.before.before).args.w.q.bad) (w e.before.before))
agreed e =
    all-agree (S e.before.before).requires.ready (S e.before.before).requires.fits (q e.before.before) e.rows_of-rows.result e.rows_of-rows.ensures e.agree.result e.agree.ensures
    e.if-not-agree.false

every-hit-requires : tie.Need-every_hit-requires
every-hit-requires c κs =
    (c.requires, search rules)

-- the words that the first test leaves
module _ (h : tie.After-every_hit) where
  values-long : length h.every_hit.new.values ≡ 4097
  values-long = h.every_hit.auto.values ∙ length-replicate {A = ℕ} 4097 0

  state-long : length h.every_hit.new.state ≡ 1024
  state-long = h.every_hit.auto.state ∙ length-replicate {A = ℕ} 1024 0

returns-2 : tie.Need-returns-then-not-every_hit
returns-2 c =
    sym (widened-not (p c.before.before.before.before.before.before.before.before) (w c.before.before.before.before.before.before.before.before)
    (agreed c.before.before.before.before.before.before ∙ sym c.every_hit.ensures ∙ c.if-not-every_hit.true))

slice-aggregate-widen-body : tie.Need-slice_bounds-widen_body-end
slice-aggregate-widen-body c = sym (values-long c.before.before.before.before.before)

slice-aggregate-widen-body-2 : tie.Need-slice_bounds-widen_body-end-2
slice-aggregate-widen-body-2 c = sym (state-long c.before.before.before.before.before.before)

-- where every completion hits, all of them pass
all-pass : (e : tie.Else-not-every_hit)
    → (all_pass (p e.before.before.before.before.before.before.before.before) (w e.before.before.before.before.before.before.before.before) ≡ true)
all-pass e =
    agreed e.before.before.before.before.before.before ∙ sym e.every_hit.ensures ∙ e.if-not-every_hit.false

widen-body-requires : tie.Need-widen_body-requires
widen-body-requires c κs =
    let P = c.requires in (
      record { ready = ready_with P.ready (omega (arith, values-long c.before.before.before.before.before.before, P.ready.room)); bad = P.bad; fits = P.fits },
      (omega (arith, state-long c.before.before.before.before.before.before), T_true (all-pass c.before.before.before)),
    )

returns-3 : tie.Need-returns
returns-3 c =
    c.widen_body.ensures ∙ sym (widened-steps (p c.before.before.before.before.before.before.before.before.before.before.before.before.before.before.before.before) (w c.before.before.before.before.before.before.before.before.before.before.before.before.before.before.before.before) (all-pass c.before.before.before.before.before.before.before.before))

pub widen_hits_spec : {M : Type 1} → statement M
widen_hits_spec =
    tie.close
    (tie.spec rows-of-requires agree-requires (λ c. search rules) returns (λ c. search rules) (λ c. search rules) every-hit-requires (λ c. search rules) returns-2 slice-aggregate-widen-body slice-aggregate-widen-body-2 widen-body-requires (λ c. search rules) returns-3)
