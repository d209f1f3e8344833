-- `widen::widen_body` meets its contract. The loop's invariant: widening the bytes below i gives what widening all gives where the loop
-- begins. The measure is i. Assumes nothing.
use mathlib.Core.Path.{◌≡◌, refl, sym, ap, ◌∙◌, subst}
use mathlib.Core.Bool.{Bool}
use mathlib.Core.List.{List}
use Prim.Native.Nat.{ℕ, ◌-◌, ◌≤◌, ◌<◌}
use native.Mathlib.Omega.{arith}
use lib.Dec.{T}
use lib.ListN.{length, get_or}
use Rattle.completions.specs.Either.{eithers, all_pass, shows, widen_at, widen_below}
use Rattle.pinned_runs.specs.Obeys.{pinned_shows}
use Rattle.layout.specs.Words.{circuit_in}
use Rattle.frames.proofs.Facts.{ready_with}
use Rattle.completions.proofs.Widening.{step}
use Rattle.blocks.specs.Runs.{Fits}
use Rattle.widen.proofs.Steps.{fits_widen, below_next, below_none}
use Rattle.replay.proofs.Under.{rows_fit, inputs-few}
use Rattle.widen.proofs.Pins.{at_held, at-free, all_plain}
use Rattle.widen.proofs.widen_body.Statement.{statement}
use Rattle.widen.proofs.widen_body.Tie as tie

abbrev invariant-loop : tie.invariant-loop-i
invariant-loop m order own body₀ values₀ state₀ layout bad frames rows eithers₀ i₀ body values state eithers i =
    (i ≤ length body) × (length body ≡ length body₀) × (length values ≡ length values₀) × (length state ≡ length state₀)
    × (widen_below (pinned_shows (circuit_in m) (λ j. get_or own j 2) bad) body i
    ≡ widen_below (pinned_shows (circuit_in m) (λ j. get_or own j 2) bad) body₀ (length body₀))
    × Fits (circuit_in m) bad frames eithers body × T (all_pass (pinned_shows (circuit_in m) (λ j. get_or own j 2) bad) body)

abbrev decreases-loop : tie.decreases-loop-i
decreases-loop m order own body₀ values₀ state₀ layout bad frames rows eithers₀ i₀ body values state eithers i = i

-- the entry, from the rows
abbrev start : tie.After-rows_of-rows invariant-loop decreases-loop → tie.Start invariant-loop decreases-loop
start r = r.before.before.before.before.before.before.before.before.before

-- the pins, and the test of completions
abbrev q : tie.After-rows_of-rows invariant-loop decreases-loop → ℕ → ℕ
q r j = get_or (start r).args.own.now j 2

abbrev p : tie.After-rows_of-rows invariant-loop decreases-loop → List ℕ → Bool
p r = pinned_shows (circuit_in (start r).args.m.now) (q r) (start r).args.w.q.bad

rows-of-requires : tie.Need-rows_of-rows-requires invariant-loop decreases-loop
rows-of-requires c κs =
    rows_fit c.requires.0.ready c.requires.0.fits

loop-holds : tie.Need-loop-i-init invariant-loop decreases-loop
loop-holds c = let S = start c in (omega arith, refl, refl, refl, refl, S.requires.0.fits, S.requires.1.1)

sub-i : tie.Need-overflow_sub-i invariant-loop decreases-loop
sub-i c = omega (arith, c.loop-i-test.true)

pin-of-requires : tie.Need-pin_of-requires invariant-loop decreases-loop
pin-of-requires c κs =
    let S = start c.before.before in
    inputs-few S.requires.0.ready S.requires.0.fits (q c.before.before) c.rows_of-rows.result c.rows_of-rows.ensures

-- a byte that is free
module _ (t : tie.Then-pin_of-gt1 invariant-loop decreases-loop) where
  abbrev n : tie.In-loop-i invariant-loop decreases-loop
  n = t.before.before

  abbrev l : tie.At-loop-i invariant-loop decreases-loop
  l = n.before

  abbrev r : tie.After-rows_of-rows invariant-loop decreases-loop
  r = l.before

  free : (let S = start r in let j = l.loop-i.i - 1 in widen_at (p r) l.loop-i.body j ≡ widen_at
      (shows (circuit_in S.args.m.now) S.args.w.q.bad) l.loop-i.body j)
  free =
      let S = start r in
      at-free S.requires.0.ready l.loop-i.invariant.5 (q r) r.rows_of-rows.result r.rows_of-rows.ensures l.loop-i.invariant.6 (l.loop-i.i - 1)
      t.pin_of.result t.pin_of.ensures t.if-pin_of-gt1.true

widen-at-requires : tie.Need-widen_at-eithers-requires invariant-loop decreases-loop
widen-at-requires c κs =
    let N = n c.before.before.before in
    let L = l c.before.before.before in
    let S = start (r c.before.before.before) in
    let P = S.requires.0 in (
      record { ready = ready_with P.ready (omega (arith, L.loop-i.invariant.2, P.ready.room)); bad = P.bad; fits = L.loop-i.invariant.5 },
      (
        (omega (arith, L.loop-i.invariant.3, S.requires.1.0), omega (arith, N.loop-i-test.true, L.loop-i.invariant.0)),
        all_plain P.ready L.loop-i.invariant.5 (q (r c.before.before.before)) (r c.before.before.before).rows_of-rows.result (r c.before.before.before).rows_of-rows.ensures L.loop-i.invariant.6,
      ),
    )

loop-less : tie.Need-loop-i-smaller-then-pin_of-gt1 invariant-loop decreases-loop
loop-less c =
    omega (arith, (n c.before.before.before.before.before.before.before.before.before.before).loop-i-test.true)

loop-again : tie.Need-loop-i-preserved-then-pin_of-gt1 invariant-loop decreases-loop
loop-again c =
    let L = l c.before.before.before.before.before.before.before.before.before.before in
    let a = (start (r c.before.before.before.before.before.before.before.before.before.before)).args in
    let P : List ℕ → Bool = p (r c.before.before.before.before.before.before.before.before.before.before) in
    let w : List ℕ = L.loop-i.body in
    let j : ℕ = L.loop-i.i - 1 in
    let z : c.widen_at-eithers.new.body ≡ widen_at P w j = c.widen_at-eithers.ensures.0 ∙ sym (free c.before.before.before.before.before.before.before.before.before.before) in
    let F : Fits (circuit_in a.m.now) a.w.q.bad a.w.q.frames (eithers (widen_at P w j)) (widen_at P w j) = fits_widen P j
    L.loop-i.invariant.5 in (
      omega (arith, c.widen_at-eithers.auto.body, L.loop-i.invariant.0),
      c.widen_at-eithers.auto.body ∙ L.loop-i.invariant.1,
      c.widen_at-eithers.auto.values ∙ L.loop-i.invariant.2,
      c.widen_at-eithers.auto.state ∙ L.loop-i.invariant.3,
      ap (λ (x : List ℕ). widen_below P x j) z ∙ below_next P w L.loop-i.i (omega (arith, (n c.before.before.before.before.before.before.before.before.before.before).loop-i-test.true)) ∙ L.loop-i.invariant.4,
      subst (λ (x : ℕ). Fits (circuit_in a.m.now) a.w.q.bad a.w.q.frames x c.widen_at-eithers.new.body) (sym c.widen_at-eithers.ensures.1)
          (subst (λ (x : List ℕ). Fits (circuit_in a.m.now) a.w.q.bad a.w.q.frames (eithers x) x) (sym z) F),
      subst (λ (x : List ℕ). T (all_pass P x)) (sym z) ((step P w j).passes L.loop-i.invariant.6),
    )

loop-less-2 : tie.Need-loop-i-smaller invariant-loop decreases-loop
loop-less-2 c = omega (arith, c.loop-i-test.true)

-- a byte that is held
loop-again-2 : tie.Need-loop-i-preserved invariant-loop decreases-loop
loop-again-2 c =
    let S = start c.before.before.before.before in
    let j : ℕ = c.loop-i.i - 1 in
    let z : widen_at (p c.before.before.before.before) c.loop-i.body j ≡ c.loop-i.body =
    at_held S.requires.0.ready c.loop-i.invariant.5 (q c.before.before.before.before) c.rows_of-rows.result c.rows_of-rows.ensures c.loop-i.invariant.6 j c.pin_of.result
    c.pin_of.ensures
    (omega (arith, c.if-pin_of-gt1.false)) in (
      omega (arith, c.loop-i.invariant.0),
      c.loop-i.invariant.1,
      c.loop-i.invariant.2,
      c.loop-i.invariant.3,
      ap (λ (x : List ℕ). widen_below (p c.before.before.before.before) x j) (sym z) ∙ below_next (p c.before.before.before.before) c.loop-i.body c.loop-i.i
          (omega (arith, c.loop-i-test.true)) ∙ c.loop-i.invariant.4,
      c.loop-i.invariant.5,
      c.loop-i.invariant.6,
    )

same_length : tie.Need-shape_of-body invariant-loop decreases-loop
same_length c = c.loop-i.invariant.1

same-length-2 : tie.Need-shape_of-values invariant-loop decreases-loop
same-length-2 c = c.loop-i.invariant.2

same-length-3 : tie.Need-shape_of-state invariant-loop decreases-loop
same-length-3 c = c.loop-i.invariant.3

returns : tie.Need-returns invariant-loop decreases-loop
returns c =
    sym (below_none (p c.before.before) c.loop-i.body c.loop-i.i (omega (arith, c.loop-i-test.false))) ∙ c.loop-i.invariant.4

pub widen_body_spec : {M : Type 1} → statement M
widen_body_spec =
    tie.close
    (tie.spec invariant-loop decreases-loop rows-of-requires loop-holds sub-i pin-of-requires widen-at-requires loop-less loop-again loop-less-2 loop-again-2 same_length same-length-2 same-length-3 returns)
