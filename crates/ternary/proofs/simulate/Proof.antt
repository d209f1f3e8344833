-- `ternary::simulate` meets its contract. The loop's invariant: the entries are those after frame u - 1,
-- and every constraint is sure in the frames before it. The measure is how many frames are left. Assumes nothing.
use mathlib.Core.Path.{◌≡◌, refl, sym, ap, ap₂, ◌∙◌, subst}
use mathlib.Core.Bool.{Bool, true, false}
use mathlib.Core.List.{List}
use Prim.Native.Nat.{ℕ, suc, ◌+◌, ◌-◌, ◌*◌, ◌≤◌, ◌<◌}
use native.Mathlib.Omega.{arith}
use borrow.Author.Tests.{not-true, not-false}
use lib.ListN.{length, get_or}
use Rattle.aiger.specs.Lists.{every_below}
use Rattle.layout.specs.Words.{circuit_in}
use Rattle.frames.proofs.Facts.{latches-are}
use Rattle.frames.proofs.Places.{inputs_are}
use Rattle.blocks.proofs.Runs.{row_fits, row_next}
use Rattle.ternary.specs.Entries.{row_at, entries_at, sure, sure_below, sees_hit}
use Rattle.ternary.proofs.Entries.{every_more}
use Rattle.ternary.proofs.Frames.{entries_next, sees-start, sees-frame, sees-last}
use borrow.Author.Rules.{rules}
use Rattle.ternary.proofs.simulate.Statement.{statement}
use Rattle.ternary.proofs.simulate.Tie as tie

abbrev invariant-loop : tie.invariant-loop-u
invariant-loop m layout order q body can₀ state₀ width frames at₀ u₀ can state at u =
    (1 ≤ u) × (u ≤ frames) × (at ≡ layout.l + 1 + (u - 1) * (layout.i + 1)) × (length can ≡ length can₀) × (length state ≡ length state₀)
    × (can ≡ entries_at (length can₀) (circuit_in m) order body (u - 1))
    × (every_below (u - 1) (λ t. sure_below (circuit_in m) (entries_at (length can₀) (circuit_in m) order body t)) ≡ true)

abbrev decreases-loop : tie.decreases-loop-u
decreases-loop m layout order q body can₀ state₀ width frames at₀ u₀ can state at u = frames - u

-- row k lies within the body
row_inside : (s : tie.Start invariant-loop decreases-loop) (k : ℕ) → k < s.args.q.frames
    → s.args.layout.l + 1 + k * (s.args.layout.i + 1) + (s.args.layout.i + 1) ≤ length s.args.body.now
row_inside s k h =
    let R = s.requires.0 in
    let F = s.requires.4 in
    let n = s.args.q.frames in
    let C = circuit_in s.args.m.now in
    let w : ℕ = s.args.layout.i + 1 in
    let e : s.args.layout.l + 1 + n * w ≡ length C.latches + 1 + n * (length C.inputs + 1) =
    ap₂ (λ (a b : ℕ). a + 1 + n * (b + 1)) (latches-are R) (inputs_are R.held R.layout_of) in
    omega (arith, F.inside, row_fits n k w h)

-- the entry, from the loop's head
abbrev start : tie.At-loop-u invariant-loop decreases-loop → tie.Start invariant-loop decreases-loop
start l = l.before.before.before.before.before.before.before.before.before.before.before.before.before.before

-- in a turn: the next row
module _ (n : tie.In-loop-u invariant-loop decreases-loop) where
  abbrev l : tie.At-loop-u invariant-loop decreases-loop
  l = n.before

  abbrev S : tie.Start invariant-loop decreases-loop
  S = start l

  next-at : l.loop-u.at + (S.args.layout.i + 1) ≡ S.args.layout.l + 1 + l.loop-u.u * (S.args.layout.i + 1)
  next-at =
      let w : ℕ = S.args.layout.i + 1 in
      let e : l.loop-u.u - 1 + 1 ≡ l.loop-u.u = omega (arith, l.loop-u.invariant.0) in
      omega (arith, l.loop-u.invariant.2, row_next (l.loop-u.u - 1) w, ap (λ (k : ℕ). k * w) e)

  next-inside : l.loop-u.at + (S.args.layout.i + 1) + (S.args.layout.i + 1) ≤ length S.args.body.now
  next-inside = omega (arith, next-at, row_inside S l.loop-u.u (omega (arith, n.loop-u-test.true)))

  next_row : l.loop-u.at + (S.args.layout.i + 1) ≡ row_at (circuit_in S.args.m.now) (suc (l.loop-u.u - 1))
  next_row =
      let R = S.requires.0 in
      let o : l.loop-u.u ≡ suc (l.loop-u.u - 1) = omega (arith, l.loop-u.invariant.0) in
      next-at ∙ ap (λ (k : ℕ). S.args.layout.l + 1 + k * (S.args.layout.i + 1)) o
      ∙ ap₂ (λ (a b : ℕ). a + 1 + suc (l.loop-u.u - 1) * (b + 1)) (latches-are R) (inputs_are R.held R.layout_of)

-- what the entries are at the loop's head, for as many as there were at the entry
module _ (l : tie.At-loop-u invariant-loop decreases-loop) where
  size : length l.first_frame.new.can ≡ length (start l).args.can.now
  size = l.first_frame.auto.can

  room : 8194 ≤ length l.loop-u.can
  room = omega (arith, l.loop-u.invariant.3, size, (start l).requires.2)

add-width : tie.Need-overflow_add-width invariant-loop decreases-loop
add-width c = omega (arith, row_inside c.before.before.before.before.before.before 0 c.requires.4.some-frame)

starts-agree-requires : tie.Need-starts_agree-requires invariant-loop decreases-loop
starts-agree-requires c κs =
    (c.requires.0, omega (arith, row_inside c.before.before.before.before.before.before 0 c.requires.4.some-frame))

returns : tie.Need-returns-then-not-starts_agree invariant-loop decreases-loop
returns c =
    let a = c.args in
    sees-start (length a.can.now) (circuit_in a.m.now) a.order.now a.q.bad a.q.frames a.body.now
    (sym c.starts_agree.ensures ∙ c.if-not-starts_agree.true)

add_at : tie.Need-overflow_add-at invariant-loop decreases-loop
add_at c =
    omega (arith, row_inside c.before.before.before.before.before.before.before.before.before 0 c.requires.4.some-frame)

first-frame-requires : tie.Need-first_frame-requires invariant-loop decreases-loop
first-frame-requires c κs =
    (c.requires.0, c.requires.2, omega (arith, row_inside c.before.before.before.before.before.before.before.before.before.before 0 c.requires.4.some-frame))

loop-holds : tie.Need-loop-u-init invariant-loop decreases-loop
loop-holds c =
    let a = c.args in
    let n = sym c.first_frame.auto.can in (
      omega arith,
      c.requires.4.some-frame,
      omega arith,
      refl,
      refl,
      c.first_frame.ensures ∙ ap (λ (z : ℕ). entries_at z (circuit_in a.m.now) a.order.now a.body.now 0) n,
      refl,
    )

surely-allowed-requires : tie.Need-surely_allowed-requires invariant-loop decreases-loop
surely-allowed-requires c κs =
    (c.requires.0, room (c.before))

same_length : tie.Need-shape_of-can-then-not-surely_allowed invariant-loop decreases-loop
same_length c = c.loop-u.invariant.3 ∙ size c.before.before.before

same-length-2 : tie.Need-shape_of-state-then-not-surely_allowed invariant-loop decreases-loop
same-length-2 c = c.loop-u.invariant.4

returns-2 : tie.Need-returns-then-not-surely_allowed invariant-loop decreases-loop
returns-2 c =
    let a = c.args in
    let C = circuit_in a.m.now in
    let n = length c.first_frame.new.can in
    sees-frame n C a.order.now a.q.bad a.q.frames a.body.now (c.loop-u.u - 1) (omega (arith, c.loop-u-test.true))
    (ap (sure_below C) (sym c.loop-u.invariant.5) ∙ sym c.surely_allowed.ensures ∙ c.if-not-surely_allowed.true)
    ∙ ap (λ (z : ℕ). sees_hit z C a.order.now a.q.bad a.q.frames a.body.now) (size (c.before.before.before))

add-at-2 : tie.Need-overflow_add-at-in-loop-u invariant-loop decreases-loop
add-at-2 c =
    omega (arith, next-inside (c.before.before), c.well_formed)

next-frame-requires : tie.Need-next_frame-requires invariant-loop decreases-loop
next-frame-requires c κs =
    (c.requires.0, room (c.before.before.before.before.before), omega (arith, c.loop-u.invariant.4, c.requires.3), omega (arith, next-inside (c.before.before.before.before)))

add-u : tie.Need-overflow_add-u invariant-loop decreases-loop
add-u c =
    omega (arith, c.loop-u-test.true, c.well_formed)

loop-less : tie.Need-loop-u-smaller invariant-loop decreases-loop
loop-less c = omega (arith, c.loop-u-test.true)

loop-again : tie.Need-loop-u-preserved invariant-loop decreases-loop
loop-again c =
    let a = c.args in
    let C = circuit_in a.m.now in
    let count = length c.first_frame.new.can in
    let v : ℕ = c.loop-u.u in
    let e : suc (v - 1) ≡ v + 1 - 1 = omega (arith, c.loop-u.invariant.0) in
    let z : v + 1 - 1 ≡ v = omega arith in
    let y : v - 1 + 1 ≡ v + 1 - 1 = omega (arith, c.loop-u.invariant.0) in
    let entries = entries_at count C a.order.now a.body.now in (
      omega arith,
      omega (arith, c.loop-u-test.true),
      next-at c.before.before.before.before.before.before.before.before.before ∙ ap (λ (j : ℕ). a.layout.l + 1 + j * (a.layout.i + 1)) (sym z),
      c.next_frame.auto.can ∙ c.loop-u.invariant.3,
      c.next_frame.auto.state ∙ c.loop-u.invariant.4,
      entries_next count C a.order.now a.body.now (v - 1) (c.loop-u.at + (a.layout.i + 1)) c.loop-u.can c.loop-u.invariant.5 (next_row c.before.before.before.before.before.before.before.before.before)
          c.next_frame.ensures.0
          ∙ ap entries e,
      ap (λ (t : ℕ). every_below t (λ u. sure_below C (entries u))) (sym y)
          ∙ every_more (λ u. sure_below C (entries u)) (v - 1) c.loop-u.invariant.6
          (ap (sure_below C) (sym c.loop-u.invariant.5) ∙ sym c.surely_allowed.ensures ∙ c.if-not-surely_allowed.false),
    )

surely-allowed-requires-2 : tie.Need-surely_allowed-requires-2 invariant-loop decreases-loop
surely-allowed-requires-2 c κs =
    (c.requires.0, room (c.before))

same-length-3 : tie.Need-shape_of-can-then-not-surely_allowed-2 invariant-loop decreases-loop
same-length-3 c = c.loop-u.invariant.3 ∙ size c.before.before.before

same-length-4 : tie.Need-shape_of-state-then-not-surely_allowed-2 invariant-loop decreases-loop
same-length-4 c = c.loop-u.invariant.4

returns-3 : tie.Need-returns-then-not-surely_allowed-2 invariant-loop decreases-loop
returns-3 c =
    let a = c.args in
    let C = circuit_in a.m.now in
    let n = length c.first_frame.new.can in
    sees-frame n C a.order.now a.q.bad a.q.frames a.body.now (c.loop-u.u - 1) (omega (arith, c.loop-u.invariant.0, c.loop-u.invariant.1))
    (ap (sure_below C) (sym c.loop-u.invariant.5) ∙ sym c.surely_allowed-2.ensures ∙ c.if-not-surely_allowed-2.true)
    ∙ ap (λ (z : ℕ). sees_hit z C a.order.now a.q.bad a.q.frames a.body.now) (size (c.before.before.before))

surely-bad-requires : tie.Need-surely_bad-requires invariant-loop decreases-loop
surely-bad-requires c κs =
    (c.requires.0, c.requires.1, room (c.before.before.before))

same-length-5 : tie.Need-shape_of-can invariant-loop decreases-loop
same-length-5 c =
    c.loop-u.invariant.3 ∙ size (c.before.before.before.before)

same-length-6 : tie.Need-shape_of-state invariant-loop decreases-loop
same-length-6 c = c.loop-u.invariant.4

returns-4 : tie.Need-returns invariant-loop decreases-loop
returns-4 c =
    let a = c.args in
    let C = circuit_in a.m.now in
    let n = length c.first_frame.new.can in
    let entries = entries_at n C a.order.now a.body.now in
    let last : c.loop-u.u - 1 ≡ a.q.frames - 1 = omega (arith, c.loop-u-test.false, c.loop-u.invariant.1) in
    let all : c.loop-u.u - 1 + 1 ≡ a.q.frames = omega (arith, c.loop-u-test.false, c.loop-u.invariant.0, c.loop-u.invariant.1) in
    let told = c.loop-u.invariant.5 ∙ ap entries last in
    sees-last n C a.order.now a.q.bad a.q.frames a.body.now
    (sym c.starts_agree.ensures ∙ c.if-not-starts_agree.false)
    (ap (λ (t : ℕ). every_below t (λ u. sure_below C (entries u))) (sym all)
    ∙ every_more (λ u. sure_below C (entries u)) (c.loop-u.u - 1) c.loop-u.invariant.6
    (ap (sure_below C) (sym c.loop-u.invariant.5) ∙ sym c.surely_allowed-2.ensures ∙ c.if-not-surely_allowed-2.false))
    (c.surely_bad.ensures ∙ ap (λ (can : List ℕ). sure can (get_or C.bads a.q.bad 0)) told)
    ∙ ap (λ (z : ℕ). sees_hit z C a.order.now a.q.bad a.q.frames a.body.now) (size (c.before.before.before.before))

pub simulate_spec : {M : Type 1} → statement M
simulate_spec =
    tie.close
    (tie.spec invariant-loop decreases-loop add-width starts-agree-requires returns add_at first-frame-requires loop-holds surely-allowed-requires same_length same-length-2 returns-2 add-at-2 next-frame-requires add-u loop-less loop-again surely-allowed-requires-2 same-length-3 same-length-4 returns-3 surely-bad-requires same-length-5 same-length-6 returns-4)
