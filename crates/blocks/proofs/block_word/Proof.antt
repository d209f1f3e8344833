-- `blocks::block_word` meets its contract. The loop's invariant: the words are the values of frame u - 1 in each completion, and `left` are
-- those that start as the resets say and are allowed there. Assumes nothing.
use mathlib.Core.Path.{◌≡◌, refl, sym, ap, ap₂, ◌∙◌, subst}
use mathlib.Core.List.{List}
use Prim.Native.Nat.{ℕ, suc, ◌+◌, ◌-◌, ◌*◌, ◌≤◌, ◌<◌}
use native.Mathlib.Omega.{arith}
use lib.ListN.{length, take}
use Rattle.completions.specs.Either.{eithers}
use Rattle.layout.specs.Words.{word, circuit_in}
use Rattle.frames.proofs.Facts.{latches-are, ready_with}
use Rattle.frames.proofs.Places.{inputs_are, inputs-few}
use Rattle.blocks.proofs.Runs.{row_fits, row_next, rows_more, Valued, Left}
use Rattle.blocks.proofs.Runs.{valued-start, valued-next, left-start, left-next, valued-hit, none_left}
use Rattle.blocks.proofs.block_word.Statement.{statement}
use Rattle.blocks.proofs.block_word.Tie as tie

abbrev invariant-loop : tie.invariant-loop-u
invariant-loop m order body block values₀ state₀ layout q width frames seen₀ agree at₀ left₀ u₀ values state seen at left u =
    (1 ≤ u) × (u ≤ frames) × (length values ≡ length values₀) × (length state ≡ length state₀) × (word m 0 < length values)
    × (at ≡ layout.l + 1 + (u - 1) * (layout.i + 1)) × (seen ≡ eithers (take (at + layout.i + 1) body))
    × Valued m body block frames (u - 1) values × Left m body block frames (u - 1) left

abbrev decreases-loop : tie.decreases-loop-u
decreases-loop m order body block values₀ state₀ layout q width frames seen₀ agree at₀ left₀ u₀ values state seen at left u = frames - u

-- the entry: the rows lie within the body, by the layout
module _ (S : tie.Start invariant-loop decreases-loop) where
  inside : S.args.w.layout.l + 1 + S.args.w.q.frames * (S.args.w.layout.i + 1) ≤ length S.args.body.now
  inside =
      let R = S.requires.0.ready in
      let e : S.args.w.layout.l + 1 + S.args.w.q.frames * (S.args.w.layout.i + 1)
      ≡ length (circuit_in S.args.m.now).latches + 1
      + S.args.w.q.frames * (length (circuit_in S.args.m.now).inputs + 1) =
      ap₂ (λ (x y : ℕ). x + 1 + S.args.w.q.frames * (y + 1)) (latches-are R) (inputs_are R.held R.layout_of) in
      omega (arith, S.requires.0.fits.inside)

  -- row u
  row_inside : (u : ℕ) → u < S.args.w.q.frames
      → S.args.w.layout.l + 1 + u * (S.args.w.layout.i + 1) + (S.args.w.layout.i + 1) ≤ length S.args.body.now
  row_inside u h = omega (arith, inside, row_fits S.args.w.q.frames u (S.args.w.layout.i + 1) h)

add-width : tie.Need-overflow_add-width invariant-loop decreases-loop
add-width c =
    let R = c.requires.0.ready in
    omega (arith, inputs-few R.held R.layout_of)

put-starts-requires : tie.Need-put_starts-seen-requires invariant-loop decreases-loop
put-starts-requires c κs =
    (c.requires.0.ready, omega (arith, inside c.before.before.before.before.before.before.before.before.before))

-- the start values stand there
module _ (b : tie.After-put_starts-seen invariant-loop decreases-loop) where
  abbrev S : tie.Start invariant-loop decreases-loop
  S = b.before.before.before.before.before.before.before.before.before.before

  abbrev begun : List ℕ
  begun = b.put_starts-seen.new.values

  begun-room : word S.args.m.now 0 < length begun
  begun-room = omega (arith, b.put_starts-seen.auto.values, S.requires.0.ready.room)

agree-word-requires : tie.Need-agree_word-agree-requires invariant-loop decreases-loop
agree-word-requires c κs =
    ready_with (S c.before.before).requires.0.ready (begun-room c.before.before)

add_at : tie.Need-overflow_add-at invariant-loop decreases-loop
add_at c =
    let s = S c.before.before.before.before in
    omega (arith, inside s, s.well_formed)

put-frame-requires : tie.Need-put_frame-seen-requires invariant-loop decreases-loop
put-frame-requires c κs =
    let s = S c.before.before.before.before.before in (
      ready_with s.requires.0.ready (begun-room c.before.before.before.before.before),
      (omega (arith, row_inside s 0 s.requires.0.fits.some-frame), c.put_starts-seen.ensures.1),
    )

-- the first frame is evaluated
module _ (f : tie.After-put_frame-seen invariant-loop decreases-loop) where
  abbrev B : tie.After-put_starts-seen invariant-loop decreases-loop
  B = f.before.before.before.before.before.before

  abbrev framed : List ℕ
  framed = f.put_frame-seen.new.values

  framed-room : word (S B).args.m.now 0 < length framed
  framed-room = omega (arith, f.put_frame-seen.auto.values, begun-room B)

  framed-long : length framed ≡ length (S B).args.values.now
  framed-long = f.put_frame-seen.auto.values ∙ B.put_starts-seen.auto.values

constrain-requires : tie.Need-constrain-left-requires invariant-loop decreases-loop
constrain-requires c κs =
    ready_with (S (B c.before.before)).requires.0.ready (framed-room c.before.before)

loop-holds : tie.Need-loop-u-init invariant-loop decreases-loop
loop-holds c =
    let s = S (B c.before.before.before) in
    let a = s.args in
    let R = s.requires.0.ready in
    let frames = a.w.q.frames in
    let v =
    valued-start R a.body.now a.block frames (a.w.layout.l + 1) (begun (B c.before.before.before)) (framed c.before.before.before) s.requires.0.fits.some-frame refl
    (B c.before.before.before).put_starts-seen.ensures.0 c.put_frame-seen.ensures.0 in (
      omega arith,
      s.requires.0.fits.some-frame,
      refl,
      refl,
      framed-room c.before.before.before,
      omega arith,
      c.put_frame-seen.ensures.1,
      v,
      left-start R a.body.now a.block frames c.agree_word-agree.result c.constrain-left.result (begun (B c.before.before.before)) (framed c.before.before.before)
          (B c.before.before.before).put_starts-seen.ensures.0 c.agree_word-agree.ensures v c.constrain-left.ensures,
    )

-- the loop's head
module _ (l : tie.At-loop-u invariant-loop decreases-loop) where
  abbrev F : tie.After-put_frame-seen invariant-loop decreases-loop
  F = l.before.before.before.before

  abbrev S₀ : tie.Start invariant-loop decreases-loop
  S₀ = S (B F)

same_length : tie.Need-shape_of-values-then-left-eq0 invariant-loop decreases-loop
same_length c = c.loop-u.invariant.2 ∙ framed-long (F c.before.before)

same-length-2 : tie.Need-shape_of-state-then-left-eq0 invariant-loop decreases-loop
same-length-2 c = c.loop-u.invariant.3

returns : tie.Need-returns-then-left-eq0 invariant-loop decreases-loop
returns c =
    let s = S₀ c.before.before in
    let a = s.args in
    let frames = a.w.q.frames in
    let z : c.loop-u.left ≡ 0 = omega (arith, c.if-left-eq0.true) in
    none_left s.requires.0.ready a.body.now a.block frames (frames - 1) (c.loop-u.u - 1) a.w.q.bad
    (omega (arith, c.loop-u.invariant.0, c.loop-u.invariant.1))
    (subst (λ (w : ℕ). Left a.m.now a.body.now a.block frames (c.loop-u.u - 1) w) z c.loop-u.invariant.8)

advance-requires : tie.Need-advance-requires invariant-loop decreases-loop
advance-requires c κs =
    let s = S₀ c.before.before.before.before in
    (ready_with s.requires.0.ready c.loop-u.invariant.4, omega (arith, c.loop-u.invariant.3, s.requires.1))

-- in a turn: the next row lies within the body, and where it begins
module _ (n : tie.In-loop-u invariant-loop decreases-loop) where
  abbrev l : tie.At-loop-u invariant-loop decreases-loop
  l = n.before

  next-at : (let p = (S₀ l).args.w.layout in l.loop-u.at + (p.i + 1) ≡ p.l + 1 + l.loop-u.u * (p.i + 1))
  next-at =
      let w : ℕ = (S₀ l).args.w.layout.i + 1 in
      let e : l.loop-u.u - 1 + 1 ≡ l.loop-u.u = omega (arith, l.loop-u.invariant.0) in
      omega (arith, l.loop-u.invariant.5, row_next (l.loop-u.u - 1) w, ap (λ (k : ℕ). k * w) e)

  next-inside : (let p = (S₀ l).args.w.layout in l.loop-u.at + (p.i + 1) + (p.i + 1) ≤ length (S₀ l).args.body.now)
  next-inside = omega (arith, next-at, row_inside (S₀ l) l.loop-u.u (omega (arith, n.loop-u-test.true)))

add-at-2 : tie.Need-overflow_add-at-in-loop-u invariant-loop decreases-loop
add-at-2 c =
    omega (arith, next-inside c.before.before.before.before.before.before.before.before, (S₀ (l c.before.before.before.before.before.before.before.before)).well_formed)

put-frame-requires-2 : tie.Need-put_frame-seen-requires-in-loop-u invariant-loop decreases-loop
put-frame-requires-2 c κs =
    let s = S₀ (l c.before.before.before.before.before.before.before.before.before) in
    let L = (l c.before.before.before.before.before.before.before.before.before).loop-u in
    let i = s.args.w.layout.i in
    let e : L.at + i + 1 ≡ L.at + (i + 1) = omega arith in (
      ready_with s.requires.0.ready (omega (arith, c.advance.auto.values, L.invariant.4)),
      (omega (arith, next-inside c.before.before.before.before.before.before.before.before.before), L.invariant.6 ∙ ap (λ (k : ℕ). eithers (take k s.args.body.now)) e),
    )

-- the next frame is evaluated
module _ (f : tie.After-put_frame-seen-in-loop-u invariant-loop decreases-loop) where
  abbrev D : tie.After-advance invariant-loop decreases-loop
  D = f.before.before.before.before.before.before

  abbrev N : tie.In-loop-u invariant-loop decreases-loop
  N = D.before.before.before.before

  next-long : length f.put_frame-seen-in-loop-u.new.values ≡ length (l N).loop-u.values
  next-long = f.put_frame-seen-in-loop-u.auto.values ∙ D.advance.auto.values

  next-room : word (S₀ (l N)).args.m.now 0 < length f.put_frame-seen-in-loop-u.new.values
  next-room = omega (arith, next-long, (l N).loop-u.invariant.4)

constrain-requires-2 : tie.Need-constrain-left-requires-in-loop-u invariant-loop decreases-loop
constrain-requires-2 c κs =
    ready_with (S₀ (l (N c.before.before))).requires.0.ready (next-room c.before.before)

add-u : tie.Need-overflow_add-u invariant-loop decreases-loop
add-u c =
    let n = N c.before.before.before in
    let s = S₀ (l n) in
    omega (arith, n.loop-u-test.true, inside s, rows_more s.args.w.q.frames s.args.w.layout.i, s.well_formed)

loop-less : tie.Need-loop-u-smaller invariant-loop decreases-loop
loop-less c = omega (arith, (N c.before.before.before).loop-u-test.true)

loop-again : tie.Need-loop-u-preserved invariant-loop decreases-loop
loop-again c =
    let n = N c.before.before.before in
    let L = (l n).loop-u in
    let s = S₀ (l n) in
    let a = s.args in
    let R = s.requires.0.ready in
    let frames = a.w.q.frames in
    let E = (D c.before.before.before).advance in
    let now' = c.put_frame-seen-in-loop-u.new.values in
    let one : 1 ≤ L.u = L.invariant.0 in
    let k : suc (L.u - 1) ≡ L.u = omega arith in
    let e : suc (L.u - 1) ≡ L.u + 1 - 1 = omega arith in
    let v =
    valued-next R a.body.now a.block frames (L.u - 1) (L.at + (a.w.layout.i + 1)) L.values E.new.values now'
    (omega (arith, n.loop-u-test.true)) (next-at n ∙ ap (λ (k : ℕ). a.w.layout.l + 1 + k * (a.w.layout.i + 1)) (sym k))
    L.invariant.7 E.ensures c.put_frame-seen-in-loop-u.ensures.0 in (
      omega arith,
      omega (arith, n.loop-u-test.true),
      next-long c.before.before.before ∙ L.invariant.2,
      E.auto.state ∙ L.invariant.3,
      next-room c.before.before.before,
      next-at n ∙ ap (λ (k : ℕ). a.w.layout.l + 1 + k * (a.w.layout.i + 1)) (sym k ∙ e),
      c.put_frame-seen-in-loop-u.ensures.1,
      subst (λ (t : ℕ). Valued a.m.now a.body.now a.block frames t now') e v,
      subst (λ (t : ℕ). Left a.m.now a.body.now a.block frames t c.constrain-left-in-loop-u.result) e
          (left-next R a.body.now a.block frames (L.u - 1) L.left c.constrain-left-in-loop-u.result now' L.invariant.8 v
          c.constrain-left-in-loop-u.ensures),
    )

bad-word-requires : tie.Need-bad_word-requires invariant-loop decreases-loop
bad-word-requires c κs =
    let P = (S₀ c.before).requires.0 in
    (ready_with P.ready c.loop-u.invariant.4, P.bad)

same-length-3 : tie.Need-shape_of-values invariant-loop decreases-loop
same-length-3 c = c.loop-u.invariant.2 ∙ framed-long (F c.before.before)

same-length-4 : tie.Need-shape_of-state invariant-loop decreases-loop
same-length-4 c = c.loop-u.invariant.3

returns-2 : tie.Need-returns invariant-loop decreases-loop
returns-2 c = λ p h r z.
    let s = S₀ c.before.before in
    let a = s.args in
    let frames = a.w.q.frames in
    let e : c.loop-u.u - 1 ≡ frames - 1 = omega (arith, c.loop-u.invariant.1, c.loop-u-test.false) in
    valued-hit s.requires.0.ready a.body.now a.block frames (frames - 1) a.w.q.bad c.loop-u.left c.bad_word.result c.loop-u.values
    (subst (λ (t : ℕ). Left a.m.now a.body.now a.block frames t c.loop-u.left) e c.loop-u.invariant.8)
    (subst (λ (t : ℕ). Valued a.m.now a.body.now a.block frames t c.loop-u.values) e c.loop-u.invariant.7) c.bad_word.ensures p h r z

pub block_word_spec : {M : Type 1} → statement M
block_word_spec =
    tie.close
    (tie.spec invariant-loop decreases-loop add-width put-starts-requires agree-word-requires add_at put-frame-requires constrain-requires loop-holds same_length same-length-2 returns advance-requires add-at-2 put-frame-requires-2 constrain-requires-2 add-u loop-less loop-again bad-word-requires same-length-3 same-length-4 returns-2)
