-- `samples::write_samples` meets its contract. The loop's invariant: for all runs of the block's completions, the words have the latches
-- of frame t, the samples from frame t on are left, and those that stood there before stand there still. The measure is the number of
-- frames left. Assumes nothing.
use mathlib.Core.Path.{◌≡◌, refl, sym, ap, ◌∙◌}
use mathlib.Core.List.{List}
use Prim.Native.Nat.{ℕ, ◌+◌, ◌-◌, ◌*◌, ◌≤◌, ◌<◌}
use native.Mathlib.Omega.{arith}
use borrow.Author.Rules.{rules}
use lib.ListN.{length, take}
use Rattle.aiger.specs.Frames.{Run}
use Rattle.completions.specs.Either.{eithers}
use Rattle.layout.specs.Words.{word, circuit_in}
use Rattle.frames.specs.Lanes.{Ready}
use Rattle.frames.proofs.Facts.{latches-are, ready_with}
use Rattle.frames.proofs.Places.{inputs_are, inputs-few}
use Rattle.blocks.proofs.Runs.{row_fits, row_next}
use Rattle.output.specs.Output.{Room}
use Rattle.vcd.specs.Text.{Level, time_mark, sample, samples}
use Rattle.vcd.proofs.Parts.{samples-none}
use Rattle.samples.specs.Passes.{low, level_of_runs, Stands, PassFits, RunsOf}
use Rattle.samples.proofs.Samples.{samples-size, samples-length, AllLatched, all-started, mixed}
use Rattle.samples.proofs.Samples.{Turn, turn-start, turn-next, mark-placed}
use Rattle.samples.proofs.write_samples.Statement.{statement}
use Rattle.samples.proofs.write_samples.Tie as tie

-- how long the samples from frame t on are
abbrev size : ℕ → ℕ → ℕ → ℕ
size n t left = length (samples (λ _. low) n t left)

abbrev invariant-loop : tie.invariant-loop-left
invariant-loop m order body pass out₀ values₀ state₀ layout block width seen₀ end₀ row₀ t₀ left₀ out values state seen end row t left =
    (t + left ≡ left₀) × (row ≡ row₀ + t * width) × (seen ≡ eithers (take row body)) × (length out ≡ length out₀)
    × (length values ≡ length values₀)
    × (length state ≡ length state₀) × (word m 0 < length values) × (end + size pass.wires t left ≡ end₀ + size pass.wires 0 left₀)
    × ((r : ℕ → Run) → RunsOf (circuit_in m) body pass.block left₀ r → (old : ℕ → ℕ → Level)
    → (0 < pass.block → Stands out₀ end₀ (samples old pass.wires 0 left₀)) → AllLatched (circuit_in m) r 0 values₀
    → Turn (circuit_in m) r pass.block left₀ out₀ end₀ pass.wires old t left values out end)

abbrev decreases-loop : tie.decreases-loop-left
decreases-loop m order body pass out₀ values₀ state₀ layout block width seen₀ end₀ row₀ t₀ left₀ out values state seen end row t left = left

-- the entry
module _ (S : tie.Start invariant-loop decreases-loop) where
  abbrev m : List ℕ
  m = S.args.m.now

  abbrev R : Ready S.args.m.now S.args.pass.layout S.args.order.now (length S.args.values.now)
  R = S.requires.0.0

  abbrev F : PassFits S.args.m.now S.args.body.now S.args.pass S.args.out.now
  F = S.requires.1.0

  within : S.args.pass.layout.l + 1 + S.args.pass.frames * (S.args.pass.layout.i + 1) ≤ length S.args.body.now
  within = rw (latches-are R, inputs_are R.held R.layout_of) F.inside

  space : (f : ℕ → ℕ → Level) → Room S.args.out.now S.args.pass.at (samples f S.args.pass.wires 0 S.args.pass.frames)
  space f = omega (arith, F.room, samples-size f (λ _. low) S.args.pass.wires 0 S.args.pass.frames)

-- where the loop begins a turn
module _ (c : tie.At-loop-left invariant-loop decreases-loop) where
  abbrev S₀ : tie.Start invariant-loop decreases-loop
  S₀ = c.before.before.before.before.before.before.before.before.before.before.before.before.before.before

  turn : let a = S₀.args in (r : ℕ → Run) → RunsOf (circuit_in a.m.now) a.body.now a.pass.block a.pass.frames r
      → (old : ℕ → ℕ → Level)
      → (0 < a.pass.block → Stands a.out.now a.pass.at (samples old a.pass.wires 0 a.pass.frames))
      → Turn (circuit_in a.m.now) r a.pass.block a.pass.frames a.out.now a.pass.at a.pass.wires old c.loop-left.t
      c.loop-left.left c.loop-left.values
      c.loop-left.out c.loop-left.end
  turn r q old s =
      let a = S₀.args in
      c.loop-left.invariant.8 r q old s
      (all-started (circuit_in a.m.now) a.body.now a.pass.block a.pass.frames r c.put_starts-seen.new.values q
      c.put_starts-seen.ensures.0)

-- within a turn
module _ (n : tie.In-loop-left invariant-loop decreases-loop) where
  abbrev A : tie.At-loop-left invariant-loop decreases-loop
  A = n.before

  fits : A.loop-left.row + (S₀ A).args.pass.layout.i + 1 ≤ length (S₀ A).args.body.now
  fits =
      let a = (S₀ A).args in
      let f = row_fits a.pass.frames A.loop-left.t (a.pass.layout.i + 1) (omega (arith, A.loop-left.invariant.0, n.loop-left-test.true)) in
      omega (arith, f, within (S₀ A), A.loop-left.invariant.1)

add-width : tie.Need-overflow_add-width invariant-loop decreases-loop
add-width c =
    omega (arith, inputs-few (R c.before.before.before.before.before.before.before.before).held (R c.before.before.before.before.before.before.before.before).layout_of)

put-starts-requires : tie.Need-put_starts-seen-requires invariant-loop decreases-loop
put-starts-requires c κs =
    (R c.before.before.before.before.before.before.before.before.before, omega (arith, within c.before.before.before.before.before.before.before.before.before))

add_row : tie.Need-overflow_add-row invariant-loop decreases-loop
add_row c =
    omega (arith, within c.before.before.before.before.before.before.before.before.before.before.before.before.before)

loop-holds : tie.Need-loop-left-init invariant-loop decreases-loop
loop-holds c =
    let a = c.args in (
      omega arith,
      omega arith,
      c.put_starts-seen.ensures.1,
      refl,
      refl,
      refl,
      omega (arith, c.put_starts-seen.auto.values, (R c.before.before.before.before.before.before.before.before.before.before.before.before.before).room),
      refl,
      λ r q old s k. turn-start (circuit_in a.m.now) r a.pass.block a.pass.frames a.out.now a.pass.at
          a.pass.wires old k s,
    )

put-frame-requires : tie.Need-put_frame-seen-requires invariant-loop decreases-loop
put-frame-requires c κs =
    (ready_with (R (S₀ (A c.before))) (A c.before).loop-left.invariant.6, (omega (arith, fits c.before), (A c.before).loop-left.invariant.2))

write-sample-requires : tie.Need-write_sample-end-requires invariant-loop decreases-loop
write-sample-requires c κs =
    let S = S₀ (A c.before.before.before.before.before) in
    let L = (A c.before.before.before.before.before).loop-left in
    let w = S.args.pass.wires in (
      record {
        held = (R S).held;
        layout_of = (R S).layout_of;
        room = omega (arith, c.put_frame-seen.auto.values, L.invariant.6);
        wires = (F S).wires;
      },
      omega (arith, L.invariant.7, L.invariant.3, (F S).room, samples-length (λ _. low) w L.t L.left c.loop-left-test.true),
    )

advance-requires : tie.Need-advance-requires invariant-loop decreases-loop
advance-requires c κs =
    let S = S₀ (A c.before.before.before.before.before.before.before.before.before.before) in
    let L = (A c.before.before.before.before.before.before.before.before.before.before).loop-left in
    (ready_with (R S) (omega (arith, c.put_frame-seen.auto.values, L.invariant.6)), omega (arith, L.invariant.5, S.requires.0.1))

-- the end of a turn
module _ (d : tie.After-advance invariant-loop decreases-loop) where
  abbrev w : tie.After-write_sample-end invariant-loop decreases-loop
  w = d.before.before.before.before.before

  abbrev g : tie.After-put_frame-seen invariant-loop decreases-loop
  g = w.before.before.before.before

  abbrev N : tie.In-loop-left invariant-loop decreases-loop
  N = g.before.before

add-row-2 : tie.Need-overflow_add-row-in-loop-left invariant-loop decreases-loop
add-row-2 c =
    let f : c.loop-left.row + c.args.pass.layout.i + 1 ≤ length c.args.body.now = fits (N c.before.before.before.before) in
    omega (arith, f)

add-t : tie.Need-overflow_add-t invariant-loop decreases-loop
add-t c =
    let n = N c.before.before.before.before in
    omega (arith, (A n).loop-left.invariant.0, n.loop-left-test.true, (F (S₀ (A n))).few)

sub-left : tie.Need-overflow_sub-left invariant-loop decreases-loop
sub-left c = omega (arith, (N c.before.before.before.before).loop-left-test.true)

loop-less : tie.Need-loop-left-smaller invariant-loop decreases-loop
loop-less c = omega (arith, (N c.before.before.before.before).loop-left-test.true)

loop-again : tie.Need-loop-left-preserved invariant-loop decreases-loop
loop-again c =
    let n = N c.before.before.before.before in
    let S = S₀ (A n) in
    let a = S.args in
    let L = (A n).loop-left in
    let P = (g c.before.before.before.before).put_frame-seen in
    let W = (w c.before.before.before.before).write_sample-end in
    let I = n.loop-left-test.true in
    let e : L.row + a.pass.layout.i + 1 ≡ L.row + (a.pass.layout.i + 1) = omega arith in (
      omega (arith, L.invariant.0, I),
      omega (arith, row_next L.t (a.pass.layout.i + 1), L.invariant.1),
      P.ensures.1 ∙ ap (λ (k : ℕ). eithers (take k a.body.now)) e,
      W.auto.out ∙ L.invariant.3,
      c.advance.auto.values ∙ P.auto.values ∙ L.invariant.4,
      c.advance.auto.state ∙ L.invariant.5,
      omega (arith, c.advance.auto.values, P.auto.values, L.invariant.6),
      omega (arith, W.ensures.past, L.invariant.7, samples-length (λ _. low) a.pass.wires L.t L.left I),
      λ r q old s k.
          turn-next (R S) a.body.now a.pass.block a.pass.frames r q a.out.now a.pass.at a.pass.wires old
          (space S (mixed (circuit_in a.m.now) r a.pass.block old)) P.new.values (L.invariant.8 r q old s k) I
          L.invariant.0 L.invariant.1 P.ensures.0
          c.advance.new.values W.ensures c.advance.ensures,
    )

write-time-requires : tie.Need-write_time-requires invariant-loop decreases-loop
write-time-requires c κs =
    let S = S₀ c.before.before in
    let e = ap length (samples-none (λ _. low) S.args.pass.wires c.loop-left.t c.loop-left.left c.loop-left-test.false) in
    omega (arith, e, c.loop-left.invariant.7, c.loop-left.invariant.3, (F S).room)

same_length : tie.Need-shape_of-out invariant-loop decreases-loop
same_length c = c.write_time.auto.out ∙ c.loop-left.invariant.3

same-length-2 : tie.Need-shape_of-values invariant-loop decreases-loop
same-length-2 c =
    c.loop-left.invariant.4 ∙ c.put_starts-seen.auto.values

same-length-3 : tie.Need-shape_of-state invariant-loop decreases-loop
same-length-3 c = c.loop-left.invariant.5

returns : tie.Need-returns invariant-loop decreases-loop
returns c = λ r q old s.
    let S = S₀ c.before.before.before.before.before in
    let a = S.args in
    mark-placed (R S) a.body.now a.pass.block a.pass.frames r q a.out.now a.pass.at a.pass.wires old
    (space S (mixed (circuit_in a.m.now) r a.pass.block old)) (turn c.before.before.before.before.before r q old s)
    c.loop-left-test.false
    c.write_time.ensures

pub write_samples_spec : {M : Type 1} → statement M
write_samples_spec =
    tie.close
    (tie.spec invariant-loop decreases-loop add-width put-starts-requires add_row loop-holds put-frame-requires write-sample-requires advance-requires add-row-2 add-t sub-left loop-less loop-again write-time-requires same_length same-length-2 same-length-3 returns)
