-- `traces::walk` meets its contract. The loop's invariant: the rows after frame u - 1 are found, and record i is that of frame u.
-- Assumes nothing.
use mathlib.Core.Path.{◌≡◌, refl, sym, ap, ◌∙◌, subst}
use Prim.Native.Nat.{ℕ, suc, ◌+◌, ◌-◌, ◌*◌, ◌≤◌, ◌<◌}
use native.Mathlib.Omega.{arith}
use lib.ListN.{length, get_or, length-set}
use Rattle.states.specs.Trace.{Trace}
use Rattle.states.proofs.Places.{record-order}
use Rattle.traces.proofs.Back.{Back, back_start, back-parent, back_more, back_end}
use borrow.Author.Rules.{rules}
use Rattle.traces.proofs.walk.Statement.{statement}
use Rattle.traces.proofs.walk.Tie as tie

abbrev invariant-loop : tie.invariant-loop-u
invariant-loop records width t e row trace₀ stride i₀ u₀ trace i u = (i ≤ e) × (u ≤ t) × (length trace ≡ length trace₀) × ((rows y : ℕ) → Trace
    rows width records t e y → row < rows → Back rows width records trace t i u (y * rows + row))

abbrev decreases-loop : tie.decreases-loop-u
decreases-loop records width t e row trace₀ stride i₀ u₀ trace i u = u

add-stride : tie.Need-overflow_add-stride invariant-loop decreases-loop
add-stride c = omega (arith, c.requires.0.3)

cast-trace : tie.Need-overflow_cast-trace invariant-loop decreases-loop
cast-trace c = omega (arith, c.requires.0.2)

add-trace : tie.Need-overflow_add-trace invariant-loop decreases-loop
add-trace c = omega (arith, c.requires.0.0)

mul-trace : tie.Need-offset_bounds-trace-t invariant-loop decreases-loop
mul-trace c = omega (arith, c.requires.0.0)

slice-write-trace : tie.Need-bounds-trace-t invariant-loop decreases-loop
slice-write-trace c = omega (arith, c.requires.0.0, c.requires.0.1)

loop-holds : tie.Need-loop-u-init invariant-loop decreases-loop
loop-holds c =
    let a = c.args in (
      omega arith,
      omega arith,
      refl,
      λ rows y h l. back_start rows a.width a.records.now a.t a.trace.now a.e a.row y
          (omega (arith, c.requires.0.0, c.requires.0.1)) h l,
    )

mul_at : tie.Need-overflow_mul-at invariant-loop decreases-loop
mul_at c = omega (
  arith,
  c.requires.0.3,
  c.requires.0.0,
  c.requires.0.1,
  record-order (c.args.width + 4) c.loop-u.i c.args.e c.loop-u.invariant.0,
  c.loop-u.invariant.1,
)

add-trace-2 : tie.Need-overflow_add-trace-in-loop-u invariant-loop decreases-loop
add-trace-2 c = omega (
  arith,
  c.requires.0.3,
  c.requires.0.0,
  c.requires.0.1,
  record-order (c.args.width + 4) c.loop-u.i c.args.e c.loop-u.invariant.0,
  c.loop-u.invariant.1,
)

mul-trace-2 : tie.Need-offset_bounds-records-at invariant-loop decreases-loop
mul-trace-2 c = omega (
  arith,
  c.requires.0.3,
  c.requires.0.0,
  c.requires.0.1,
  record-order (c.args.width + 4) c.loop-u.i c.args.e c.loop-u.invariant.0,
  c.loop-u.invariant.1,
)

shared-slice-read-trace : tie.Need-bounds-records-at invariant-loop decreases-loop
shared-slice-read-trace c = omega (
  arith,
  c.requires.0.3,
  c.requires.0.0,
  c.requires.0.1,
  record-order (c.args.width + 4) c.loop-u.i c.args.e c.loop-u.invariant.0,
  c.loop-u.invariant.1,
)

mul-trace-3 : tie.Need-offset_bounds-trace-u invariant-loop decreases-loop
mul-trace-3 c = omega (
  arith,
  c.requires.0.3,
  c.requires.0.0,
  c.requires.0.1,
  record-order (c.args.width + 4) c.loop-u.i c.args.e c.loop-u.invariant.0,
  c.loop-u.invariant.1,
)

slice-write-trace-2 : tie.Need-bounds-trace-u invariant-loop decreases-loop
slice-write-trace-2 c = omega (
  arith,
  c.requires.0.0,
  c.requires.0.1,
  c.loop-u.invariant.1,
  c.loop-u.invariant.2,
  length-set c.args.trace.now (c.args.t + 1) c.args.row,
)

add-i : tie.Need-overflow_add-i invariant-loop decreases-loop
add-i c = omega (
  arith,
  c.requires.0.3,
  c.requires.0.0,
  c.requires.0.1,
  record-order (c.args.width + 4) c.loop-u.i c.args.e c.loop-u.invariant.0,
  c.loop-u.invariant.1,
)

mul-i : tie.Need-offset_bounds-records-at-in-loop-u invariant-loop decreases-loop
mul-i c = omega (
  arith,
  c.requires.0.3,
  c.requires.0.0,
  c.requires.0.1,
  record-order (c.args.width + 4) c.loop-u.i c.args.e c.loop-u.invariant.0,
  c.loop-u.invariant.1,
)

shared-slice-read-i : tie.Need-bounds-records-at-in-loop-u invariant-loop decreases-loop
shared-slice-read-i c = omega (
  arith,
  c.requires.0.3,
  c.requires.0.0,
  c.requires.0.1,
  record-order (c.args.width + 4) c.loop-u.i c.args.e c.loop-u.invariant.0,
  c.loop-u.invariant.1,
)

cast-i : tie.Need-overflow_cast-i invariant-loop decreases-loop
cast-i c = omega (
  arith,
  c.shared_slice_known-in-loop-u-1.given ((c.args.width + 4) * c.loop-u.i + 2),
)

sub-u : tie.Need-overflow_sub-u invariant-loop decreases-loop
sub-u c = omega arith

loop-less : tie.Need-loop-u-smaller invariant-loop decreases-loop
loop-less c = omega arith

loop-again : tie.Need-loop-u-preserved invariant-loop decreases-loop
loop-again c =
    let a = c.args in
    let P = c.requires.1 in
    let B = c.loop-u.invariant.3 P.0 P.1 P.3 P.2 in (
      omega (arith, c.loop-u.invariant.0, back-parent P.0 a.width a.records.now a.t c.loop-u.u (omega arith) B),
      omega (arith, c.loop-u.invariant.1),
      length-set c.loop-u.trace _ _ ∙ c.loop-u.invariant.2,
      λ rows y h l. back_more rows a.width a.records.now a.t c.loop-u.trace c.loop-u.i c.loop-u.u (y * rows + a.row) (omega arith)
          (omega (
            arith,
            c.requires.0.0,
            c.requires.0.1,
            c.loop-u.invariant.1,
            c.loop-u.invariant.2,
            length-set a.trace.now (a.t + 1) a.row,
          )) c.loop-u.invariant.1 (c.loop-u.invariant.3 rows y h l),
    )

mul-trace-4 : tie.Need-overflow_mul-trace invariant-loop decreases-loop
mul-trace-4 c = omega (
  arith,
  c.requires.0.3,
  c.requires.0.0,
  c.requires.0.1,
  record-order (c.args.width + 4) c.loop-u.i c.args.e c.loop-u.invariant.0,
  c.loop-u.invariant.1,
)

add-trace-3 : tie.Need-overflow_add-trace-2 invariant-loop decreases-loop
add-trace-3 c = omega (
  arith,
  c.requires.0.3,
  c.requires.0.0,
  c.requires.0.1,
  record-order (c.args.width + 4) c.loop-u.i c.args.e c.loop-u.invariant.0,
  c.loop-u.invariant.1,
)

mul-trace-5 : tie.Need-offset_bounds-records-stride invariant-loop decreases-loop
mul-trace-5 c = omega (
  arith,
  c.requires.0.3,
  c.requires.0.0,
  c.requires.0.1,
  record-order (c.args.width + 4) c.loop-u.i c.args.e c.loop-u.invariant.0,
  c.loop-u.invariant.1,
)

shared-slice-read-trace-2 : tie.Need-bounds-records-stride invariant-loop decreases-loop
shared-slice-read-trace-2 c = omega (
  arith,
  c.requires.0.3,
  c.requires.0.0,
  c.requires.0.1,
  record-order (c.args.width + 4) c.loop-u.i c.args.e c.loop-u.invariant.0,
  c.loop-u.invariant.1,
)

slice-write-trace-3 : tie.Need-bounds-trace-0 invariant-loop decreases-loop
slice-write-trace-3 c = omega (
  arith,
  c.requires.0.1,
  c.loop-u.invariant.2,
  length-set c.args.trace.now (c.args.t + 1) c.args.row,
)

same_length : tie.Need-shape_of-trace invariant-loop decreases-loop
same_length c = length-set c.loop-u.trace _ _ ∙ c.loop-u.invariant.2 ∙ length-set c.args.trace.now _ _

returns : tie.Need-returns invariant-loop decreases-loop
returns c =
    let a = c.args in
    λ rows y h l. back_end rows a.width a.records.now a.t c.loop-u.trace c.loop-u.i c.loop-u.u (y * rows + a.row) (omega arith)
    (omega (arith, c.requires.0.1, c.loop-u.invariant.2, length-set a.trace.now (a.t + 1) a.row)) (c.loop-u.invariant.3 rows y h l)

pub walk_spec : {M : Type 1} → statement M
walk_spec =
    tie.close
    (tie.spec invariant-loop decreases-loop add-stride cast-trace add-trace mul-trace slice-write-trace loop-holds mul_at add-trace-2 mul-trace-2 shared-slice-read-trace mul-trace-3 slice-write-trace-2 add-i mul-i shared-slice-read-i cast-i sub-u loop-less loop-again mul-trace-4 add-trace-3 mul-trace-5 shared-slice-read-trace-2 slice-write-trace-3 same_length returns)
