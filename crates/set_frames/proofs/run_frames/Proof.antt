-- `set_frames::run_frames` meets its contract. The invariant: the sets before t stand, and the frames from t on reach what all of them do.
-- Assumes nothing.
use mathlib.Core.Path.{◌≡◌, refl, sym, ap, ◌∙◌}
use Prim.Native.Nat.{ℕ, ◌+◌, ◌-◌, ◌≤◌}
use native.Mathlib.Omega.{arith}
use borrow.Author.Rules.{rules}
use lib.ListN.{length}
use Rattle.state_sets.specs.Sets.{sets_of}
use Rattle.set_frames.specs.declared.Reached.TheVariants as variants
use Rattle.set_frames.specs.Frames.{setup_in, ran, frames_run, Stands}
use Rattle.set_frames.proofs.Follow.{run_none, run-stop, run_more, stands-clear}
use Rattle.set_frames.proofs.Rows.{frames-are}
use Rattle.set_frames.proofs.run_frames.Statement.{statement}
use Rattle.set_frames.proofs.run_frames.Tie as tie

abbrev invariant-loop : tie.invariant-loop-t
invariant-loop w₀ table₀ s frees base bits₀ first k t₀ w table bits t =
    (length w ≡ length w₀) × (length table ≡ length table₀) × (length bits ≡ length bits₀) × (t ≤ k + 1)
    × Stands s frees base t (sets_of w table)
    × (frames_run (setup_in s frees base) first (k + 1 - t) t bits (sets_of w table)
    ≡ frames_run (setup_in s frees base) first (k + 1) 0 bits₀ (sets_of w₀ table₀))

abbrev decreases-loop : tie.decreases-loop-t
decreases-loop w₀ table₀ s frees base bits₀ first k t₀ w table bits t = k + 1 - t

loop-holds : tie.Need-loop-t-init invariant-loop decreases-loop
loop-holds c =
    let a = c.args in
    let e : a.span.k + 1 - 0 ≡ a.span.k + 1 = omega arith in (
      refl,
      refl,
      refl,
      omega arith,
      c.requires.0,
      ap (λ (i : ℕ). frames_run (setup_in a.s a.frees.now a.base.now) a.span.first i 0 a.bits.now (sets_of a.w.now a.table.now))
          e,
    )

frame-requires : tie.Need-frame-requires invariant-loop decreases-loop
frame-requires c κs =
    let p = c.requires in
    let e = c.loop-t.invariant.1 in (
      c.loop-t.invariant.4,
      (rw e p.1.0, (omega (arith, c.loop-t.invariant.2, p.1.1.0, p.1.1.1), omega (arith, c.loop-t-test, p.1.1.2))),
    )

add-t : tie.Need-overflow_add-t invariant-loop decreases-loop
add-t c = omega (arith, c.loop-t.invariant.3, c.requires.1.1.2)

loop-less : tie.Need-loop-t-smaller invariant-loop decreases-loop
loop-less c = omega (arith, c.loop-t-test)

loop-again : tie.Need-loop-t-preserved invariant-loop decreases-loop
loop-again c =
    let a = c.args in
    let y = sets_of c.frame.new.w c.frame.new.table in
    let b = c.frame.new.bits in
    let z = sets_of c.loop-t.w c.loop-t.table in
    let e : ran y b variants.Clear ≡ _ = ap (ran y b) (sym c.in-Clear.is) ∙ c.frame.ensures in (
      c.frame.auto.w ∙ c.loop-t.invariant.0,
      c.frame.auto.table ∙ c.loop-t.invariant.1,
      c.frame.auto.bits ∙ c.loop-t.invariant.2,
      omega (arith, c.loop-t-test),
      stands-clear a.s a.frees.now a.base.now c.requires.1.0.rows a.span.first c.loop-t.t c.loop-t.bits z y b (c.loop-t.t + 1) (omega arith)
          (omega (arith, c.loop-t-test, c.requires.1.1.2)) c.loop-t.invariant.4 e,
      run_more (setup_in a.s a.frees.now a.base.now) a.span.first (a.span.k + 1 - c.loop-t.t) (a.span.k + 1 - (c.loop-t.t + 1)) c.loop-t.t (c.loop-t.t + 1) c.loop-t.bits z y b
          (omega (arith, c.loop-t-test)) (omega arith) e
          ∙ c.loop-t.invariant.5,
    )

same_length : tie.Need-shape_of-w-in-Hit invariant-loop decreases-loop
same_length c = c.frame.auto.w ∙ c.loop-t.invariant.0

same-length-2 : tie.Need-shape_of-table-in-Hit invariant-loop decreases-loop
same-length-2 c = c.frame.auto.table ∙ c.loop-t.invariant.1

same-length-3 : tie.Need-shape_of-bits-in-Hit invariant-loop decreases-loop
same-length-3 c = c.frame.auto.bits ∙ c.loop-t.invariant.2

returns : tie.Need-returns-in-Hit invariant-loop decreases-loop
returns c =
    let a = c.args in
    let y = sets_of c.frame.new.w c.frame.new.table in
    let b = c.frame.new.bits in
    let z = sets_of c.loop-t.w c.loop-t.table in
    frames-are a.s a.frees.now a.base.now a.span.first (a.span.k + 1) (sets_of a.w.now a.table.now) a.bits.now
    c.requires.1.0.rows (omega (arith, c.requires.1.1.2)) c.requires.0 c.frame.new.w c.frame.new.table b (variants.Hit c.in-Hit.u)
    (run-stop (setup_in a.s a.frees.now a.base.now) a.span.first (a.span.k + 1 - c.loop-t.t) (a.span.k - c.loop-t.t) c.loop-t.t c.loop-t.bits z y b (variants.Hit c.in-Hit.u) (λ next. refl)
    (omega (arith, c.loop-t-test)) (ap (ran y b) (sym c.in-Hit.is) ∙ c.frame.ensures)
    ∙ c.loop-t.invariant.5)

same-length-4 : tie.Need-shape_of-w-in-Never invariant-loop decreases-loop
same-length-4 c = c.frame.auto.w ∙ c.loop-t.invariant.0

same-length-5 : tie.Need-shape_of-table-in-Never invariant-loop decreases-loop
same-length-5 c = c.frame.auto.table ∙ c.loop-t.invariant.1

same-length-6 : tie.Need-shape_of-bits-in-Never invariant-loop decreases-loop
same-length-6 c = c.frame.auto.bits ∙ c.loop-t.invariant.2

returns-2 : tie.Need-returns-in-Never invariant-loop decreases-loop
returns-2 c =
    let a = c.args in
    let y = sets_of c.frame.new.w c.frame.new.table in
    let b = c.frame.new.bits in
    let z = sets_of c.loop-t.w c.loop-t.table in
    frames-are a.s a.frees.now a.base.now a.span.first (a.span.k + 1) (sets_of a.w.now a.table.now) a.bits.now
    c.requires.1.0.rows (omega (arith, c.requires.1.1.2)) c.requires.0 c.frame.new.w c.frame.new.table b (variants.Never c.in-Never.u)
    (run-stop (setup_in a.s a.frees.now a.base.now) a.span.first (a.span.k + 1 - c.loop-t.t) (a.span.k - c.loop-t.t) c.loop-t.t c.loop-t.bits z y b (variants.Never c.in-Never.u) (λ next. refl)
    (omega (arith, c.loop-t-test)) (ap (ran y b) (sym c.in-Never.is) ∙ c.frame.ensures)
    ∙ c.loop-t.invariant.5)

same-length-7 : tie.Need-shape_of-w-in-GaveUp invariant-loop decreases-loop
same-length-7 c = c.frame.auto.w ∙ c.loop-t.invariant.0

same-length-8 : tie.Need-shape_of-table-in-GaveUp invariant-loop decreases-loop
same-length-8 c = c.frame.auto.table ∙ c.loop-t.invariant.1

same-length-9 : tie.Need-shape_of-bits-in-GaveUp invariant-loop decreases-loop
same-length-9 c = c.frame.auto.bits ∙ c.loop-t.invariant.2

returns-3 : tie.Need-returns-in-GaveUp invariant-loop decreases-loop
returns-3 c =
    let a = c.args in
    let y = sets_of c.frame.new.w c.frame.new.table in
    let b = c.frame.new.bits in
    let z = sets_of c.loop-t.w c.loop-t.table in
    frames-are a.s a.frees.now a.base.now a.span.first (a.span.k + 1) (sets_of a.w.now a.table.now) a.bits.now
    c.requires.1.0.rows (omega (arith, c.requires.1.1.2)) c.requires.0 c.frame.new.w c.frame.new.table b (variants.GaveUp c.in-GaveUp.u)
    (run-stop (setup_in a.s a.frees.now a.base.now) a.span.first (a.span.k + 1 - c.loop-t.t) (a.span.k - c.loop-t.t) c.loop-t.t c.loop-t.bits z y b (variants.GaveUp c.in-GaveUp.u) (λ next. refl)
    (omega (arith, c.loop-t-test)) (ap (ran y b) (sym c.in-GaveUp.is) ∙ c.frame.ensures)
    ∙ c.loop-t.invariant.5)

same-length-10 : tie.Need-shape_of-w invariant-loop decreases-loop
same-length-10 c = c.loop-t.invariant.0

same-length-11 : tie.Need-shape_of-table invariant-loop decreases-loop
same-length-11 c = c.loop-t.invariant.1

same-length-12 : tie.Need-shape_of-bits invariant-loop decreases-loop
same-length-12 c = c.loop-t.invariant.2

returns-4 : tie.Need-returns invariant-loop decreases-loop
returns-4 c =
    let a = c.args in
    frames-are a.s a.frees.now a.base.now a.span.first (a.span.k + 1) (sets_of a.w.now a.table.now) a.bits.now
    c.requires.1.0.rows (omega (arith, c.requires.1.1.2)) c.requires.0 c.loop-t.w c.loop-t.table c.loop-t.bits variants.Clear
    (run_none (setup_in a.s a.frees.now a.base.now) a.span.first (a.span.k + 1 - c.loop-t.t) c.loop-t.t c.loop-t.bits (sets_of c.loop-t.w c.loop-t.table)
    (omega (arith, c.loop-t-test)) ∙ c.loop-t.invariant.5)

pub run_frames_spec : {M : Type 1} → statement M
run_frames_spec =
    tie.close
    (tie.spec invariant-loop decreases-loop loop-holds frame-requires (λ c. search rules) add-t loop-less loop-again (λ c. search rules) same_length same-length-2 same-length-3 returns (λ c. search rules) same-length-4 same-length-5 same-length-6 returns-2 (λ c. search rules) same-length-7 same-length-8 same-length-9 returns-3 same-length-10 same-length-11 same-length-12 returns-4)
