-- `set_walk::walk` meets its contract. The invariant: the trace has the rows of the walk so far. Assumes nothing.
use mathlib.Core.Path.{◌≡◌, refl, sym, ap, ◌∙◌}
use Prim.Native.Nat.{ℕ, suc, ◌+◌, ◌-◌, ◌*◌, ◌/◌, ◌≤◌, ◌<◌}
use native.Mathlib.Omega.{arith}
use borrow.Author.Rules.{rules}
use lib.ListN.{length, get_or, set}
use lib.ListN.{length-set}
use Rattle.diagrams.specs.Meaning.{Assignment}
use Rattle.machine.specs.Machine.{Machine}
use Rattle.backward.specs.Walk.{Walking}
use Rattle.set_walk.specs.Walk.{bits_of, Setting, Walked}
use Rattle.set_walk.proofs.Steps.{walked_start, walked_row, walked_more, walked_at, walked-copied, walked_end}
use Rattle.set_walk.proofs.walk.Statement.{statement}
use Rattle.set_walk.proofs.walk.Tie as tie

abbrev invariant-loop : tie.invariant-loop-f
invariant-loop w table s t bits₀ after₀ trace₀ rows f₀ bits after trace f =
    (length bits ≡ length bits₀) × (length after ≡ length after₀) × (length trace ≡ length trace₀) × (f ≤ t) × (rows ≡ s.rows)
    × ((level : ℕ) (m : Machine) (n : ℕ) (at : ℕ → Assignment) (g : Setting level m n at s t w table) (y : ℕ) → Walking m t 0 0 y (m.start y)
    → bits_of bits₀ ≡ at (m.start y) → Walked g y f bits trace)

abbrev decreases-loop : tie.decreases-loop-f
decreases-loop w table s t bits₀ after₀ trace₀ rows f₀ bits after trace f = t - f

loop-holds : tie.Need-loop-f-init invariant-loop decreases-loop
loop-holds c = (refl, refl, refl, omega arith, refl, λ level m n at g y h e. walked_start g y _ _ h e)

least-row-requires : tie.Need-least_row-r-requires invariant-loop decreases-loop
least-row-requires c κs = (c.requires.0, (c.requires.1.0, (c.loop-f.invariant.1 ∙ c.requires.1.1.1, omega (arith, c.requires.1.1.2))))

same_length : tie.Need-shape_of-bits-then-rows-r invariant-loop decreases-loop
same_length c = c.loop-f.invariant.0

same-length-2 : tie.Need-shape_of-after-then-rows-r invariant-loop decreases-loop
same-length-2 c = c.least_row-r.auto.after ∙ c.loop-f.invariant.1

same-length-3 : tie.Need-shape_of-trace-then-rows-r invariant-loop decreases-loop
same-length-3 c = c.loop-f.invariant.2

returns : tie.Need-returns-then-rows-r invariant-loop decreases-loop
returns c =
    let a = c.args in
    λ level k n at g y h e.
    absurd
    (omega (
      arith,
      c.if-rows-r.true,
      c.loop-f.invariant.4,
      walked_row g y c.loop-f.f c.loop-f.bits c.loop-f.trace (c.loop-f.invariant.5 level k n at g y h e) (omega arith) (a.t - c.loop-f.f) c.least_row-r.result c.least_row-r.new.after refl c.least_row-r.ensures,
    ))

cast-trace : tie.Need-overflow_cast-trace invariant-loop decreases-loop
cast-trace c = omega (arith, c.if-rows-r.false, c.loop-f.invariant.4, c.requires.1.0.rows)

slice-write-trace : tie.Need-bounds-trace-f invariant-loop decreases-loop
slice-write-trace c = omega (arith, c.loop-f.invariant.2, c.requires.1.1)

copy-requires : tie.Need-copy-requires invariant-loop decreases-loop
copy-requires c κs = c.loop-f.invariant.0 ∙ c.requires.1.1.0 ∙ sym (c.least_row-r.auto.after ∙ c.loop-f.invariant.1 ∙ c.requires.1.1.1)

loop-less : tie.Need-loop-f-smaller invariant-loop decreases-loop
loop-less c = omega arith

loop-again : tie.Need-loop-f-preserved invariant-loop decreases-loop
loop-again c =
    let a = c.args in (
      c.copy.auto.to ∙ c.loop-f.invariant.0,
      c.least_row-r.auto.after ∙ c.loop-f.invariant.1,
      length-set c.loop-f.trace c.loop-f.f c.least_row-r.result ∙ c.loop-f.invariant.2,
      omega (arith, c.loop-f-test),
      c.loop-f.invariant.4,
      λ level k n at g y h e.
          walked-copied g y c.loop-f.f c.least_row-r.new.after c.copy.new.to (set c.loop-f.trace c.loop-f.f c.least_row-r.result) c.copy.ensures
          (walked_more g y c.loop-f.f c.loop-f.bits c.loop-f.trace (c.loop-f.invariant.5 level k n at g y h e) (omega (arith, c.loop-f-test)) (omega (arith, c.loop-f.invariant.2, c.requires.1.1, c.loop-f-test)) (a.t - c.loop-f.f)
          c.least_row-r.result c.least_row-r.new.after refl c.least_row-r.ensures),
    )

least-row-requires-2 : tie.Need-least_row-last-requires invariant-loop decreases-loop
least-row-requires-2 c κs = (c.requires.0, (c.requires.1.0, (c.loop-f.invariant.1 ∙ c.requires.1.1.1, omega arith)))

same-length-4 : tie.Need-shape_of-bits-then-rows-last invariant-loop decreases-loop
same-length-4 c = c.loop-f.invariant.0

same-length-5 : tie.Need-shape_of-after-then-rows-last invariant-loop decreases-loop
same-length-5 c = c.least_row-last.auto.after ∙ c.loop-f.invariant.1

same-length-6 : tie.Need-shape_of-trace-then-rows-last invariant-loop decreases-loop
same-length-6 c = c.loop-f.invariant.2

returns-2 : tie.Need-returns-then-rows-last invariant-loop decreases-loop
returns-2 c =
    let a = c.args in
    λ level k n at g y h e.
    absurd
    (omega (
      arith,
      c.if-rows-last.true,
      c.loop-f.invariant.4,
      (walked_end g y c.loop-f.bits c.loop-f.trace (walked_at g y c.loop-f.f c.loop-f.bits c.loop-f.trace (omega (arith, c.loop-f.invariant.3)) (c.loop-f.invariant.5 level k n at g y h e))
          (omega (arith, c.loop-f.invariant.2, c.requires.1.1)) c.least_row-last.result c.least_row-last.new.after c.least_row-last.ensures).0,
    ))

cast-trace-2 : tie.Need-overflow_cast-trace-2 invariant-loop decreases-loop
cast-trace-2 c = omega (arith, c.if-rows-last.false, c.loop-f.invariant.4, c.requires.1.0.rows)

mul-trace-2 : tie.Need-offset_bounds-trace-t invariant-loop decreases-loop
mul-trace-2 c = omega (arith, c.requires.1.1)

slice-write-trace-2 : tie.Need-bounds-trace-t invariant-loop decreases-loop
slice-write-trace-2 c = omega (arith, c.loop-f.invariant.2, c.requires.1.1)

same-length-7 : tie.Need-shape_of-bits invariant-loop decreases-loop
same-length-7 c = c.loop-f.invariant.0

same-length-8 : tie.Need-shape_of-after invariant-loop decreases-loop
same-length-8 c = c.least_row-last.auto.after ∙ c.loop-f.invariant.1

same-length-9 : tie.Need-shape_of-trace invariant-loop decreases-loop
same-length-9 c = length-set c.loop-f.trace c.args.t c.least_row-last.result ∙ c.loop-f.invariant.2

returns-3 : tie.Need-returns invariant-loop decreases-loop
returns-3 c =
    let a = c.args in
    λ level k n at g y h e.
    (walked_end g y c.loop-f.bits c.loop-f.trace (walked_at g y c.loop-f.f c.loop-f.bits c.loop-f.trace (omega (arith, c.loop-f.invariant.3)) (c.loop-f.invariant.5 level k n at g y h e))
    (omega (arith, c.loop-f.invariant.2, c.requires.1.1)) c.least_row-last.result c.least_row-last.new.after c.least_row-last.ensures).1

pub walk_spec : {M : Type 1} → statement M
walk_spec =
    tie.close
    (tie.spec invariant-loop decreases-loop loop-holds (λ c. search rules) least-row-requires same_length same-length-2 same-length-3 returns cast-trace (λ c. search rules) slice-write-trace copy-requires (λ c. search rules) loop-less loop-again least-row-requires-2 same-length-4 same-length-5 same-length-6 returns-2 cast-trace-2 mul-trace-2 slice-write-trace-2 same-length-7 same-length-8 same-length-9 returns-3)
