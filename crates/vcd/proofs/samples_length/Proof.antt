-- `vcd::samples_length` meets its contract. The loop's invariant: what is counted and the length of what is left are the whole length.
-- The measure is the number of frames left. Assumes nothing.
use mathlib.Core.Path.{◌≡◌, ap, ◌∙◌}
use Prim.Native.Nat.{ℕ, ◌+◌, ◌-◌, ◌*◌, ◌≤◌}
use native.Mathlib.Omega.{arith}
use lib.ListN.{length}
use Rattle.aiger.specs.Text.{digits}
use Rattle.vcd.specs.Text.{Level, samples, time_mark}
use Rattle.vcd.proofs.Parts.{samples-longer, samples-none, samples-most, time-length}
use borrow.Author.Rules.{rules}
use Rattle.vcd.proofs.samples_length.Statement.{statement}
use Rattle.vcd.proofs.samples_length.Tie as tie

abbrev flat : ℕ → ℕ → Level
flat t k = Level.low

ended : (level : ℕ → ℕ → Level) (n t left total r : ℕ) → left ≤ 0 → total + length (samples level n t left) ≡ r → total + 2 + length (digits t) ≡ r
ended level n t left total r h e = omega (arith, ap length (samples-none level n t left h), time-length t)

abbrev invariant-loop : tie.invariant-loop-left
invariant-loop n frames total₀ t₀ left₀ total t left =
    (t + left ≡ frames) × ((level : ℕ → ℕ → Level) → total + length (samples level n t left) ≡ length (samples level n 0 frames))

abbrev decreases-loop : tie.decreases-loop-left
decreases-loop n frames total₀ t₀ left₀ total t left = left

loop-holds : tie.Need-loop-left-init invariant-loop decreases-loop
loop-holds c = (omega arith, λ level. omega arith)

-- what is counted of the frames so far and of this one
so_far : (c : tie.After-digit_count invariant-loop decreases-loop)
    → let a = c.args in
    c.loop-left.total + 2 + c.digit_count.result + 4 * a.n ≤ 5516 * a.frames + 12
so_far c =
    let a = c.args in
    omega (
      arith,
      c.loop-left.invariant.1 flat,
      samples-longer flat a.n c.loop-left.t c.loop-left.left c.loop-left-test.true,
      c.digit_count.ensures,
      samples-most flat a.n c.requires.0 0 a.frames,
    )

add_total : tie.Need-overflow_add-total invariant-loop decreases-loop
add_total c = omega (arith, so_far c, c.requires.1)

mul-total : tie.Need-overflow_mul-total invariant-loop decreases-loop
mul-total c = omega (arith, c.requires.0)

add-total-2 : tie.Need-overflow_add-total-in-loop-left invariant-loop decreases-loop
add-total-2 c = omega (arith, so_far c, c.requires.1)

add-total-3 : tie.Need-overflow_add-total-in-loop-left-2 invariant-loop decreases-loop
add-total-3 c = omega (arith, so_far c, c.requires.1)

add-t : tie.Need-overflow_add-t invariant-loop decreases-loop
add-t c = omega (arith, c.requires.1)

loop-again : tie.Need-loop-left-preserved invariant-loop decreases-loop
loop-again c =
    let a = c.args in
    (omega arith, λ level. omega (arith, c.loop-left.invariant.1 level, samples-longer level a.n c.loop-left.t c.loop-left.left c.loop-left-test.true, c.digit_count.ensures))

add-result : tie.Need-overflow_add-result invariant-loop decreases-loop
add-result c =
    let a = c.args in
    omega (arith, c.loop-left.invariant.1 flat, samples-most flat a.n c.requires.0 0 a.frames, c.requires.1)

add-result-2 : tie.Need-overflow_add-result-2 invariant-loop decreases-loop
add-result-2 c =
    let a = c.args in
    omega (
      arith,
      ended flat a.n c.loop-left.t c.loop-left.left c.loop-left.total _ c.loop-left-test.false (c.loop-left.invariant.1 flat),
      c.digit_count-2.ensures,
      samples-most flat a.n c.requires.0 0 a.frames,
      c.requires.1,
    )

returns : tie.Need-returns invariant-loop decreases-loop
returns c =
    let a = c.args in
    λ level. omega (arith, ended level a.n c.loop-left.t c.loop-left.left c.loop-left.total _ c.loop-left-test.false (c.loop-left.invariant.1 level), c.digit_count-2.ensures)

pub samples_length_spec : {M : Type 1} → statement M
samples_length_spec =
    tie.close
    (tie.spec invariant-loop decreases-loop loop-holds (λ c κs. tt) add_total mul-total add-total-2 add-total-3 add-t (λ c. omega arith) (λ c. omega arith) loop-again add-result (λ c κs. tt) add-result-2 returns)
