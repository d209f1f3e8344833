-- `generator::wrapping_mul` meets its contract. The loop's invariant: sum + x * y is a * b, modulo 2^64. Assumes nothing.
use Rattle.std.proofs.Common.{◌≡◌, ℕ, ◌+◌, ◌*◌, ◌/◌, ◌%◌, ◌^◌, ◌<◌, sym, ap, ◌∙◌, ap₂, ⊎_elim, zero-add, arith, rules}
use lib.Bits.{bit_and, and_mask}
use Rattle.generator.proofs.Wrap.{even-turn, odd-turn, last_turn}
use Rattle.generator.proofs.wrapping_mul.Statement.{statement}
use Rattle.generator.proofs.wrapping_mul.Tie as tie

abbrev invariant-loop : tie.invariant-loop-y
invariant-loop a b sum₀ x₀ y₀ sum x y = (sum < 2 ^ 64) × ((sum + x * y) % 2 ^ 64 ≡ (a * b) % 2 ^ 64)

abbrev decreases-loop : tie.decreases-loop-y
decreases-loop a b sum₀ x₀ y₀ sum x y = y

loop-holds : tie.Need-loop-y-init invariant-loop decreases-loop
loop-holds c = (search rules, ap (λ (n : ℕ). n % 2 ^ 64) (zero-add (c.args.a * c.args.b)))

loop-less : tie.Need-loop-y-smaller invariant-loop decreases-loop
loop-less c = omega arith

loop-again : tie.Need-loop-y-preserved invariant-loop decreases-loop
loop-again c =
    let at = c.loop-y in
    let y = at.y in
    let x = at.x in
    let sum = at.sum in
    let mask : bit_and y 1 ≡ y % 2 = and_mask y 1 in
    ⊎_elim
    (λ w.
    let e : c.if-y-eq1.sum ≡ (sum + x) % 2 ^ 64 = w.sum-is ∙ w.wrapping_add_u64-sum.ensures in (
      omega arith,
      ap₂ (λ (s d : ℕ). (s + d * (y / 2)) % 2 ^ 64) e c.wrapping_add_u64-x.ensures
          ∙ odd-turn sum x y (2 ^ 64) (sym mask ∙ w.if-y-eq1.true)
          ∙ at.invariant.1,
    ))
    (λ w.
    let e : c.if-y-eq1.sum ≡ sum = w.sum-is in
    let odd : y % 2 ≡ 1 → ⊥ = λ q. w.if-y-eq1.false (mask ∙ q) in (
      omega arith,
      ap₂ (λ (s d : ℕ). (s + d * (y / 2)) % 2 ^ 64) e c.wrapping_add_u64-x.ensures
          ∙ even-turn sum x y (2 ^ 64) (omega arith)
          ∙ at.invariant.1,
    ))
    c.if-y-eq1.branch-raw

returns : tie.Need-returns invariant-loop decreases-loop
returns c =
    let at = c.loop-y in
    last_turn at.sum at.x at.y (2 ^ 64) at.invariant.0 c.loop-y-test.false ∙ at.invariant.1

pub wrapping_mul_spec : {M : Type 1} → statement M
wrapping_mul_spec =
    tie.close
    (tie.spec invariant-loop decreases-loop loop-holds (λ c κs. search rules) (λ c κs. search rules) loop-less loop-again returns)
