-- Small supports by numbers; the free bits by the counts. Assumes nothing.
use mathlib.Core.Path.{◌≡◌, refl, ap, ◌∙◌}
use mathlib.Core.Bool.{Bool, true, false, ◌&&◌}
use Prim.Native.Nat.{ℕ, ◌+◌, ◌*◌, ◌/◌, ◌%◌, ◌^◌, ◌≤◌, ◌<◌}
use native.Mathlib.Nat.{mul-le-mul_right}
use native.Mathlib.Decide.{dec_le}
use native.Mathlib.Omega.{arith}
use borrow.Author.Tests.{le-leb, lt-leb}
use lib.Pow.{pow_mono}
use lib.Dec.{leb}
use Rattle.aiger.specs.Circuit.{Circuit}
use Rattle.aiger.specs.Frames.{free_bits}
use Rattle.layout.specs.declared.Layout.{Layout}
use Rattle.limits.specs.Limits.{CountsOf}
use Rattle.attempts.specs.Attempts.{is_small, cost_of}

pub power-few : (s : ℕ) → s ≤ 20 → 2 ^ s ≤ 1048576
power-few s h = pow_mono h

-- 1 shifted by s
pub shifted : (s : ℕ) → s ≤ 20 → 1 * 2 ^ s % 18446744073709551616 ≡ 2 ^ s
shifted s h = omega (arith, power-few s h)

-- so many places on so many nodes
pub places-small : (s n : ℕ) → s ≤ 20 → n ≤ 65536 → 1 * 2 ^ s % 18446744073709551616 * n ≤ 68719476736
places-small s n h l =
    let a : 1 * 2 ^ s % 18446744073709551616 * n ≤ 1048576 * n = mul-le-mul_right n (omega (arith, shifted s h, power-few s h)) in
    omega arith

pub small-over : (s n : ℕ) → 20 < s → false ≡ is_small s n
small-over s n h = rw (lt-leb s 20 h)

pub small_is : (s n : ℕ) → s ≤ 20 → leb (1 * 2 ^ s % 18446744073709551616 * n) 4294967296 ≡ is_small s n
small_is s n h = rw (le-leb s 20 h, shifted s h)

pub small-few : (s n : ℕ) → is_small s n ≡ true → s ≤ 20
small-few s n e = elim (dec_le s 20) [
  | yes h ↦ h
  | no h ↦ let f : false ≡ true = small-over s n (omega arith) ∙ e in let z : ◌≡◌ {A = ℕ} 0 1 = cc in absurd (omega arith)
]

pub cost-is : (s n : ℕ) → s ≤ 20 → 1 * 2 ^ s % 18446744073709551616 * n / 1024 ≡ cost_of s n
cost-is s n h = ap (λ (p : ℕ). p * n / 1024) (shifted s h)

-- the free bits of frame t
pub free-is : {c : Circuit} {p : Layout} → CountsOf c p → (t : ℕ) → p.u + p.i * (t + 1) ≡ free_bits c t
unfolding free_bits
free-is k t = cc
