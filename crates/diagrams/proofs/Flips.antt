-- The complement by exclusive or. Assumes nothing.
use mathlib.Core.Path.{◌≡◌, refl, ap, ap₂, ◌∙◌}
use Prim.Native.Nat.{ℕ, zero, suc, ◌+◌, ◌-◌, ◌*◌, ◌/◌, ◌%◌, ◌<◌}
use native.Mathlib.Omega.{arith}
use lib.Bits.{bit_xor, differ, xor_step, xor_zero_r}
use Rattle.diagrams.specs.Words.{flip}

digits : (x y : ℕ) → x < 2 → y < 2 → differ x y ≡ (x + y) % 2
digits zero zero p q = refl
digits zero (suc zero) p q = refl
digits zero (suc (suc y)) p q = absurd (omega arith)
digits (suc zero) zero p q = refl
digits (suc zero) (suc zero) p q = refl
digits (suc zero) (suc (suc y)) p q = absurd (omega arith)
digits (suc (suc x)) y p q = absurd (omega arith)

pub xor-flip : (e c : ℕ) → bit_xor e (c % 2) ≡ flip e c
unfolding flip
xor-flip e c =
    let z : c % 2 / 2 ≡ 0 = omega arith in
    let h : bit_xor (e / 2) (c % 2 / 2) ≡ e / 2 = ap (bit_xor (e / 2)) z ∙ xor_zero_r (e / 2) in
    let d = digits (e % 2) (c % 2 % 2) (omega arith) (omega arith) in
    xor_step e (c % 2) ∙ ap₂ (λ (x y : ℕ). x * 2 + y) h d ∙ omega arith
