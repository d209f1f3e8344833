-- A bit as a word, 0 or 1. Assumes nothing.
use mathlib.Core.Path.{◌≡◌, refl, ap, ◌∙◌}
use mathlib.Core.Bool.{Bool, cond}
use Prim.Native.Nat.{ℕ, zero, suc, ◌%◌, ◌<◌}
use native.Mathlib.Omega.{arith}
use Rattle.aiger.specs.Bits.{nonzero, odd}
use Rattle.aiger.proofs.Tests.{nonzero-bit}

pub parity : (u : ℕ) → ◌≡◌ {A = ℕ} (cond (odd u) 1 0) (u % 2)
parity u = go (u % 2) (omega arith)
  where
    go : (r : ℕ) → r < 2 → ◌≡◌ {A = ℕ} (cond (nonzero r) 1 0) r
    go zero h = refl
    go (suc r) h = omega arith

pub digit-is : (w : ℕ) (b : Bool) → w ≡ cond b 1 0 → nonzero w ≡ b
digit-is w b e = ap nonzero e ∙ nonzero-bit b
