-- One turn of the loop. Assumes nothing.
use mathlib.Core.Path.{◌≡◌, refl, ap}
use mathlib.Core.Bool.{true, false}
use mathlib.Core.List.{List}
use Prim.Native.Nat.{ℕ, zero, suc, ◌+◌, ◌-◌, ◌<◌}
use native.Mathlib.Omega.{arith}
use Rattle.choices.specs.Choices.{differs, agreed}

module _ (w : List ℕ) (nodes : ℕ) where
  pub agreed-none : (v k : ℕ) → k ≡ 0 → agreed w nodes v k ≡ v
  unfolding agreed
  agreed-none v zero e = refl
  agreed-none v (suc k) e = absurd (omega arith)

  pub agreed-stop : (v k : ℕ) → differs w nodes (v + 1) ≡ true → agreed w nodes v k ≡ v
  unfolding agreed
  agreed-stop v zero e = refl
  agreed-stop v (suc k) e = rw e

  pub agreed-more : (v k : ℕ) → 0 < k → differs w nodes (v + 1) ≡ false → agreed w nodes v k ≡ agreed w nodes (v + 1) (k - 1)
  unfolding agreed
  agreed-more v zero l e = absurd (omega arith)
  agreed-more v (suc k) l e = let p : k ≡ suc k - 1 = omega arith in rw e (ap (agreed w nodes (v + 1)) p)
