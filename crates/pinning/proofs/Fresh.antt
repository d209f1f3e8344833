-- A table and words as `pin_circuit` is first given them: no pin, and every word 0. Assumes nothing.
use mathlib.Core.List.{List}
use Prim.Native.Nat.{ℕ, ◌≤◌}
use native.Mathlib.Omega.{arith}
use lib.ListN.{length, replicate, length-replicate}
use Rattle.aiger.specs.Memory.{Holds}
use Rattle.layout.specs.Words.{circuit_in}
use Rattle.layout.specs.Layout.{LayoutOf}
use Rattle.layout.specs.declared.Layout.{Layout}
use Rattle.meaning.proofs.Lists.{get_d-same}
use Rattle.pinning.specs.Steps.{PinFits}

pub fits_fresh : {m : List ℕ} {p : Layout} {user : ℕ} → Holds m (circuit_in m) → LayoutOf m p → user ≤ 1 → (n w : ℕ) → 4097 ≤ n → 33032 ≤ w
    → PinFits m p user (replicate n 2) (replicate w 0)
fits_fresh h l u n w a b =
    record {
      held = h;
      layout_of = l;
      user-of = u;
      free = λ v. get_d-same n 2 v;
      variables = omega (arith, length-replicate {A = ℕ} n 2);
      zeros = λ i. get_d-same w 0 i;
      room = omega (arith, length-replicate {A = ℕ} w 0);
    }
