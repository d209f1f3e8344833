-- A circuit's counts are within their limits where the test of cause 3 passes. Assumes nothing.
use mathlib.Core.Path.{◌≡◌, ap}
use mathlib.Core.Bool.{true}
use mathlib.Core.List.{List}
use Prim.Native.Nat.{ℕ, ◌≤◌}
use native.Mathlib.Omega.{arith}
use lib.ListN.{length}
use Rattle.aiger.specs.File.{Header, counts_fit, header_of}
use Rattle.layout.specs.Words.{content_end, circuit_in}
use Rattle.roundtrip.proofs.LoadWrite.{counts-fit}
use Rattle.roundtrip.proofs.Holding.{header-in}
use Rattle.layout.specs.Layout.{Counted}

pub counted : (w : List ℕ) → counts_fit (header_of (circuit_in w)) ≡ true → content_end w ≤ length w → Counted w
counted w fit held =
    let limits = counts-fit (circuit_in w) fit in
    let count : (f : Header → ℕ) → f (header_of (circuit_in w)) ≡ f _ = λ f. ap f (header-in w) in
    record {
      max_var = omega (arith, count (λ h. h.M));
      inputs = omega (arith, count (λ h. h.I));
      latches = omega (arith, count (λ h. h.L));
      outputs = omega (arith, count (λ h. h.O));
      gates = omega (arith, count (λ h. h.A));
      bads = omega (arith, count (λ h. h.B));
      constraints = omega (arith, count (λ h. h.C));
      sum = omega (arith, count (λ h. h.M), count (λ h. h.I), count (λ h. h.L), count (λ h. h.A));
      held = held;
    }
