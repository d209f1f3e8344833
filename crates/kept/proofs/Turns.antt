-- One turn of the loop. Assumes nothing.
use mathlib.Core.Path.{◌≡◌, refl, ap}
use mathlib.Core.List.{List}
use Prim.Native.Nat.{ℕ, zero, suc, ◌-◌, ◌<◌}
use native.Mathlib.Omega.{arith}
use Rattle.memory.specs.Record.{undef, stored}
use Rattle.memory.specs.declared.Netlist.{Netlist}
use Rattle.kept.specs.Kept.{detached}

pub detached-none : (w : List ℕ) (net : Netlist) (n : ℕ) → n ≡ 0 → detached w net n ≡ w
unfolding detached
detached-none w net zero e = refl
detached-none w net (suc n) e = absurd (omega arith)

pub detached-more : (w : List ℕ) (net : Netlist) (n : ℕ) → 0 < n
    → detached w net n ≡ detached (stored (stored w net.nodes (n - 1) 7 undef) net.nodes (n - 1) 8 undef) net (n - 1)
unfolding detached
detached-more w net zero l = absurd (omega arith)
detached-more w net (suc n) l =
    let e : n ≡ suc n - 1 = omega arith in
    ap (λ (j : ℕ). detached (stored (stored w net.nodes j 7 undef) net.nodes j 8 undef) net j) e
