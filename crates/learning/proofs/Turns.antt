-- One turn of the loop. Assumes nothing.
use mathlib.Core.Path.{◌≡◌, refl, ap}
use mathlib.Core.List.{List}
use Prim.Native.Nat.{ℕ, zero, suc, ◌-◌, ◌<◌}
use native.Mathlib.Omega.{arith}
use Rattle.memory.specs.declared.Netlist.{Netlist}
use Rattle.memory.specs.declared.Arena.{Arena}
use Rattle.resolve.specs.Draft.{draft_at}
use Rattle.learning.specs.declared.TopTwo.{TopTwo}
use Rattle.learning.specs.Learning.{ranked, ranked_all}

module _ (w : List ℕ) (net : Netlist) (arena : Arena) where
  pub ranked-none : (n : ℕ) (h : TopTwo) → n ≡ 0 → ranked_all w net arena n h ≡ h
  unfolding ranked_all
  ranked-none zero h e = refl
  ranked-none (suc n) h e = absurd (omega arith)

  pub ranked-more : (n : ℕ) (h : TopTwo) → 0 < n
      → ranked_all w net arena n h ≡ ranked_all w net arena (n - 1) (ranked w net.nodes h (draft_at w net arena (n - 1)))
  unfolding ranked_all
  ranked-more zero h l = absurd (omega arith)
  ranked-more (suc n) h l =
      let p : n ≡ suc n - 1 = omega arith in
      ap (λ (k : ℕ). ranked_all w net arena k (ranked w net.nodes h (draft_at w net arena k))) p
