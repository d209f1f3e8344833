-- The size of the support, counted by marks. Assumes nothing.
use mathlib.Core.Path.{◌≡◌, refl, sym, ap, ap₂, ◌∙◌}
use mathlib.Core.Bool.{Bool, true, false, cond}
use mathlib.Core.List.{List}
use Prim.Native.Nat.{ℕ, zero, suc, ◌+◌, ◌-◌, ◌≤◌}
use native.Mathlib.Omega.{arith}
use Rattle.aiger.specs.Bits.{nonzero}
use Rattle.nodes.specs.Graph.{Pair}
use Rattle.nodes.specs.Store.{field}
use Rattle.cone.specs.Cone.{in_cone}
use Rattle.support.specs.Counting.{rank}
use Rattle.support.specs.Support.{support}
use Rattle.support.proofs.Counting.{rank-zero, rank-more}

-- the marks of the constant and of the free bits
abbrev pub LeafMarks : List Pair → List ℕ → ℕ → ℕ → Type 0
LeafMarks gs work n root = (k : ℕ) → k ≤ n → field work k 10 ≡ cond (in_cone n gs root k) 1 0

pub mark-few : (m d : ℕ) → d ≡ cond (nonzero m) 1 0 → d ≤ 1
mark-few zero d e = omega arith
mark-few (suc m) d e = omega arith

pub mark-none : (m : ℕ) → m ≡ 0 → ◌≡◌ {A = ℕ} 0 (cond (nonzero m) 1 0)
mark-none m e = rw e

pub mark-one : (m : ℕ) → (m ≡ 0 → ⊥) → ◌≡◌ {A = ℕ} 1 (cond (nonzero m) 1 0)
mark-one zero e = absurd (e refl)
mark-one (suc m) e = refl

mark-bit : (b : Bool) → ◌≡◌ {A = ℕ} (cond (nonzero (cond b 1 0)) 1 0) (cond b 1 0)
mark-bit true = refl
mark-bit false = refl

module _ (gs : List Pair) (root n : ℕ) where
  pub counted_none : (r i : ℕ) → r ≡ 0 → i ≡ 0 → r ≡ rank (support n gs root) i
  counted_none r i e f = e ∙ sym (rank-zero (support n gs root)) ∙ ap (rank (support n gs root)) (sym f)

  pub counted-more : (r i m d : ℕ) → r ≡ rank (support n gs root) i → m ≡ cond (in_cone n gs root (n - i)) 1 0 → d ≡ cond (nonzero m) 1 0
      → r + d ≡ rank (support n gs root) (i + 1)
  counted-more r i m d e f g =
      let h : d ≡ cond (in_cone n gs root (n - i)) 1 0 = g ∙ ap (λ (x : ℕ). cond (nonzero x) 1 0) f ∙ mark-bit (in_cone n gs root (n - i)) in
      ap₂ (λ (x y : ℕ). x + y) e h ∙ sym (rank-more (support n gs root) i)
