-- Words given to variables one after the other. Assumes nothing.
use mathlib.Core.Path.{◌≡◌, refl, sym, ap, ◌∙◌}
use mathlib.Core.Bool.{Bool}
use mathlib.Core.List.{List}
use Prim.Native.Nat.{ℕ, ◌+◌, ◌<◌}
use native.Mathlib.Omega.{arith}
use borrow.Author.Count.{below_none, below_more}
use lib.ListN.{length, set}
use lib.Seq.{get_or-set_same, get_or-set_other}
use Rattle.aiger.specs.Bits.{bit}
use Rattle.frames.specs.Lanes.{lane}
use Rattle.enumeration.specs.Blocks.{Given}

module _ (place : ℕ → ℕ) (value : ℕ → ℕ → Bool) where
  -- before the first
  pub given-start : (l : List ℕ) → Given place value 0 l l
  given-start l = record { new = below_none _; others = λ v h. refl }

  -- one more, x at k
  pub given-more : (n : ℕ) (before l : List ℕ) (k x : ℕ) → place n ≡ k → k < length l → ((i : ℕ) → i < n → place i ≡ place n → ⊥)
      → ((p : ℕ) → p < 64 → bit x p ≡ value n p) → Given place value n before l → Given place value (n + 1) before (set l k x)
  given-more n before l k x e h d b g =
      record {
        new = below_more (λ j. (p : ℕ) → p < 64 → lane (set l k x) p (place j) ≡ value j p) n
            (λ j lt p hp. ap (λ (w : ℕ). bit w p) (get_or-set_other l k (place j) x 0 (λ q. d j lt (q ∙ sym e))) ∙ g.new j lt p hp)
            (λ p hp. ap (λ (v : ℕ). lane (set l k x) p v) e ∙ ap (λ (w : ℕ). bit w p) (get_or-set_same l k x 0 h) ∙ b p hp);
        others = λ v q. get_or-set_other l k v x 0 (λ r. q n (omega arith) (e ∙ sym r)) ∙ g.others v (λ j lt r. q j (omega arith) r);
      }
