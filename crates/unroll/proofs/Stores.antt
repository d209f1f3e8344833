-- Words of edges, written to a map. Assumes nothing.
use mathlib.Core.Path.{◌≡◌, sym, ap₂, ◌∙◌, subst}
use mathlib.Core.List.{List}
use mathlib.Core.Logic.{◌⊎◌, inl, inr, ⊎_elim}
use Prim.Native.Nat.{ℕ, zero, suc, ◌+◌, ◌<◌}
use native.Mathlib.Nat.{eq-or-lt_of_le, le_of_suc-le-suc, not-suc-le-zero}
use native.Mathlib.Decide.{ℕ_discrete}
use native.Mathlib.Omega.{arith}
use lib.ListN.{length, get_or, set}
use lib.Seq.{get_or-set_same, get_or-set_other}
use Rattle.aiger.specs.Circuit.{var}
use Rattle.frames.specs.Lanes.{Apart}
use Rattle.frames.proofs.Stores.{stored_more}
use Rattle.unroll.specs.Map.{Written}

-- whether one of the places is v
placed : (place : ℕ → ℕ) (n v : ℕ) → ((j : ℕ) × (j < n) × (place j ≡ v)) ⊎ ((j : ℕ) → j < n → place j ≡ v → ⊥)
placed place zero v = inr (λ j l e. not-suc-le-zero l)
placed place (suc n) v = go (ℕ_discrete (place n) v) (placed place n v)
  where
    go : Dec (place n ≡ v) → ((j : ℕ) × (j < n) × (place j ≡ v)) ⊎ ((j : ℕ) → j < n → place j ≡ v → ⊥)
        → ((j : ℕ) × (j < suc n) × (place j ≡ v)) ⊎ ((j : ℕ) → j < suc n → place j ≡ v → ⊥)
    go (yes e) r = inl (n, omega arith, e)
    go (no d) r =
        ⊎_elim (λ q. inl (q.0, omega (arith, q.1), q.2))
        (λ h. inr (λ j l e. ⊎_elim (λ q. d (subst (λ (i : ℕ). place i ≡ v) q e)) (λ k. h j k e) (eq-or-lt_of_le (le_of_suc-le-suc l)))) r

-- one word more
pub put-more : (place words : ℕ → ℕ) (n : ℕ) (before l after : List ℕ) {count size : ℕ} → Apart place count size → length l ≡ size → n < count
    → Written place words n before l → {v e : ℕ} → v ≡ place n → e ≡ words n → after ≡ set l v e → Written place words (n + 1) before after
put-more place words n before l after a z h s p q r =
    subst (λ (y : List ℕ). Written place words (n + 1) before y) (sym (r ∙ ap₂ (λ (v e : ℕ). set l v e) p q)) (stored_more place words n before l a z h s)

-- where all words were edges of the first k nodes, and those that are written are, all are after
pub written-edges : {place words : ℕ → ℕ} {n : ℕ} {before after : List ℕ} (k : ℕ) → Written place words n before after
    → ((v : ℕ) → var (get_or before v 0) < k) → ((j : ℕ) → j < n → var (words j) < k) → (v : ℕ) → var (get_or after v 0) < k
written-edges {place} {words} {n} {before} {after} k s b w v =
    ⊎_elim
    (λ q. subst (λ (y : ℕ). var (get_or after y 0) < k) q.2 (subst (λ (y : ℕ). var y < k) (sym (s.new q.0 q.1)) (w q.0 q.1)))
    (λ h. subst (λ (y : ℕ). var y < k) (sym (s.others v h)) (b v))
    (placed place n v)

-- the same of one word
pub set-edges : (map : List ℕ) (at word k : ℕ) → at < length map → ((v : ℕ) → var (get_or map v 0) < k) → var word < k
    → (v : ℕ) → var (get_or (set map at word) v 0) < k
set-edges map at word k h b w v = go (ℕ_discrete v at)
  where
    go : Dec (v ≡ at) → var (get_or (set map at word) v 0) < k
    go (yes e) = subst (λ (y : ℕ). var (get_or (set map at word) y 0) < k) (sym e) (subst (λ (y : ℕ). var y < k) (sym (get_or-set_same map at word 0 h)) w)
    go (no d) = subst (λ (y : ℕ). var y < k) (sym (get_or-set_other map at v word 0 d)) (b v)
