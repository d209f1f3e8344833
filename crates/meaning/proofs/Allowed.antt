-- Sequences that break no constraint: frame by frame, up to a frame, and where there is no constraint. Clauses 2.5 and 12.4. Assumes nothing.
use mathlib.Core.Path.{◌≡◌, refl, sym, ap, ap₂, ◌∙◌, subst}
use mathlib.Core.Bool.{Bool, true, false, ◌&&◌, true-and}
use mathlib.Core.List.{List, [], Memᴰ}
use Prim.Native.Nat.{ℕ, zero, suc, ◌≤◌, ◌<◌}
use native.Mathlib.Omega.{arith}
use lib.Dec.{T}
use lib.ListN.{get_or}
use Rattle.aiger.specs.Lists.{every, every_below}
use Rattle.aiger.specs.Circuit.{Circuit}
use Rattle.aiger.specs.Frames.{Run, value_at, constrained, allowed, hits}
use Rattle.aiger.proofs.Tests.{and_left, true-T, T_true, below_at, below_all, false_of, below-same}
use Rattle.meaning.proofs.Lists.{every-mem}

module _ (c : Circuit) (r : Run) where
  -- frame 0, and one frame more
  pub allowed-first : allowed c r 0 ≡ constrained c r 0
  unfolding allowed
  allowed-first = true-and (constrained c r 0)

  pub allowed-next : (t : ℕ) → allowed c r (suc t) ≡ (allowed c r t && constrained c r (suc t))
  unfolding allowed
  allowed-next t = refl

  -- a constraint is true in every frame up to one at which the run is allowed
  pub constraint-true : (t u l : ℕ) → T (allowed c r t) → u ≤ t → Memᴰ l c.constraints → T (value_at c r u l)
  unfolding allowed constrained
  constraint-true t u l h k m = every-mem (value_at c r u) m (below_at (suc t) (constrained c r) h u (omega arith))

  -- a run that is allowed at a frame is allowed at those before
  pub allowed-before : (t u : ℕ) → u ≤ t → T (allowed c r t) → T (allowed c r u)
  unfolding allowed
  allowed-before t u k h = below_all (suc u) (constrained c r) (λ x l. below_at (suc t) (constrained c r) h x (omega arith))

  -- a run that breaks a constraint hits at no later frame
  pub barred : (b t u : ℕ) → u ≤ t → allowed c r u ≡ false → hits c b r t ≡ false
  unfolding hits
  barred b t u k e =
      ap (λ (x : Bool). x && value_at c r t (get_or c.bads b 0))
      (false_of (allowed c r t) (λ h. subst T e (allowed-before t u k h)))

  -- where there is no constraint every run is allowed
  pub unconstrained : c.constraints ≡ [] → (t : ℕ) → allowed c r t ≡ true
  unfolding allowed constrained
  unconstrained e t =
      true-T (allowed c r t)
      (below_all (suc t) (constrained c r) (λ u l. T_true (ap (λ (ls : List ℕ). every (value_at c r u) ls) e)))

and-four : (a b x y : Bool) → ((a && b) && (x && y)) ≡ ((a && x) && (b && y))
and-four true true x y = refl
and-four true false true y = refl
and-four true false false y = refl
and-four false b x y = refl

below_both : (n : ℕ) (p q : ℕ → Bool) → every_below n (λ u. p u && q u) ≡ (every_below n p && every_below n q)
below_both zero p q = refl
below_both (suc n) p q =
    ap (λ (x : Bool). x && (p n && q n)) (below_both n p q) ∙ and-four (every_below n p) (every_below n q) (p n) (q n)

-- runs whose constraints agree in each frame are allowed together
pub allowed_same : (c d : Circuit) (r s : Run) (t : ℕ) → ((u : ℕ) → u ≤ t → constrained c r u ≡ constrained d s u) → allowed c r t ≡ allowed d s t
unfolding allowed
allowed_same c d r s t h = below-same (suc t) (constrained c r) (constrained d s) (λ u l. h u (omega arith))

-- a run whose constraints in each frame are those of two others is allowed where both are
pub allowed-both : (j c d : Circuit) (s r q : Run) (t : ℕ)
    → ((u : ℕ) → u ≤ t → constrained j s u ≡ (constrained c r u && constrained d q u)) → allowed j s t ≡ (allowed c r t && allowed d q t)
unfolding allowed
allowed-both j c d s r q t h =
    below-same (suc t) (constrained j s) (λ u. constrained c r u && constrained d q u) (λ u l. h u (omega arith))
    ∙ below_both (suc t) (constrained c r) (constrained d q)
