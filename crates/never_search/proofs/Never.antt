-- Clause 12.15: where frames 0 to k have no hit and no run from any latch values hits in the last of its k + 2 frames alone, no frame at all
-- has a hit, however late. Assumes nothing.
use mathlib.Core.Path.{◌≡◌, sym, ap, ap₂, ◌∙◌, subst}
use mathlib.Core.Bool.{Bool, not, ◌&&◌}
use Prim.Native.Nat.{ℕ, zero, suc, ◌+◌, ◌-◌, ◌^◌, ◌≤◌, ◌<◌}
use native.Mathlib.Nat.{zero-add}
use native.Mathlib.Decide.{dec_le, dec_lt}
use native.Mathlib.Omega.{arith}
use lib.Dec.{T}
use lib.ListN.{get_or}
use Rattle.aiger.specs.Lists.{every_below}
use Rattle.aiger.specs.Circuit.{Circuit}
use Rattle.aiger.specs.Frames.{Run, Space, value_at, constrained, allowed, hits, run_in, bits_in}
use Rattle.aiger.specs.Search.{reaches_in}
use Rattle.aiger.proofs.Tests.{and, and_left, and_right, below_at, below_all, not_T}
use Rattle.meaning.proofs.Allowed.{allowed-before}
use Rattle.meaning.proofs.Decisions.{NoneFrom}
use Rattle.never_search.specs.Runs.{hits_alone, freed_space, reaches_alone}
use Rattle.never_search.proofs.Windows.{Local, Window, window-value, window-constrained, prefix-of, suffix-of}

module _ {c : Circuit} {r q : Run} {d n : ℕ} (b : ℕ) (w : Window c r d n q) where
  abbrev bad : ℕ
  bad = get_or c.bads b 0

  -- what is allowed and what is true in the frames of a run is so in a part of it
  pub window-allowed : T (allowed c r (d + n)) → T (allowed c q n)
  unfolding allowed
  window-allowed h =
      below_all (suc n) (constrained c q)
      (λ u l.
      subst T (sym (window-constrained w u (omega arith)))
      (below_at (suc (d + n)) (constrained c r) h (d + u) (omega arith)))

  pub window-hits : T (hits c b r (d + n)) → T (hits c b q n)
  unfolding hits
  window-hits h =
      let a = allowed c r (d + n) in
      let v = value_at c r (d + n) bad in
      and (allowed c q n) (value_at c q n bad) (window-allowed (and_left a v h)) (subst T (sym (window-value w n (omega arith) bad)) (and_right a v h))

  -- a part whose last frame hits, and in none of whose frames before the run hits, hits in its last frame alone
  pub window-alone : ((u : ℕ) → u < n → T (hits c b r (d + u)) → ⊥) → T (hits c b r (d + n)) → T (hits_alone c b q n)
  unfolding hits_alone hits
  window-alone none h =
      let a = allowed c r (d + n) in
      let v = value_at c r (d + n) bad in
      and (hits c b q n) (every_below n (λ u. not (value_at c q u bad))) (window-hits h)
      (below_all n (λ u. not (value_at c q u bad))
      (λ u l. not_T (value_at c q u bad)
      (λ k. none u l
      (and (allowed c r (d + u)) (value_at c r (d + u) bad) (allowed-before c r (d + n) (d + u) (omega arith) (and_left a v h))
      (subst T (window-value w u (omega arith) bad) k)))))

module _ (c : Circuit) (s : Space) (local : Local c s) (b k : ℕ) where
  -- no sequence of frame t hits
  abbrev pub ClearIn : ℕ → Type 0
  ClearIn t = NoneFrom (reaches_in s c b t) 0 (2 ^ bits_in s t)

  module _ (plain : (t : ℕ) → t ≤ k → ClearIn t)
      (second : NoneFrom (reaches_alone (freed_space c s) c b (k + 1)) 0 (2 ^ bits_in (freed_space c s) (k + 1))) where
    -- a sequence of frame t does not hit at an earlier frame that is clear
    earlier : (t x u : ℕ) → u ≤ t → ClearIn u → T (hits c b (run_in s t x) u) → ⊥
    unfolding reaches_in
    earlier t x u l clear h =
        let p = prefix-of c s local t x u l in
        clear p.0 (omega arith) p.1 (window-hits b p.2 (subst (λ (i : ℕ). T (hits c b (run_in s t x) i)) (sym (zero-add u)) h))

    next : (t : ℕ) → ((u : ℕ) → u < t → ClearIn u) → ClearIn t
    unfolding reaches_in reaches_alone
    next t before x from fits h =
        elim (dec_le t k) [
          | yes l ↦ plain t l x from fits h
          | no l ↦
              let d = t - (k + 1) in
              let e : t ≡ d + (k + 1) = omega arith in
              let q = suffix-of c s local t x d (k + 1) (omega arith) in
              second q.0 (omega arith) q.1
              (window-alone b q.2 (λ u m a. earlier t x (d + u) (omega arith) (before (d + u) (omega arith)) a)
              (subst (λ (i : ℕ). T (hits c b (run_in s t x) i)) e h))
        ]

    below : (n u : ℕ) → u < n → ClearIn u
    below zero u l = absurd (omega arith)
    below (suc n) u l =
        elim (dec_lt u n) [
          | yes m ↦ below n u m
          | no m ↦ let e : n ≡ u = omega arith in subst ClearIn e (next n (λ v i. below n v i))
        ]

    -- no frame has a hit, however late
    pub never-hit : (t : ℕ) → ClearIn t
    never-hit t = below (suc t) t (omega arith)
