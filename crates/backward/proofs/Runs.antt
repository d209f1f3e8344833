-- Runs that hit in their last frame alone: the machine that has them is another machine, of which all laws of this crate speak. Assumes
-- nothing.
use mathlib.Core.Path.{◌≡◌, refl, sym, ap, ◌∙◌, subst}
use mathlib.Core.Bool.{Bool, true, false, cond, not}
use mathlib.Core.Option.{none, some}
use Prim.Native.Nat.{ℕ, zero, suc, ◌<◌}
use native.Mathlib.Omega.{arith}
use lib.Dec.{T}
use Rattle.aiger.proofs.Tests.{and_left, false_of}
use Rattle.machine.specs.Machine.{Machine}
use Rattle.machine.proofs.Theorems.{Quiet, QuietBefore}
use Rattle.backward.specs.Sets.{hits_now, preimage, ahead, nearest, met, Inside}
use Rattle.backward.specs.Runs.{runs_from, runs_ahead}
use Rattle.backward.proofs.Ahead.{
  ahead-hit,
  hit-ahead,
  ahead_step,
  preimage-out,
  preimage-same,
  nearest-ahead,
  nearest-first,
  nearest-suc,
}
use Rattle.backward.proofs.Frames.{start-hits, empty-below-quiet}

module _ (m : Machine) (places : ℕ) (start : ℕ → ℕ) where
  abbrev runs : Machine
  runs = runs_from m places start

  -- where a row that does not hit leads
  pub run_step : (s r x : ℕ) → (T (m.hit s r) → ⊥) → m.step s r ≡ some x → runs.step s r ≡ some x
  run_step s r x k e = ap (λ (b : Bool). cond b none (m.step s r)) (false_of (m.hit s r) k) ∙ e

  pub step_run : (s r x : ℕ) → runs.step s r ≡ some x → (T (m.hit s r) → ⊥) × (m.step s r ≡ some x)
  step_run s r x e = go (m.hit s r) e
    where
      go : (b : Bool) → cond b none (m.step s r) ≡ some x → (T b → ⊥) × (m.step s r ≡ some x)
      go true k = absurd (let z : ◌≡◌ {A = ℕ} 0 1 = cc in omega arith)
      go false k = (λ t. t, k)

  pub runs-inside : (n : ℕ) → Inside m n → ((y : ℕ) → y < places → start y < n) → Inside runs n
  runs-inside n inside k = record { begins = k; goes = λ s r x l h e. inside.goes s r x l h (step_run s r x e).1 }

  -- the way to a nearest hit has no hit before it
  pub nearest-runs : (j s : ℕ) → T (nearest m j s) → T (ahead runs j s)
  nearest-runs zero s h = let a = hit-ahead m s (nearest-ahead m 0 s h) in ahead-hit runs s a.0 a.1 a.2
  nearest-runs (suc j) s h =
      let a = preimage-out m (nearest m j) s (and_left (preimage m (nearest m j) s) (not (met m j s)) (subst T (nearest-suc m j s) h)) in
      ahead_step runs j s a.0 a.2 a.1
      (run_step s a.0 a.2 (λ k. nearest-first m (suc j) s h 0 (omega arith) (ahead-hit m s a.0 a.1 k)) a.3)
      (nearest-runs j a.2 a.4)

  -- Where no frame before j has a hit, and from no state that starts and steps stay among a run goes j frames without a hit and hits in the
  -- next, no frame at all has a hit.
  pub never : (n : ℕ) → Inside m n → ((s : ℕ) → s < n → (y : ℕ) × (y < places) × (start y ≡ s)) → (j : ℕ) → QuietBefore m j → Quiet runs j
      → (u : ℕ) → Quiet m u
  never n inside every j before quiet u =
      empty-below-quiet m n inside j
      (λ s l h.
      let a = every s l in
      let b = start-hits runs j a.0 a.1 (subst (λ (i : ℕ). T (ahead runs j i)) (sym a.2) (nearest-runs j s h)) in
      quiet b.0 b.1 b.2)
      before u

-- start states do not matter to where runs lead
pub runs-ahead : (m : Machine) (places : ℕ) (start : ℕ → ℕ) (j s : ℕ) → ahead (runs_from m places start) j s ≡ runs_ahead m j s
unfolding hits_now preimage ahead
runs-ahead m places start zero s = refl
runs-ahead m places start (suc j) s =
    preimage-same (runs_from m places start) (ahead (runs_from m places start) j) (runs_ahead m j) s (λ r x l e. runs-ahead m places start j x)
