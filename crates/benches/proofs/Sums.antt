-- Clause 12.17: the grants since the allowance was last set, and what is left of it, are the allowance set. Assumes nothing.
use mathlib.Core.Path.{◌≡◌, refl}
use mathlib.Core.List.{List, [], ◌∷◌}
use Prim.Native.Nat.{ℕ, ◌+◌, ◌-◌, ◌≤◌}
use native.Mathlib.Omega.{arith}
use Rattle.aiger.specs.Circuit.{Circuit}
use Rattle.place_search.specs.Places.{Placed}
use Rattle.benches.specs.Bench.{Bench, ended}
use Rattle.benches.specs.Happenings.{Event, Step, History, Account, accounted, account_of}

module _ (chosen : Circuit → ℕ → ℕ → ℕ → ℕ → Placed) where
  balanced-step : {s u : Bench} {e : Event} → Step chosen s e u → (t : Account) → t.grants + s.allowance ≡ t.set
      → (accounted t e).grants + u.allowance ≡ (accounted t e).set
  balanced-step (Step.queues f r) t h = h
  balanced-step (Step.allows r) t h = omega arith
  balanced-step (Step.turns w g a) t h = omega arith
  balanced-step (Step.idles w) t h = h
  balanced-step Step.finishes t h = refl
  balanced-step Step.overwrites t h = h
  balanced-step Step.others t h = h

  -- from any bench on, where t says what was set and granted before
  pub balanced : {s u : Bench} {es : List Event} → History chosen s es u → (t : Account) → t.grants + s.allowance ≡ t.set
      → (account_of t es).grants + u.allowance ≡ (account_of t es).set
  balanced History.stops t h = h
  balanced (History.goes {e = e} p r) t h = balanced r (accounted t e) (balanced-step p t h)

  -- from a bench that has ended on
  pub sums : {u : Bench} {es : List Event} → History chosen ended es u
      → let t = account_of (record { set = 0; grants = 0 }) es in t.grants + u.allowance ≡ t.set
  sums r = balanced r (record { set = 0; grants = 0 }) refl
