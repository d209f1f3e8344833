-- Clause 12.16: more budget keeps an answer of a user's search. Of two searches of one circuit by a user whose pins are the same, whatever
-- their memories, that are not refused. Assumes nothing.
use mathlib.Core.Path.{◌≡◌, refl, sym, subst}
use mathlib.Core.List.{List}
use Prim.Native.Nat.{ℕ, ◌≤◌}
use Rattle.aiger.specs.Circuit.{Circuit}
use Rattle.aiger.specs.Load.{Answer, gives}
use Rattle.aiger.specs.Search.{Outcome, Report}
use Rattle.aiger.specs.Memory.{Holds}
use Rattle.aiger.specs.Operations.{Test}
use Rattle.meaning.proofs.Outcomes.{Decided}
use Rattle.roundtrip.proofs.Determined.{never}
use Rattle.pins.specs.Pins.{pins_of}
use Rattle.pinning.specs.Operations.{PinnedSearched}
use Rattle.search.specs.Chosen.{chosen}
use Rattle.pinned_search.proofs.More.{Stays}
use Rattle.pinned_search.proofs.More as more
use Rattle.call_forms.specs.Forms.{Tested, UserSearched}

-- a call that is not refused is that of a user who may
answered : {A S : Type 0} {tests : List Test} {lent s : S} {P : Answer A → S → Type 0} {x : Answer A} {a : A} → Tested tests lent P x s
    → x ≡ gives a → P x s
answered (Tested.refuses e) q = absurd (never q)
answered (Tested.passes e p) q = p

module _ (shared shared' : List ℕ) (user : ℕ) {m m' w w' w₁ w₂ out out' o₁ o₂ : List ℕ} {c : Circuit} {b k k' D E : ℕ} {o o' : Report}
    (own : pins_of shared user ≡ pins_of shared' user) (h : Holds m c) (h' : Holds m' c) (larger : D ≤ E)
    (s : UserSearched chosen m shared user b k D w out (gives o) w₁ o₁)
    (s' : UserSearched chosen m' shared' user b k' E w' out' (gives o') w₂ o₂) where
  first : PinnedSearched chosen m (pins_of shared user) b k D w out (gives o) (w₁, o₁)
  first = answered s refl

  second : PinnedSearched chosen m' (pins_of shared user) b k' E w' out' (gives o') (w₂, o₂)
  second = subst (λ (q : ℕ → ℕ). PinnedSearched chosen m' q b k' E w' out' (gives o') (w₂, o₂)) (sym own) (answered s' refl)

  -- found and none stay with every larger budget, with the same witness
  pub user-budget-kept : k ≡ k' → Decided o.outcome → Stays o o' out o₁ out' o₂
  user-budget-kept = more.budget-kept h h' larger first second

  -- found stays with every larger bound too, with the same witness
  pub user-found-kept : (t : ℕ) → k ≤ k' → o.outcome ≡ Outcome.found t → Stays o o' out o₁ out' o₂
  user-found-kept = more.found-kept h h' larger first second

  -- none stays with every smaller bound
  pub user-none-kept : (i : ℕ) → k' ≤ k → o.outcome ≡ Outcome.none i → o'.outcome ≡ Outcome.none k'
  user-none-kept = more.none_kept h h' larger first second
