-- The steps of the code, each taken by the definitions. Assumes nothing.
use mathlib.Core.Path.{◌≡◌, refl, sym, ap, ap₂, ◌∙◌}
use mathlib.Core.Bool.{Bool, true, false, not, cond}
use mathlib.Core.List.{List}
use mathlib.Core.Option.{Option, none, some}
use Prim.Native.Nat.{ℕ, zero, suc, ◌+◌, ◌-◌, ◌≤◌, ◌<◌}
use native.Mathlib.Omega.{arith}
use borrow.Author.Tests.{lt-ltb, le-ltb}
use lib.Dec.{ltb}
use lib.ListN.{length, get_or, set, take, drop}
use Rattle.diagrams.specs.Words.{flip}
use Rattle.diagrams.specs.States.{State, state_of, Outcome, outcome, and_then}
use Rattle.diagrams.proofs.Follow.{then-full, then-edge}
use Rattle.conjunction.specs.Conjunction.{both, either}
use Rattle.substitution.specs.Substitution.{substituted}
use Rattle.collection.specs.Collecting.{Collection, collection, collected}
use Rattle.state_sets.specs.Shape.{row_at}
use Rattle.state_sets.specs.Sets.{Sets, sets_of, Tried, tried, left, on_done, where_done, next_of, before, row_part, with_row, part_in, added_row, set_in, closed, step_of, after_collection, or_again, again, turns, advanced, starts_in}

-- the test of an answer's complement
pub refused : (b : Bool) → not b ≡ true → b ≡ false
refused true h = sym h
refused false h = refl

pub granted : (b : Bool) → not b ≡ false → b ≡ true
granted true h = refl
granted false h = sym h

-- ---- the states before

module _ (vars last r : ℕ) (table : List ℕ) (s : State) (from to all : ℕ) (pf : from ≡ row_at vars r) (pt : to ≡ from + vars)
    (pa : all ≡ flip (get_or table 256 0) 1) where
  abbrev first : Outcome
  first = substituted (take (to - from) (drop from table)) r s (get_or table last 0)

  abbrev second : State → ℕ → Outcome
  second t x = both t (get_or table to 0) x

  part_same : take (to - from) (drop from table) ≡ next_of vars r table
  unfolding next_of
  part_same = let e : to - from ≡ vars = omega arith in ap₂ (λ (n k : ℕ). take n (drop k table)) e pf

  before-from : (o : Outcome) → o ≡ and_then first (λ t x. and_then (second t x) (λ u y. both u all y)) → o ≡ before vars last r table s
  unfolding before
  before-from o h =
      h
      ∙ (λ i. and_then (substituted (part_same i) r s (get_or table last 0)) (λ t x. and_then (both t (get_or table (at i) 0) x) (λ u y. both u (pa i) y)))
    where
      at : to ≡ row_at vars r + vars
      at = pt ∙ ap (λ (k : ℕ). k + vars) pf

  pub before-none : (t : State) → outcome t none ≡ first → outcome t none ≡ before vars last r table s
  before-none t h = before-from (outcome t none) (then-full first (λ t x. and_then (second t x) (λ u y. both u all y)) t h)

  pub before-out : (t u : State) (x : ℕ) → outcome t (some x) ≡ first → outcome u none ≡ second t x → outcome u none ≡ before vars last r table s
  before-out t u x h k =
      before-from (outcome u none)
      (then-edge first (λ t x. and_then (second t x) (λ u y. both u all y)) t x (outcome u none) h
      (then-full (second t x) (λ u y. both u all y) u k))

  pub before-edge : (t u : State) (x y : ℕ) (o : Outcome) → outcome t (some x) ≡ first → outcome u (some y) ≡ second t x → o ≡ both u all y
      → o ≡ before vars last r table s
  before-edge t u x y o h k q =
      before-from o
      (then-edge first (λ t x. and_then (second t x) (λ u y. both u all y)) t x o h (then-edge (second t x) (λ u y. both u all y) u y o k q))

-- ---- what a row adds

pub row-part-hit : (vars next r at : ℕ) (table : List ℕ) (s : State) → next ≡ 0 → at ≡ row_at vars r + vars + 1
    → outcome s (some (get_or table at 0)) ≡ row_part vars next r table s
row-part-hit vars next r at table s e q =
    ap (λ (k : ℕ). outcome s (some (get_or table k 0))) q ∙ sym (ap (λ (n : ℕ). row_part vars n r table s) e)

pub row-part-before : (vars next last r : ℕ) (table : List ℕ) (s : State) (o : Outcome) → next ≡ suc last → o ≡ before vars last r table s
    → o ≡ row_part vars next r table s
row-part-before vars next last r table s o e h = h ∙ sym (ap (λ (n : ℕ). row_part vars n r table s) e)

module _ (vars next r : ℕ) (table : List ℕ) (s : State) where
  pub with_none : (t : State) → outcome t none ≡ row_part vars next r table s → outcome t none ≡ with_row vars next r table s
  unfolding with_row
  with_none t h = then-full (row_part vars next r table s) (λ t x. either t (get_or table 257 0) x) t h

  pub with-edge : (t : State) (x : ℕ) (o : Outcome) → outcome t (some x) ≡ row_part vars next r table s → o ≡ either t (get_or table 257 0) x
      → o ≡ with_row vars next r table s
  unfolding with_row
  with-edge t x o h q = then-edge (row_part vars next r table s) (λ t x. either t (get_or table 257 0) x) t x o h q

  pub added_none : (t : State) → outcome t none ≡ with_row vars next r table s
      → tried t table false ≡ added_row vars next r (record { state = s; table = table })
  unfolding added_row
  added_none t h = ap (part_in table) h

  pub added-edge : (t : State) (e : ℕ) → outcome t (some e) ≡ with_row vars next r table s
      → tried t (set table 257 e) true ≡ added_row vars next r (record { state = s; table = table })
  unfolding added_row
  added-edge t e h = ap (part_in table) h

module _ (next : ℕ) (table : List ℕ) (s : State) where
  pub closed_none : (t : State) → outcome t none ≡ either s (get_or table 256 0) (get_or table 257 0)
      → tried t table false ≡ closed next (record { state = s; table = table })
  unfolding closed
  closed_none t h = ap (set_in next table) h

  pub closed-edge : (t : State) (e : ℕ) → outcome t (some e) ≡ either s (get_or table 256 0) (get_or table 257 0)
      → tried t (set (set (set table 256 e) 257 0) next (get_or table 257 0)) true ≡ closed next (record { state = s; table = table })
  unfolding closed
  closed-edge t e h = ap (set_in next table) h

-- ---- steps

module _ (vars rows next r : ℕ) (z : Sets) where
  pub step_row : (t : Tried) → r < rows → t ≡ added_row vars next r z → t ≡ step_of vars rows next r z
  unfolding step_of
  step_row t l h = h ∙ sym (rw (lt-ltb r rows l))

  pub step-close : (t : Tried) → rows ≤ r → t ≡ closed next z → t ≡ step_of vars rows next r z
  unfolding step_of
  step-close t l h = h ∙ sym (rw (le-ltb r rows l))

module _ (step : Sets → Tried) (z : Sets) where
  abbrev ended : Tried → Tried
  ended t = or_again t.done t.sets step

  pub again-done : (y : Sets) → record { sets = y; done = true } ≡ step z → record { sets = y; done = true } ≡ again step z
  again-done y h = ap ended h

  pub again-out : (y : Sets) (t : State) (table : List ℕ) → record { sets = y; done = false } ≡ step z
      → collection t table false ≡ collected y.state y.table → tried t table false ≡ again step z
  again-out y t table h g = ap (λ (x : Collection). after_collection x step) g ∙ ap ended h

  pub again-more : (y : Sets) (t : State) (table : List ℕ) (x : Tried) → record { sets = y; done = false } ≡ step z
      → collection t table true ≡ collected y.state y.table → x ≡ step (record { state = t; table = table }) → x ≡ again step z
  again-more y t table x h g q = q ∙ ap (λ (x : Collection). after_collection x step) g ∙ ap ended h

module _ (step : ℕ → Sets → Tried) where
  pub turns-none : (n r : ℕ) (z : Sets) → n ≡ 0 → turns step n r z ≡ record { sets = z; done = true }
  unfolding turns
  turns-none n r z e = ap (λ (k : ℕ). turns step k r z) e

  pub turns-stop : (n k r : ℕ) (z y : Sets) → n ≡ suc k → record { sets = y; done = false } ≡ again (step r) z
      → record { sets = y; done = false } ≡ turns step n r z
  unfolding turns
  turns-stop n k r z y e h = ap (λ (t : Tried). where_done t (turns step k (suc r))) h ∙ sym (ap (λ (k : ℕ). turns step k r z) e)

  pub turns_more : (n k r l : ℕ) (z y : Sets) → n ≡ suc k → l ≡ suc r → record { sets = y; done = true } ≡ again (step r) z
      → turns step k l y ≡ turns step n r z
  unfolding turns
  turns_more n k r l z y e q h =
      ap (λ (i : ℕ). turns step k i y) q ∙ ap (λ (t : Tried). where_done t (turns step k (suc r))) h
      ∙ sym (ap (λ (k : ℕ). turns step k r z) e)

pub turns-all : (vars rows next : ℕ) (z : Sets) (n : ℕ) → n ≡ suc rows → turns (step_of vars rows next) n 0 z ≡ advanced vars rows next z
unfolding advanced
turns-all vars rows next z n e = ap (λ (k : ℕ). turns (step_of vars rows next) k 0 z) e

pub starts_is : (vars rows t at : ℕ) (table : List ℕ) (s : State) (o : Outcome) → at ≡ row_at vars rows
    → o ≡ both s (get_or table t 0) (get_or table at 0) → o ≡ starts_in vars rows t table s
unfolding starts_in
starts_is vars rows t at table s o e h = h ∙ ap (λ (k : ℕ). both s (get_or table t 0) (get_or table k 0)) e
