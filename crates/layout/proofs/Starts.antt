-- The latches with a free start, counted from the words of a circuit one after the other. Assumes nothing.
use mathlib.Core.Path.{◌≡◌, sym, ap, ap₂, ◌∙◌}
use mathlib.Core.Bool.{Bool, true, false, cond}
use mathlib.Core.List.{List, [], ◌∷◌, map}
use Prim.Native.Nat.{ℕ, zero, suc, ◌+◌, ◌-◌, ◌*◌, ◌≤◌, ◌<◌}
use native.Mathlib.Numerals.{add-one}
use native.Mathlib.Omega.{arith}
use lib.Dec.{eqb}
use Rattle.aiger.specs.Lists.{tally, from}
use Rattle.aiger.specs.Circuit.{Latch}
use Rattle.aiger.specs.Frames.{is_free, free_starts}
use Rattle.layout.specs.Words.{word, latches_at, latch_in, circuit_in}

unit : (b : Bool) → cond b 1 0 ≤ 1
unit true = omega arith
unit false = omega arith

tally-small : (f : ℕ → Latch) (i n : ℕ) → tally is_free (map f (from i n)) ≤ n
tally-small f i zero = omega arith
tally-small f i (suc n) = omega (arith, unit (is_free (f i)), tally-small f (suc i) n)

module _ (m : List ℕ) where
  abbrev latch_of : ℕ → Latch
  latch_of j = latch_in m (latches_at m + 3 * j)

  -- how many latches from the j-th on have a free start
  unfoldable pub free_from : ℕ → ℕ
  free_from j = tally is_free (map latch_of (from j (word m 2 - j)))

  pub free_all : free_from 0 ≡ free_starts (circuit_in m)
  unfolding free_from free_starts circuit_in
  free_all =
      let z : word m 2 - 0 ≡ word m 2 = omega arith in
      ap (λ (n : ℕ). tally is_free (map latch_of (from 0 n))) z

  pub free-none : (j : ℕ) → j ≡ word m 2 → free_from j ≡ 0
  unfolding free_from
  free-none j e =
      let z : word m 2 - j ≡ 0 = omega arith in
      ap (λ (n : ℕ). tally is_free (map latch_of (from j n))) z

  pub free_more : (at j : ℕ) → at ≡ latches_at m → j < word m 2
      → free_from j ≡ cond (eqb (word m (at + 3 * j + 2)) (word m (at + 3 * j))) 1 0 + free_from (j + 1)
  unfolding free_from
  free_more at j e h =
      let z : word m 2 - j ≡ suc (word m 2 - (j + 1)) = omega arith in
      ap (λ (n : ℕ). tally is_free (map latch_of (from j n))) z
      ∙ ap₂ (λ (a i : ℕ). cond (is_free (latch_in m (a + 3 * j))) 1 0 + tally is_free (map latch_of (from i (word m 2 - (j + 1))))) (sym e) (sym (add-one j))

  pub free-few : free_starts (circuit_in m) ≤ word m 2
  unfolding free_starts circuit_in
  free-few = tally-small latch_of 0 (word m 2)
