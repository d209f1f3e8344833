-- What is decided from a place on, by the first place that hits. Assumes nothing.
use mathlib.Core.Path.{◌≡◌, sym, ap, ◌∙◌, subst}
use mathlib.Core.Bool.{true, false}
use Prim.Native.Nat.{ℕ, ◌+◌, ◌^◌, ◌≤◌, ◌<◌, min}
use native.Mathlib.Omega.{arith}
use lib.Dec.{leb}
use Rattle.aiger.specs.Circuit.{Circuit}
use Rattle.aiger.specs.Frames.{free_bits}
use Rattle.aiger.specs.Search.{Decision, onward, reaches}
use Rattle.enumeration.specs.Blocks.{First}
use Rattle.enumeration.specs.Choice.{decision}
use Rattle.enumeration.proofs.Least.{first-hit, no_hit}
use Rattle.place_enumeration.specs.From.{decision_from}

module _ (c : Circuit) (b t lo D : ℕ) {n total r : ℕ} (bits : n ≡ free_bits c t) (size : total ≡ min (2 ^ n) (lo + D))
    (f : First (onward lo (reaches c b t)) total r) where
  abbrev all : ℕ
  all = 2 ^ free_bits c t

  all-is : 2 ^ n ≡ all
  all-is = ap (λ (k : ℕ). 2 ^ k) bits

  total-is : total ≡ min all (lo + D)
  total-is = size ∙ ap (λ (k : ℕ). min k (lo + D)) all-is

  found : First (onward lo (reaches c b t)) (min all (lo + D)) r
  found = subst (λ (k : ℕ). First (onward lo (reaches c b t)) k r) total-is f

  covered : leb (2 ^ n) (lo + D) ≡ leb all (lo + D)
  covered = ap (λ (k : ℕ). leb k (lo + D)) all-is

  pub from-hit : r < total → decision_from c b t lo D ≡ Decision.hit r
  from-hit l = first-hit (reaches c b t) all lo D found (omega (arith, total-is))

  pub from-clear : total ≤ r → leb (2 ^ n) (lo + D) ≡ true → decision_from c b t lo D ≡ Decision.clear
  from-clear l e = no_hit (reaches c b t) all lo D found (omega (arith, total-is, f.within)) true (sym covered ∙ e)

  pub from-spent : total ≤ r → leb (2 ^ n) (lo + D) ≡ false → decision_from c b t lo D ≡ Decision.spent
  from-spent l e = no_hit (reaches c b t) all lo D found (omega (arith, total-is, f.within)) false (sym covered ∙ e)
