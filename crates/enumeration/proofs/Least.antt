-- The least number that passes, and what the search of a frame decides by it. Assumes nothing.
use mathlib.Core.Path.{◌≡◌, refl, sym, ap, ap₂, ◌∙◌, subst}
use mathlib.Core.Bool.{Bool, true, false, not, cond}
use mathlib.Core.Option.{Option, none, some}
use mathlib.Core.Logic.{⊎_elim}
use Prim.Native.Nat.{ℕ, zero, suc, ◌+◌, ◌-◌, ◌*◌, ◌^◌, ◌≤◌, ◌<◌, min}
use native.Mathlib.Nat.{eq-or-lt_of_le, le_of_suc-le-suc, not-suc-le-zero, zero-add}
use native.Mathlib.Decide.{dec_lt}
use native.Mathlib.Omega.{arith}
use lib.Dec.{T, leb, le→leb}
use Rattle.aiger.specs.Bits.{bit}
use Rattle.aiger.specs.Signature.{FirstDifference}
use Rattle.aiger.specs.Circuit.{Circuit}
use Rattle.aiger.specs.Frames.{free_bits}
use Rattle.aiger.specs.Search.{Decision, question, onward, reaches}
use Rattle.aiger.proofs.Tests.{T_true, and, and_right}
use Rattle.words.proofs.Bits.{bit-none}
pub use Rattle.meaning.proofs.Decisions.{Least, least-below}
use Rattle.enumeration.specs.Choice.{least_below, decided, decision, decision_at}
use Rattle.enumeration.specs.Blocks.{First}

module _ {p : ℕ → Bool} {n r : ℕ} (f : First p n r) where
  -- what First finds is the least
  first_some : (o : Option ℕ) → Least p n o → r < n → o ≡ some r
  first_some (some x) h l =
      let a : x < r → ⊥ = λ k. f.before x k h.1 in
      let b : r < x → ⊥ = λ k. h.2 r k (f.here l) in
      ap some (omega arith)
  first_some none h l = absurd (h r l (f.here l))

  first-none : (o : Option ℕ) → Least p n o → r ≡ n → o ≡ none
  first-none (some x) h e = absurd (f.before x (omega arith) h.1)
  first-none none h e = refl

-- ---- a block of 64 numbers, with the word that says which of them pass

module _ (p : ℕ → Bool) (block hits r : ℕ) (none_yet : (y : ℕ) → y < 64 * block → T (p y) → ⊥)
    (each : (q : ℕ) → q < 64 → bit hits q ≡ p (block * 64 + q)) (f : FirstDifference 64 hits 0 r) where
  -- none before the word's first bit passes
  pub block-before : (y : ℕ) → y < 64 * block + r → T (p y) → ⊥
  block-before y l t = elim (dec_lt y (64 * block)) [ yes h ↦ none_yet y h t | no h ↦ inside (omega arith) ]
    where
      inside : 64 * block ≤ y → ⊥
      inside h =
          let q = y - 64 * block in
          let e : block * 64 + q ≡ y = omega arith in
          subst T (sym (ap p e) ∙ sym (each q (omega (arith, f.within))) ∙ f.below q (omega arith) ∙ bit-none q) t

  -- that one does
  pub block_here : r < 64 → T (p (64 * block + r))
  block_here h =
      let e : 64 * block + r ≡ block * 64 + r = omega arith in
      T_true (ap p e ∙ sym (each r h) ∙ f.here h ∙ ap not (bit-none r))

-- ---- the decision

-- what is first of all places is first of those from 0 on
from_start : {p : ℕ → Bool} {n r : ℕ} → First p n r → First (onward 0 p) n r
from_start {p} {n} {r} f =
    record {
      within = f.within;
      before = λ x l t. f.before x l (and_right (leb 0 x) (p x) t);
      here = λ l. and (leb 0 r) (p r) (le→leb 0 r (omega arith)) (f.here l);
    }

pub from_zero : {p : ℕ → Bool} {n r : ℕ} → First (onward 0 p) n r → First p n r
from_zero {p} {n} {r} f =
    record {
      within = f.within;
      before = λ x l t. f.before x l (and (leb 0 x) (p x) (le→leb 0 x (omega arith)) t);
      here = λ l. and_right (leb 0 r) (p r) (f.here l);
    }

module _ (p : ℕ → Bool) (places lo D : ℕ) {r : ℕ} (f : First (onward lo p) (min places (lo + D)) r) where
  abbrev total : ℕ
  total = min places (lo + D)

  -- what is found below the total is the first hit
  pub first-hit : r < total → decision p places lo D ≡ Decision.hit r
  unfolding decision
  first-hit l =
      ap (λ (o : Option ℕ). decided o (cond (leb places (lo + D)) Decision.clear Decision.spent))
      (first_some f (least_below total (onward lo p)) (least-below (onward lo p) total) l)

  -- where none is, the frame is clear if the budget covers it, and else the budget is spent
  pub no_hit : r ≡ total → (q : Bool) → leb places (lo + D) ≡ q → decision p places lo D ≡ cond q Decision.clear Decision.spent
  unfolding decision
  no_hit l q e =
      ap (λ (o : Option ℕ). decided o (cond (leb places (lo + D)) Decision.clear Decision.spent))
      (first-none f (least_below total (onward lo p)) (least-below (onward lo p) total) l)
      ∙ ap (λ (x : Bool). cond x Decision.clear Decision.spent) e

-- from the first place on
module _ (c : Circuit) (b t D : ℕ) {n total r : ℕ} (bits : n ≡ free_bits c t) (size : total ≡ min (2 ^ n) D) (f : First (reaches c b t) total r) where
  abbrev all : ℕ
  all = 2 ^ free_bits c t

  all-is : 2 ^ n ≡ all
  all-is = ap (λ (k : ℕ). 2 ^ k) bits

  total-is : total ≡ min all (0 + D)
  total-is = size ∙ ap₂ min all-is (sym (zero-add D))

  found : First (onward 0 (reaches c b t)) (min all (0 + D)) r
  found = from_start (subst (λ (k : ℕ). First (reaches c b t) k r) total-is f)

  covered : leb (2 ^ n) D ≡ leb all (0 + D)
  covered = ap₂ leb all-is (sym (zero-add D))

  pub decision-hit : r < total → decision_at (question c b) t D ≡ Decision.hit r
  decision-hit l = first-hit (reaches c b t) all 0 D found (omega (arith, total-is))

  pub decision-clear : total ≤ r → leb (2 ^ n) D ≡ true → decision_at (question c b) t D ≡ Decision.clear
  decision-clear l e = no_hit (reaches c b t) all 0 D found (omega (arith, total-is, f.within)) true (sym covered ∙ e)

  pub decision-spent : total ≤ r → leb (2 ^ n) D ≡ false → decision_at (question c b) t D ≡ Decision.spent
  decision-spent l e = no_hit (reaches c b t) all 0 D found (omega (arith, total-is, f.within)) false (sym covered ∙ e)
