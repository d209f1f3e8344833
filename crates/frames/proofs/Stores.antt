-- Words stored one after the other at places of a list. Assumes nothing.
use mathlib.Core.Path.{◌≡◌, refl, sym, ◌∙◌, subst}
use mathlib.Core.List.{List}
use Prim.Native.Nat.{ℕ, ◌+◌, ◌<◌}
use native.Mathlib.Omega.{arith}
use borrow.Author.Count.{below_none, below_more}
use lib.ListN.{length, get_or, set}
use lib.Seq.{get_or-set_same, get_or-set_other}
use Rattle.frames.specs.Lanes.{Apart, Stored}

-- before the first store
pub stored-start : (place word : ℕ → ℕ) (l : List ℕ) → Stored place word 0 l l
stored-start place word l = record { new = below_none _; others = λ v h. refl }

-- one store more
pub stored_more : (place word : ℕ → ℕ) (n : ℕ) (before l : List ℕ) {count size : ℕ} → Apart place count size → length l ≡ size → n < count → Stored place word n before l
    → Stored place word (n + 1) before (set l (place n) (word n))
stored_more place word n before l a z h s =
    let k : ℕ = place n in
    let x : ℕ = word n in
    record {
      new = below_more (λ j. get_or (set l k x) (place j) 0 ≡ word j) n
          (λ j lt. get_or-set_other l k (place j) x 0 (λ e. a.differ j n lt h e) ∙ s.new j lt)
          (get_or-set_same l k x 0 (omega (arith, a.below n h)));
      others = λ v d. get_or-set_other l k v x 0 (λ e. d n (omega arith) (sym e)) ∙ s.others v (λ j lt e. d j (omega arith) e);
    }

-- what holds of the words below j holds of the one stored at j too
pub next_more : (Q : ℕ → ℕ → Type 0) (l : List ℕ) (j x : ℕ) → j < length l → ((i : ℕ) → i < j → Q i (get_or l i 0)) → Q j x
    → (i : ℕ) → i < j + 1 → Q i (get_or (set l j x) i 0)
next_more Q l j x h old new =
    below_more (λ i. Q i (get_or (set l j x) i 0)) j
    (λ i lt. subst (Q i) (sym (get_or-set_other l j i x 0 (λ e. omega arith))) (old i lt))
    (subst (Q j) (sym (get_or-set_same l j x 0 h)) new)
