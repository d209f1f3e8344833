-- Words stored one after the other. Assumes nothing.
use mathlib.Core.Path.{◌≡◌, sym, ap, ◌∙◌, subst}
use mathlib.Core.List.{List}
use native.Mathlib.Decide.{dec_lt}
use Prim.Native.Nat.{ℕ, ◌+◌, ◌-◌, ◌*◌, ◌≤◌, ◌<◌}
use native.Mathlib.Omega.{arith}
use lib.ListN.{length, get_or, set}
use Rattle.frames.specs.Lanes.{Apart, Stored}
use Rattle.frames.proofs.Stores.{stored_more}
use Rattle.renumber.specs.Names.{Put}

-- consecutive places are apart
pub run-apart : (to n size : ℕ) → to + n ≤ size → Apart (λ j. to + j) n size
run-apart to n size h = record { below = λ j l. omega arith; differ = λ i j l k e. omega arith }

-- one word more
pub put-more : (to : ℕ) (f : ℕ → ℕ) (n j : ℕ) (before l : List ℕ) → length l ≡ length before → j < n → to + n ≤ length before → Put to f j before l
    → (x : ℕ) → x ≡ f j → Put to f (j + 1) before (set l (to + j) x)
put-more to f n j before l z h r s x e =
    subst (λ (y : ℕ). Put to f (j + 1) before (set l (to + j) y)) (sym e)
    (stored_more (λ i. to + i) f j before l (run-apart to n (length before) r) z h s)

-- all words
pub stored-all : (place f : ℕ → ℕ) {n j : ℕ} (before l : List ℕ) → j ≡ n → Stored place f j before l → Stored place f n before l
stored-all place f before l e s = subst (λ (k : ℕ). Stored place f k before l) e s

-- a block of n words after j blocks: word i of all of them is word i % n of block i / n
pub block_more : (to n : ℕ) (f : ℕ → ℕ) (g : ℕ → ℕ) (j : ℕ) (before l m : List ℕ) → ((r : ℕ) → r < n → f (n * j + r) ≡ g r) → Put to f (n * j) before l
    → Put (to + n * j) g n l m → Put to f (n * (j + 1)) before m
block_more to n f g j before l m e s u =
    let old : (i : ℕ) → i < n * j → get_or m (to + i) 0 ≡ f i = λ i h. u.others (to + i) (λ k lt q. omega arith) ∙ s.new i h in
    let fresh : (i : ℕ) → n * j ≤ i → i < n * (j + 1) → get_or m (to + i) 0 ≡ f i =
    λ i h k.
    let r : n * j + (i - n * j) ≡ i = omega arith in
    let b : i - n * j < n = omega arith in
    let p : to + n * j + (i - n * j) ≡ to + i = omega arith in
    ap (λ (x : ℕ). get_or m x 0) (sym p) ∙ u.new (i - n * j) b ∙ sym (e (i - n * j) b) ∙ ap f r in
    record {
      new = λ i h. elim (dec_lt i (n * j)) [ yes lt ↦ old i lt | no ge ↦ fresh i (omega arith) h ];
      others = λ i h.
          u.others i (λ k lt q. h (n * j + k) (omega arith) (omega arith)) ∙ s.others i (λ k lt q. h k (omega arith) q);
    }
