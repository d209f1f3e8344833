-- The constraints and a bad line, one after the other. Assumes nothing.
use mathlib.Core.Path.{◌≡◌, refl, sym, ap, ap₂, ◌∙◌}
use mathlib.Core.Bool.{Bool, true, false, ◌&&◌}
use mathlib.Core.List.{List, [], ◌∷◌}
use Prim.Native.Nat.{ℕ, zero, suc, ◌+◌, ◌<◌}
use native.Mathlib.Numerals.{add-one}
use native.Mathlib.Omega.{arith}
use lib.Bits.{bit_and}
use lib.ListN.{length, get_or}
use Rattle.aiger.specs.Bits.{bit}
use Rattle.aiger.specs.Lists.{every, every_below}
use Rattle.aiger.specs.Frames.{value}
use Rattle.layout.specs.Words.{word, circuit_in}
use Rattle.layout.specs.declared.Layout.{Layout}
use Rattle.words.proofs.Bits.{bit-and}
use Rattle.frames.specs.Lanes.{Ready, constrained_in, bad_in}
use Rattle.frames.proofs.Facts.{constraint-place, constraints-are, bad-place}

and_assoc : (a b c : Bool) → ((a && b) && c) ≡ (a && (b && c))
and_assoc true b c = refl
and_assoc false b c = refl

and-true : (a : Bool) → (a && true) ≡ a
and-true true = refl
and-true false = refl

-- the first number aside
below-first : (n : ℕ) (p : ℕ → Bool) → every_below (suc n) p ≡ (p 0 && every_below n (λ i. p (suc i)))
below-first zero p = sym (and-true (p 0))
below-first (suc n) p =
    ap (λ (b : Bool). b && p (suc n)) (below-first n p) ∙ and_assoc (p 0) (every_below n (λ i. p (suc i))) (p (suc n))

-- every element passes where every position does
every-below : {A : Type 0} (p : A → Bool) (xs : List A) (d : A) → every_below (length xs) (λ i. p (get_or xs i d)) ≡ every p xs
every-below p [] d = refl
every-below p (x ∷ xs) d = below-first (length xs) (λ i. p (get_or (x ∷ xs) i d)) ∙ ap (λ (b : Bool). p x && b) (every-below p xs d)

-- tests that agree below n
below-same : (n : ℕ) (p q : ℕ → Bool) → ((i : ℕ) → i < n → p i ≡ q i) → every_below n p ≡ every_below n q
below-same zero p q h = refl
below-same (suc n) p q h = ap₂ (λ (x y : Bool). x && y) (below-same n p q (λ i l. h i (omega arith))) (h n (omega arith))

-- one constraint more
pub constrained-more : (left x p k from : ℕ) (q : ℕ → Bool) → bit left p ≡ (bit from p && every_below k q) → bit x p ≡ q k
    → bit (bit_and left x) p ≡ (bit from p && every_below (k + 1) q)
constrained-more left x p k from q h e =
    bit-and left x p ∙ ap₂ (λ (x y : Bool). x && y) h e ∙ and_assoc (bit from p) (every_below k q) (q k)
    ∙ ap (λ (n : ℕ). bit from p && every_below n q) (sym (add-one k))

-- before the first
pub constrained-start : (from p : ℕ) → bit from p ≡ (bit from p && true)
constrained-start from p = sym (and-true (bit from p))

-- the constraints at the words where they stand
pub constrained-end : {m : List ℕ} {layout : Layout} {order : List ℕ} {count : ℕ} (r : Ready m layout order count) (w : ℕ → Bool)
    → every_below layout.c (λ j. value w (word m (layout.constraints + j))) ≡ constrained_in (circuit_in m) w
constrained-end {m} {layout} r w =
    let cs : List ℕ = (circuit_in m).constraints in
    below-same layout.c (λ j. value w (word m (layout.constraints + j))) (λ j. value w (get_or cs j 0)) (λ j h. ap (value w) (sym (constraint-place r j h)))
    ∙ ap (λ (n : ℕ). every_below n (λ j. value w (get_or cs j 0))) (constraints-are r) ∙ every-below (value w) cs 0

-- the bad line at the word where it stands
pub bad-end : {m : List ℕ} {layout : Layout} {order : List ℕ} {count : ℕ} (r : Ready m layout order count) (b : ℕ) → b < word m 5 → (w : ℕ → Bool)
    → value w (word m (layout.bads + b)) ≡ bad_in (circuit_in m) b w
bad-end r b l w = ap (value w) (sym (bad-place r b l))
