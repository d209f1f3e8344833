-- Inputs that are held and inputs that are free, by list. Assumes nothing.
use mathlib.Core.Path.{◌≡◌, refl, sym, ap, ap₂, ◌∙◌, subst}
use mathlib.Core.Bool.{Bool, true, false, not, cond, ◌&&◌}
use mathlib.Core.List.{List, [], ◌∷◌, ◌++◌, map, Memᴰ}
use mathlib.Core.Logic.{⊎_elim}
use Prim.Native.Nat.{ℕ, zero, suc, ◌+◌, ◌*◌, ◌%◌, ◌/◌, ◌≤◌, ◌<◌}
use native.Mathlib.Nat.{not-suc-le-zero, le_of_suc-le-suc}
use native.Mathlib.Omega.{arith}
use borrow.Author.Tests.{eq-eqb, ne_eqb, eqb-true, le-ltb}
use lib.Dec.{T, ltb, eqb, ltb→lt}
use lib.ListN.{length, get_or}
use Rattle.aiger.specs.Lists.{every, pairwise, tally, from, upto}
use Rattle.aiger.specs.Bits.{nonzero, odd}
use Rattle.aiger.specs.Circuit.{var}
use Rattle.aiger.specs.Frames.{value}
use Rattle.aiger.proofs.Tests.{and, and_left, and_right, T_true}
use Rattle.pins.specs.Pins.{is_held, fill, free_inputs, kept, pin_of, constant_of, tied}

-- ---- a row with the pins' values filled in

-- held inputs have their pins' values
abbrev pub Agrees : (ℕ → ℕ) → ℕ → (ℕ → Bool) → List ℕ → Type 0
Agrees q i w [] = Unit {0}
Agrees q i w (l ∷ ls) = (T (is_held (q i)) → w (var l) ≡ eqb (q i) 1) × Agrees q (suc i) w ls

-- inputs have the bits f j, f (j + 1) and so on
abbrev pub Given : (ℕ → Bool) → ℕ → (ℕ → Bool) → List ℕ → Type 0
Given f j w [] = Unit {0}
Given f j w (l ∷ ls) = (w (var l) ≡ f j) × Given f (suc j) w ls

module _ (q : ℕ → ℕ) (f w : ℕ → Bool) where
  -- the inputs have the values of a filled row
  abbrev pub Filled : ℕ → ℕ → List ℕ → Type 0
  Filled i j ls = (k : ℕ) → k < length ls → w (var (get_or ls k 0)) ≡ get_or (fill q f i j (length ls)) k false

  pub filled-agrees : (i j : ℕ) (ls : List ℕ) → Filled i j ls → Agrees q i w ls
  unfolding fill
  filled-agrees i j [] h = tt
  filled-agrees i j (l ∷ ls) h = go (is_held (q i)) h (filled-agrees (suc i) j ls) (filled-agrees (suc i) (suc j) ls)
    where
      go : (b : Bool)
          → ((k : ℕ) → k < length (l ∷ ls)
          → w (var (get_or (l ∷ ls) k 0))
          ≡ get_or (cond b (eqb (q i) 1 ∷ fill q f (suc i) j (length ls)) (f j ∷ fill q f (suc i) (suc j) (length ls))) k false)
          → (Filled (suc i) j ls → Agrees q (suc i) w ls) → (Filled (suc i) (suc j) ls → Agrees q (suc i) w ls)
          → (T b → w (var l) ≡ eqb (q i) 1) × Agrees q (suc i) w ls
      go true g r s = (λ _. g 0 (omega arith), r (λ k n. g (suc k) (omega arith)))
      go false g r s = (λ t. absurd t, s (λ k n. g (suc k) (omega arith)))

  pub filled-given : (i j : ℕ) (ls : List ℕ) → Filled i j ls → Given f j w (kept q i ls)
  unfolding fill kept
  filled-given i j [] h = tt
  filled-given i j (l ∷ ls) h = go (is_held (q i)) h (filled-given (suc i) j ls) (filled-given (suc i) (suc j) ls)
    where
      go : (b : Bool)
          → ((k : ℕ) → k < length (l ∷ ls)
          → w (var (get_or (l ∷ ls) k 0))
          ≡ get_or (cond b (eqb (q i) 1 ∷ fill q f (suc i) j (length ls)) (f j ∷ fill q f (suc i) (suc j) (length ls))) k false)
          → (Filled (suc i) j ls → Given f j w (kept q (suc i) ls)) → (Filled (suc i) (suc j) ls → Given f (suc j) w (kept q (suc i) ls))
          → Given f j w (cond b (kept q (suc i) ls) (l ∷ kept q (suc i) ls))
      go true g r s = r (λ k n. g (suc k) (omega arith))
      go false g r s = (g 0 (omega arith), s (λ k n. g (suc k) (omega arith)))

  -- a bit by its place
  pub given-at : (j : ℕ) (ls : List ℕ) → Given f j w ls → (k : ℕ) → k < length ls → w (var (get_or ls k 0)) ≡ f (j + k)
  given-at j [] g k h = absurd (not-suc-le-zero h)
  given-at j (l ∷ ls) g zero h = g.0 ∙ ap f (omega arith)
  given-at j (l ∷ ls) g (suc k) h = given-at (suc j) ls g.1 k (le_of_suc-le-suc h) ∙ ap f (omega arith)

-- the free bits of a row are those that f gives
pub fill-eq : (q : ℕ → ℕ) (f g : ℕ → Bool) (n i j : ℕ)
    → ((k : ℕ) → k < tally (λ x. not (is_held (q x))) (from i n) → f (j + k) ≡ g (j + k)) → fill q f i j n ≡ fill q g i j n
unfolding fill
fill-eq q f g zero i j h = refl
fill-eq q f g (suc n) i j h = go (is_held (q i)) h (fill-eq q f g n (suc i) j) (fill-eq q f g n (suc i) (suc j))
  where
    go : (b : Bool)
        → ((k : ℕ) → k < cond (not b) 1 0 + tally (λ x. not (is_held (q x))) (from (suc i) n) → f (j + k) ≡ g (j + k))
        → (((k : ℕ) → k < tally (λ x. not (is_held (q x))) (from (suc i) n) → f (j + k) ≡ g (j + k)) → fill q f (suc i) j n ≡ fill q g (suc i) j n)
        → (((k : ℕ) → k < tally (λ x. not (is_held (q x))) (from (suc i) n) → f (suc j + k) ≡ g (suc j + k)) → fill q f (suc i) (suc j) n ≡ fill q g (suc i) (suc j) n)
        → cond b (eqb (q i) 1 ∷ fill q f (suc i) j n) (f j ∷ fill q f (suc i) (suc j) n)
        ≡ cond b (eqb (q i) 1 ∷ fill q g (suc i) j n) (g j ∷ fill q g (suc i) (suc j) n)
    go true e r s = ap (λ (z : List Bool). eqb (q i) 1 ∷ z) (r (λ k l. e k (omega arith)))
    go false e r s =
        let z : j ≡ j + 0 = omega arith in
        ap₂ ◌∷◌ (ap f z ∙ e 0 (omega arith) ∙ ap g (sym z))
        (s (λ k l. let m : suc j + k ≡ j + suc k = omega arith in ap f m ∙ e (suc k) (omega arith) ∙ ap g (sym m)))

pub length-fill : (q : ℕ → ℕ) (f : ℕ → Bool) (n i j : ℕ) → length (fill q f i j n) ≡ n
unfolding fill
length-fill q f zero i j = refl
length-fill q f (suc n) i j = go (is_held (q i)) (length-fill q f n (suc i) j) (length-fill q f n (suc i) (suc j))
  where
    go : (b : Bool) → length (fill q f (suc i) j n) ≡ n → length (fill q f (suc i) (suc j) n) ≡ n
        → length (cond b (eqb (q i) 1 ∷ fill q f (suc i) j n) (f j ∷ fill q f (suc i) (suc j) n)) ≡ suc n
    go true r s = ap suc r
    go false r s = ap suc s

-- ---- the inputs that are kept

pub kept-count : (q : ℕ → ℕ) (i : ℕ) (ls : List ℕ) → length (kept q i ls) ≡ tally (λ x. not (is_held (q x))) (from i (length ls))
unfolding kept
kept-count q i [] = refl
kept-count q i (l ∷ ls) = go (is_held (q i)) (kept-count q (suc i) ls)
  where
    go : (b : Bool) → length (kept q (suc i) ls) ≡ tally (λ x. not (is_held (q x))) (from (suc i) (length ls))
        → length (cond b (kept q (suc i) ls) (l ∷ kept q (suc i) ls)) ≡ cond (not b) 1 0 + tally (λ x. not (is_held (q x))) (from (suc i) (length ls))
    go true r = r ∙ omega arith
    go false r = ap suc r ∙ omega arith

pub kept-length : (q : ℕ → ℕ) (ls : List ℕ) → length (kept q 0 ls) ≡ free_inputs q (length ls)
unfolding free_inputs
kept-length q ls = kept-count q 0 ls

pub kept-most : (q : ℕ → ℕ) (i : ℕ) (ls : List ℕ) → length (kept q i ls) ≤ length ls
unfolding kept
kept-most q i [] = omega arith
kept-most q i (l ∷ ls) = go (is_held (q i)) (kept-most q (suc i) ls)
  where
    go : (b : Bool) → length (kept q (suc i) ls) ≤ length ls → length (cond b (kept q (suc i) ls) (l ∷ kept q (suc i) ls)) ≤ length (l ∷ ls)
    go true r = omega arith
    go false r = omega arith

-- what holds of all, or of all pairs, holds without the held inputs
pub every-kept : (p : ℕ → Bool) (q : ℕ → ℕ) (i : ℕ) (ls r : List ℕ) → T (every p (ls ++ r)) → T (every p (kept q i ls ++ r))
unfolding kept
every-kept p q i [] r h = h
every-kept p q i (l ∷ ls) r h = go (is_held (q i)) (every-kept p q (suc i) ls r (and_right (p l) (every p (ls ++ r)) h))
  where
    go : (b : Bool) → T (every p (kept q (suc i) ls ++ r)) → T (every p (cond b (kept q (suc i) ls) (l ∷ kept q (suc i) ls) ++ r))
    go true t = t
    go false t = and (p l) (every p (kept q (suc i) ls ++ r)) (and_left (p l) (every p (ls ++ r)) h) t

pub pairwise-kept : (p : ℕ → ℕ → Bool) (q : ℕ → ℕ) (i : ℕ) (ls r : List ℕ) → T (pairwise p (ls ++ r)) → T (pairwise p (kept q i ls ++ r))
unfolding kept
pairwise-kept p q i [] r h = h
pairwise-kept p q i (l ∷ ls) r h =
    go (is_held (q i)) (pairwise-kept p q (suc i) ls r (and_right (every (p l) (ls ++ r)) (pairwise p (ls ++ r)) h))
  where
    go : (b : Bool) → T (pairwise p (kept q (suc i) ls ++ r)) → T (pairwise p (cond b (kept q (suc i) ls) (l ∷ kept q (suc i) ls) ++ r))
    go true t = t
    go false t =
        and (every (p l) (kept q (suc i) ls ++ r)) (pairwise p (kept q (suc i) ls ++ r))
        (every-kept (p l) q (suc i) ls r (and_left (every (p l) (ls ++ r)) (pairwise p (ls ++ r)) h)) t

-- an input's variable that is not held is that of an input that is kept
pub kept-mem : (q : ℕ → ℕ) (i : ℕ) (ls : List ℕ) (v : ℕ) → is_held (pin_of q i ls v) ≡ false → Memᴰ v (map var ls) → Memᴰ v (map var (kept q i ls))
unfolding kept pin_of
kept-mem q i [] v h m = m
kept-mem q i (l ∷ ls) v h m =
    go (eqb (var l) v) refl (is_held (q i)) refl h (kept-mem q (suc i) ls v)
  where
    go : (e : Bool) → eqb (var l) v ≡ e → (b : Bool) → is_held (q i) ≡ b → is_held (cond e (q i) (pin_of q (suc i) ls v)) ≡ false
        → (is_held (pin_of q (suc i) ls v) ≡ false → Memᴰ v (map var ls) → Memᴰ v (map var (kept q (suc i) ls)))
        → Memᴰ v (map var (cond b (kept q (suc i) ls) (l ∷ kept q (suc i) ls)))
    go true x true y z r = absurd (subst T (sym y ∙ z) tt)
    go true x false y z r = mathlib.Core.List.Memᴰ.head (sym (eqb-true (var l) v x))
    go false x b y z r =
        let s : Memᴰ v (map var ls) =
        ⊎_elim (λ a. absurd (subst T (sym (eq-eqb (var l) v (sym a)) ∙ x) tt)) (λ a. a) (mathlib.Core.List.Memᴰ.cases_cons m) in
        back b (r z s)
      where
        back : (d : Bool) → Memᴰ v (map var (kept q (suc i) ls)) → Memᴰ v (map var (cond d (kept q (suc i) ls) (l ∷ kept q (suc i) ls)))
        back true a = a
        back false a = mathlib.Core.List.Memᴰ.tail a

-- ---- literals

-- a variable has its pin's value where the held inputs have theirs
pub pin-value : (q : ℕ → ℕ) (i : ℕ) (w : ℕ → Bool) (ls : List ℕ) → Agrees q i w ls → (v : ℕ) → T (is_held (pin_of q i ls v)) → w v ≡ eqb (pin_of q i ls v) 1
unfolding pin_of
pin-value q i w [] a v t = absurd t
pin-value q i w (l ∷ ls) a v t = go (eqb (var l) v) refl t (pin-value q (suc i) w ls a.1 v)
  where
    go : (e : Bool) → eqb (var l) v ≡ e → T (is_held (cond e (q i) (pin_of q (suc i) ls v)))
        → (T (is_held (pin_of q (suc i) ls v)) → w v ≡ eqb (pin_of q (suc i) ls v) 1) → w v ≡ eqb (cond e (q i) (pin_of q (suc i) ls v)) 1
    go true x k r = ap w (sym (eqb-true (var l) v x)) ∙ a.0 k
    go false x k r = r k

-- the constant of a literal has the literal's value
pub constant-value : (w : ℕ → Bool) (p l : ℕ) → w 0 ≡ false → (T (is_held p) → w (var l) ≡ eqb p 1) → value w (constant_of p l) ≡ value w l
constant-value w zero l z h = go (l % 2) ((0 + l) % 2) (omega arith) (omega arith)
  where
    go : (s r : ℕ) → s < 2 → r ≡ s → value w r ≡ cond (nonzero s) (not (w (var l))) (w (var l))
    go zero zero k e = z ∙ sym (h tt)
    go (suc zero) (suc zero) k e = ap not (z ∙ sym (h tt))
    go zero (suc r) k e = absurd (omega arith)
    go (suc zero) zero k e = absurd (omega arith)
    go (suc zero) (suc (suc r)) k e = absurd (omega arith)
    go (suc (suc s)) r k e = absurd (omega arith)
constant-value w (suc zero) l z h = go (l % 2) ((1 + l) % 2) (omega arith) (omega arith)
  where
    go : (s r : ℕ) → s < 2 → r + s ≡ 1 → value w r ≡ cond (nonzero s) (not (w (var l))) (w (var l))
    go zero (suc zero) k e = ap not z ∙ sym (h tt)
    go (suc zero) zero k e = z ∙ ap not (sym (h tt))
    go zero zero k e = absurd (omega arith)
    go zero (suc (suc r)) k e = absurd (omega arith)
    go (suc zero) (suc r) k e = absurd (omega arith)
    go (suc (suc s)) r k e = absurd (omega arith)
constant-value w (suc (suc p)) l z h = rw (le-ltb (suc (suc p)) 2 (omega arith))

pub tied-value : (q : ℕ → ℕ) (w : ℕ → Bool) (ls : List ℕ) → w 0 ≡ false → Agrees q 0 w ls → (l : ℕ) → value w (tied q ls l) ≡ value w l
unfolding tied
tied-value q w ls z a l = constant-value w (pin_of q 0 ls (var l)) l z (pin-value q 0 w ls a (var l))

-- a literal that is tied is a constant
pub tied-cases : (p l : ℕ) (P : ℕ → Type 0) → P 0 → P 1 → (is_held p ≡ false → P l) → P (constant_of p l)
tied-cases p l P a b h = go (is_held p) h
  where
    go : (e : Bool) → (e ≡ false → P l) → P (cond e ((p + l) % 2) l)
    go true k = two ((p + l) % 2) (omega arith)
      where
        two : (n : ℕ) → n < 2 → P n
        two zero _ = a
        two (suc zero) _ = b
        two (suc (suc n)) x = absurd (omega arith)
    go false k = k refl
