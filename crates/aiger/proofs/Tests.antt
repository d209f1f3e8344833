-- Laws of tests: taken apart, put together, and read off lists. Assumes nothing.
use mathlib.Core.Path.{◌≡◌, refl, sym, ap, ap₂, subst}
use mathlib.Core.Bool.{Bool, true, false, cond, not, ◌&&◌, ◌||◌, beq}
use mathlib.Core.List.{List, [], ◌∷◌, ◌++◌, map}
use mathlib.Core.Logic.{◌⊎◌, inl, inr, ⊎_elim}
use Prim.Native.Nat.{ℕ, zero, suc, ◌+◌, ◌≤◌, ◌<◌}
use native.Mathlib.Nat.{eq-or-lt_of_le, le_of_suc-le-suc, not-suc-le-zero}
use native.Mathlib.Omega.{arith}
use lib.Dec.{T, eqb, eqb→eq}
pub use lib.Dec.{T_not as not-both, not_T}
use lib.ListN.{length, get_or}
use Rattle.aiger.specs.Lists.{all, every, every_below, pairwise, same}
use Rattle.aiger.specs.Bits.{nonzero}

pub and_left : (a b : Bool) → T (a && b) → T a
and_left true b t = tt
and_left false b t = t

pub and_right : (a b : Bool) → T (a && b) → T b
and_right true b t = t
and_right false b t = absurd t

pub and : (a b : Bool) → T a → T b → T (a && b)
and true b s t = t
and false b s t = s

pub true-T : (a : Bool) → T a → a ≡ true
true-T true t = refl
true-T false t = absurd t

pub T_true : {a : Bool} → a ≡ true → T a
T_true e = subst T (sym e) tt

pub false_of : (a : Bool) → (T a → ⊥) → a ≡ false
false_of true f = absurd (f tt)
false_of false f = refl

-- tests that hold of one another are equal
pub both_ways : (a b : Bool) → (T a → T b) → (T b → T a) → a ≡ b
both_ways true b f g = sym (true-T b (f tt))
both_ways false b f g = sym (false_of b g)

-- truth values that the test says are equal
pub equal-of-beq : (a b : Bool) → T (beq a b) → a ≡ b
equal-of-beq true true t = refl
equal-of-beq true false t = absurd t
equal-of-beq false true t = absurd t
equal-of-beq false false t = refl

pub beq_same : (a : Bool) → T (beq a a)
beq_same true = tt
beq_same false = tt

pub below_at : (n : ℕ) (p : ℕ → Bool) → T (every_below n p) → (x : ℕ) → x < n → T (p x)
below_at zero p t x h = absurd (not-suc-le-zero h)
below_at (suc n) p t x h =
    ⊎_elim (λ e. subst (λ (y : ℕ). T (p y)) (sym e) (and_right (every_below n p) (p n) t))
    (λ l. below_at n p (and_left (every_below n p) (p n) t) x l) (eq-or-lt_of_le (le_of_suc-le-suc h))

pub below_all : (n : ℕ) (p : ℕ → Bool) → ((x : ℕ) → x < n → T (p x)) → T (every_below n p)
below_all zero p h = tt
below_all (suc n) p h = and (every_below n p) (p n) (below_all n p (λ x l. h x (omega arith))) (h n (omega arith))

pub every-left : {A : Type 0} (p : A → Bool) (xs ys : List A) → T (every p (xs ++ ys)) → T (every p xs)
every-left p [] ys h = tt
every-left p (x ∷ xs) ys h =
    and (p x) (every p xs) (and_left (p x) (every p (xs ++ ys)) h) (every-left p xs ys (and_right (p x) (every p (xs ++ ys)) h))

pub every-right : {A : Type 0} (p : A → Bool) (xs ys : List A) → T (every p (xs ++ ys)) → T (every p ys)
every-right p [] ys h = h
every-right p (x ∷ xs) ys h = every-right p xs ys (and_right (p x) (every p (xs ++ ys)) h)

pub every-unmap : {A B : Type 0} (p : B → Bool) (f : A → B) (xs : List A) → T (every p (map f xs)) → T (every (λ x. p (f x)) xs)
every-unmap p f [] h = tt
every-unmap p f (x ∷ xs) h =
    and (p (f x)) (every (λ y. p (f y)) xs) (and_left (p (f x)) (every p (map f xs)) h) (every-unmap p f xs (and_right (p (f x)) (every p (map f xs)) h))

-- what passes p, and q, and r passes s, after f
pub every_map : {A B : Type 0} (p q r : A → Bool) (s : B → Bool) (f : A → B) → ((x : A) → T (p x) → T (q x) → T (r x) → T (s (f x))) → (xs : List A)
    → T (every p xs) → T (every q xs) → T (every r xs) → T (every s (map f xs))
every_map p q r s f k [] a b c = tt
every_map p q r s f k (x ∷ xs) a b c =
    and (s (f x)) (every s (map f xs))
    (k x (and_left (p x) (every p xs) a) (and_left (q x) (every q xs) b) (and_left (r x) (every r xs) c))
    (every_map p q r s f k xs (and_right (p x) (every p xs) a) (and_right (q x) (every q xs) b) (and_right (r x) (every r xs) c))

-- one of several tests
pub all-at : (bs : List Bool) → T (all bs) → (i : ℕ) → T (get_or bs i true)
all-at [] t i = tt
all-at (b ∷ bs) t zero = and_left b (all bs) t
all-at (b ∷ bs) t (suc i) = all-at bs (and_right b (all bs) t) i

pub every-imp : {A : Type 0} (p q : A → Bool) → ((x : A) → T (p x) → T (q x)) → (xs : List A) → T (every p xs) → T (every q xs)
every-imp p q k [] h = tt
every-imp p q k (x ∷ xs) h =
    and (q x) (every q xs) (k x (and_left (p x) (every p xs) h)) (every-imp p q k xs (and_right (p x) (every p xs) h))

pub or_cases : (a b : Bool) → T (a || b) → T a ⊎ T b
or_cases true b t = inl tt
or_cases false b t = inr t

-- every test of a list holds
abbrev pub Hold : List Bool → Type 0
Hold [] = Unit {0}
Hold (b ∷ bs) = T b × Hold bs

pub all_hold : (bs : List Bool) → Hold bs → T (all bs)
all_hold [] h = tt
all_hold (b ∷ bs) h = and b (all bs) h.0 (all_hold bs h.1)

pub below-same : (n : ℕ) (p q : ℕ → Bool) → ((i : ℕ) → i < n → p i ≡ q i) → every_below n p ≡ every_below n q
below-same zero p q h = refl
below-same (suc n) p q h = ap₂ (λ (x y : Bool). x && y) (below-same n p q (λ i l. h i (omega arith))) (h n (omega arith))

pub every_true : {A : Type 0} (p : A → Bool) (xs : List A) → ((x : A) → T (p x)) → T (every p xs)
every_true p [] h = tt
every_true p (x ∷ xs) h = and (p x) (every p xs) (h x) (every_true p xs h)

-- tests that hold at every position
pub every_in : {A : Type 0} (p : A → Bool) (xs : List A) (d : A) → ((i : ℕ) → i < length xs → T (p (get_or xs i d))) → T (every p xs)
every_in p [] d h = tt
every_in p (x ∷ xs) d h = and (p x) (every p xs) (h 0 (omega arith)) (every_in p xs d (λ i l. h (suc i) (omega arith)))

pub pairwise-in : {A : Type 0} (p : A → A → Bool) (xs : List A) (d : A)
    → ((i j : ℕ) → i < j → j < length xs → T (p (get_or xs i d) (get_or xs j d))) → T (pairwise p xs)
pairwise-in p [] d h = tt
pairwise-in p (x ∷ xs) d h =
    and (every (p x) xs) (pairwise p xs) (every_in (p x) xs d (λ j l. h 0 (suc j) (omega arith) (omega arith)))
    (pairwise-in p xs d (λ i j a l. h (suc i) (suc j) (omega arith) (omega arith)))

pub same-eq : (xs ys : List ℕ) → T (same xs ys) → xs ≡ ys
same-eq [] [] t = refl
same-eq [] (y ∷ ys) t = absurd t
same-eq (x ∷ xs) [] t = absurd t
same-eq (x ∷ xs) (y ∷ ys) t = ap₂ ◌∷◌ (eqb→eq x y (and_left (eqb x y) (same xs ys) t)) (same-eq xs ys (and_right (eqb x y) (same xs ys) t))

-- ---- truth values as numbers

pub nonzero-false : (n : ℕ) → n ≡ 0 → nonzero n ≡ false
nonzero-false zero e = refl
nonzero-false (suc n) e = absurd (omega arith)

pub nonzero-true : (n : ℕ) → (n ≡ 0 → ⊥) → nonzero n ≡ true
nonzero-true zero h = absurd (h refl)
nonzero-true (suc n) h = refl

pub nonzero-bit : (b : Bool) → nonzero (cond b 1 0) ≡ b
nonzero-bit true = refl
nonzero-bit false = refl

pub bit-most : (b : Bool) → cond b 1 0 ≤ 1
bit-most true = omega arith
bit-most false = omega arith
