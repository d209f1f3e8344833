-- Laws of lists: elements by position and by membership, tests by position, and an element that stands twice. Assumes nothing.
use mathlib.Core.Path.{◌≡◌, refl, sym, ap, ap₂, ◌∙◌, subst}
use mathlib.Core.Bool.{Bool, true, false, cond, ◌&&◌, ◌||◌, beq}
use mathlib.Core.List.Memᴰ
use mathlib.Core.List.{List, [], ◌∷◌, ◌++◌, map, Memᴰ}
use mathlib.Core.Logic.{◌⊎◌, inl, inr, ⊎_elim}
use mathlib.Core.Option.{Option, none, some}
use Prim.Native.Nat.{ℕ, zero, suc, ◌+◌, ◌≤◌, ◌<◌}
use native.Mathlib.Nat.{not-suc-le-zero, le_of_suc-le-suc}
use native.Mathlib.Decide.{ℕ_discrete}
use native.Mathlib.Omega.{arith}
use lib.Dec.{T, eqb, eqb→eq, eqb_refl}
use lib.ListN.{length, get_or, set, replicate, length-map}
use lib.Seq.{get_or-set_same, get_or-set_other}
use Rattle.aiger.specs.Lists.{every, any, pairwise, member, same, last_below, from, upto}
use Rattle.aiger.proofs.Tests.{and, and_left, and_right, or_cases}
pub use Rattle.aiger.proofs.Tests.{equal-of-beq, same-eq, every_in, every_in as every-all, pairwise-in, pairwise-in as pairwise-all}

-- a list's element at a position is in the list
pub mem-get_d : {A : Type 0} (xs : List A) (i : ℕ) (d : A) → i < length xs → Memᴰ (get_or xs i d) xs
mem-get_d [] i d h = absurd (not-suc-le-zero h)
mem-get_d (x ∷ xs) zero d h = Memᴰ.head refl
mem-get_d (x ∷ xs) (suc i) d h = Memᴰ.tail (mem-get_d xs i d (le_of_suc-le-suc h))

-- what is in a list stands at some position
pub mem-at : {A : Type 0} {x : A} {xs : List A} (d : A) → Memᴰ x xs → (i : ℕ) × (i < length xs) × (get_or xs i d ≡ x)
mem-at d (Memᴰ.head e) = (0, omega arith, sym e)
mem-at d (Memᴰ.tail m) = let r = mem-at d m in (suc r.0, omega (arith, r.1), r.2)

-- what holds of the default and of every element holds at every position
pub get_d-all : {A : Type 0} (P : A → Type 0) (xs : List A) (d : A) → P d → ((x : A) → Memᴰ x xs → P x) → (i : ℕ) → P (get_or xs i d)
get_d-all P [] d z h i = z
get_d-all P (x ∷ xs) d z h zero = h x (Memᴰ.head refl)
get_d-all P (x ∷ xs) d z h (suc i) = get_d-all P xs d z (λ y m. h y (Memᴰ.tail m)) i

pub get_or-map : {A B : Type 0} (f : A → B) (xs : List A) (i : ℕ) (a : A) (b : B) → i < length xs → get_or (map f xs) i b ≡ f (get_or xs i a)
get_or-map f [] i a b h = absurd (not-suc-le-zero h)
get_or-map f (x ∷ xs) zero a b h = refl
get_or-map f (x ∷ xs) (suc i) a b h = get_or-map f xs i a b (le_of_suc-le-suc h)

pub length_from : (i n : ℕ) → length (from i n) ≡ n
length_from i zero = refl
length_from i (suc n) = ap suc (length_from (suc i) n)

get_d-from : (i n j d : ℕ) → j < n → get_or (from i n) j d ≡ i + j
get_d-from i zero j d h = absurd (not-suc-le-zero h)
get_d-from i (suc n) zero d h = omega arith
get_d-from i (suc n) (suc j) d h = get_d-from (suc i) n j d (le_of_suc-le-suc h) ∙ omega arith

-- number j of the numbers below n is j
pub get_d-upto : (n j d : ℕ) → j < n → get_or (upto n) j d ≡ j
get_d-upto n j d h = get_d-from 0 n j d h ∙ omega arith

pub from_in : (n i j : ℕ) → i ≤ j → j < i + n → Memᴰ j (from i n)
from_in zero i j h l = absurd (omega arith)
from_in (suc n) i j h l = elim (ℕ_discrete j i) [ yes e ↦ Memᴰ.head e | no k ↦ Memᴰ.tail (from_in n (suc i) j (omega arith) (omega arith)) ]

-- a number below n is among the numbers below n
pub upto-in : (n j : ℕ) → j < n → Memᴰ j (upto n)
upto-in n j h = from_in n 0 j (omega arith) (omega arith)

map-from-eq : {A : Type 0} (f h : ℕ → A) (i n : ℕ) → ((j : ℕ) → i ≤ j → j < i + n → f j ≡ h j) → map f (from i n) ≡ map h (from i n)
map-from-eq f h i zero e = refl
map-from-eq f h i (suc n) e = ap₂ ◌∷◌ (e i (omega arith) (omega arith)) (map-from-eq f h (suc i) n (λ j l u. e j (omega arith) (omega arith)))

-- lists over the numbers below n are equal where their elements are
pub map-upto-eq : {A : Type 0} (f h : ℕ → A) (n : ℕ) → ((j : ℕ) → j < n → f j ≡ h j) → map f (upto n) ≡ map h (upto n)
map-upto-eq f h n e = map-from-eq f h 0 n (λ j l u. e j (omega arith))

map-from-suc : {A : Type 0} (f : ℕ → A) (i n : ℕ) → map f (from i (suc n)) ≡ map f (from i n) ++ (f (i + n) ∷ [])
map-from-suc f i zero = let e : i ≡ i + 0 = omega arith in ap (λ (j : ℕ). f j ∷ []) e
map-from-suc f i (suc n) =
    let e : suc i + n ≡ i + suc n = omega arith in
    ap (λ l. f i ∷ l) (map-from-suc f (suc i) n ∙ ap (λ (j : ℕ). map f (from (suc i) n) ++ (f j ∷ [])) e)

-- one number more
pub map-upto-suc : {A : Type 0} (f : ℕ → A) (n : ℕ) → map f (upto (suc n)) ≡ map f (upto n) ++ (f n ∷ [])
map-upto-suc f n = let e : 0 + n ≡ n = omega arith in map-from-suc f 0 n ∙ ap (λ (j : ℕ). map f (upto n) ++ (f j ∷ [])) e

-- the values of f at the numbers below n
pub length-map-upto : {A : Type 0} (f : ℕ → A) (n : ℕ) → length (map f (upto n)) ≡ n
length-map-upto f n = length-map (upto n) f ∙ length_from 0 n

pub get_d-map-upto : {A : Type 0} (f : ℕ → A) (n j : ℕ) (d : A) → j < n → get_or (map f (upto n)) j d ≡ f j
get_d-map-upto f n j d h =
    get_or-map f (upto n) j 0 d (let e = length_from 0 n in omega arith) ∙ ap f (get_d-upto n j 0 h)

-- what stands at j after a store at i
pub get_d_set : (l : List ℕ) (i v j : ℕ) → i < length l
    → ((j ≡ i) × (get_or (set l i v) j 0 ≡ v)) ⊎ ((j ≡ i → ⊥) × (get_or (set l i v) j 0 ≡ get_or l j 0))
get_d_set l i v j h = go (ℕ_discrete j i)
  where
    go : Dec (j ≡ i) → ((j ≡ i) × (get_or (set l i v) j 0 ≡ v)) ⊎ ((j ≡ i → ⊥) × (get_or (set l i v) j 0 ≡ get_or l j 0))
    go (yes e) = inl (e, rw e (get_or-set_same l i v 0 h))
    go (no e) = inr (e, get_or-set_other l i j v 0 e)

-- an array of one value reads that value at every position
pub get_d-same : {A : Type 0} (n : ℕ) (x : A) (i : ℕ) → get_or (replicate n x) i x ≡ x
get_d-same zero x i = refl
get_d-same (suc n) x zero = refl
get_d-same (suc n) x (suc i) = get_d-same n x i

pub get_d-zeros : (n i : ℕ) → get_or {A = ℕ} (replicate n 0) i 0 ≡ 0
get_d-zeros n i = get_d-same n 0 i

-- an element that is there, whatever the default
pub get_d_any : (l : List ℕ) (i d e : ℕ) → i < length l → get_or l i d ≡ get_or l i e
get_d_any [] i d e h = absurd (not-suc-le-zero h)
get_d_any (x ∷ l) zero d e h = refl
get_d_any (x ∷ l) (suc i) d e h = get_d_any l i d e (le_of_suc-le-suc h)

-- ---- tests

pub every-mem : {A : Type 0} (p : A → Bool) {x : A} {xs : List A} → Memᴰ x xs → T (every p xs) → T (p x)
every-mem p (Memᴰ.head {x = y} {xs = ys} e) t = subst (λ z. T (p z)) (sym e) (and_left (p y) (every p ys) t)
every-mem p (Memᴰ.tail {x = y} {xs = ys} m) t = every-mem p m (and_right (p y) (every p ys) t)

pub every-at : {A : Type 0} (p : A → Bool) (xs : List A) (i : ℕ) (d : A) → i < length xs → T (every p xs) → T (p (get_or xs i d))
every-at p xs i d h t = every-mem p (mem-get_d xs i d h) t

pub or_left : (a b : Bool) → T a → T (a || b)
or_left true b t = tt
or_left false b t = absurd t

pub or_right : (a b : Bool) → T b → T (a || b)
or_right true b t = tt
or_right false b t = t

-- a test holds if it holds where it does not hold
pub by_contradiction : (b : Bool) → ((T b → ⊥) → T b) → T b
by_contradiction true h = tt
by_contradiction false h = h (λ t. t)

-- a test that does not hold of every element fails for one
pub every-fails : {A : Type 0} (p : A → Bool) (xs : List A) → (T (every p xs) → ⊥) → (x : A) × Memᴰ x xs × (T (p x) → ⊥)
every-fails p [] h = absurd (h tt)
every-fails {A} p (x ∷ xs) h = go (p x) refl h (every-fails p xs)
  where
    go : (b : Bool) → p x ≡ b → (T (b && every p xs) → ⊥) → ((T (every p xs) → ⊥) → (y : A) × Memᴰ y xs × (T (p y) → ⊥))
        → (y : A) × Memᴰ y (x ∷ xs) × (T (p y) → ⊥)
    go true e k r = let s = r k in (s.0, Memᴰ.tail s.1, s.2)
    go false e k r = (x, Memᴰ.head refl, λ t. subst T e t)

-- a test that holds pairwise holds of the elements at two positions, the first one before the other
pub pairwise-at : {A : Type 0} (p : A → A → Bool) (xs : List A) (i j : ℕ) (d : A) → i < j → j < length xs → T (pairwise p xs) → T (p (get_or xs i d) (get_or xs j d))
pairwise-at p [] i j d h l t = absurd (not-suc-le-zero l)
pairwise-at p (x ∷ xs) i zero d h l t = absurd (not-suc-le-zero h)
pairwise-at p (x ∷ xs) zero (suc j) d h l t = every-at (p x) xs j d (le_of_suc-le-suc l) (and_left (every (p x) xs) (pairwise p xs) t)
pairwise-at p (x ∷ xs) (suc i) (suc j) d h l t =
    pairwise-at p xs i j d (le_of_suc-le-suc h) (le_of_suc-le-suc l) (and_right (every (p x) xs) (pairwise p xs) t)

pub member-mem : (x : ℕ) (xs : List ℕ) → T (member x xs) → Memᴰ x xs
member-mem x [] t = absurd t
member-mem x (y ∷ ys) t =
    ⊎_elim (λ e. Memᴰ.head (eqb→eq x y e)) (λ m. Memᴰ.tail (member-mem x ys m)) (or_cases (eqb x y) (member x ys) t)

-- ---- tests that hold because they hold at every position

pub eqb_of : {a b : ℕ} → a ≡ b → T (eqb a b)
eqb_of {a} e = subst (λ (x : ℕ). T (eqb a x)) e (eqb_refl a)

pub any_at : {A : Type 0} (p : A → Bool) (xs : List A) (i : ℕ) (d : A) → i < length xs → T (p (get_or xs i d)) → T (any p xs)
any_at p [] i d h t = absurd (not-suc-le-zero h)
any_at p (x ∷ xs) zero d h t = or_left (p x) (any p xs) t
any_at p (x ∷ xs) (suc i) d h t = or_right (p x) (any p xs) (any_at p xs i d (le_of_suc-le-suc h) t)

-- a test that some element passes is passed by an element of the list
pub any-mem : {A : Type 0} (p : A → Bool) (xs : List A) → T (any p xs) → (x : A) × Memᴰ x xs × T (p x)
any-mem p [] t = absurd t
any-mem p (x ∷ xs) t =
    ⊎_elim (λ a. (x, Memᴰ.head refl, a)) (λ b. let r = any-mem p xs b in (r.0, Memᴰ.tail r.1, r.2)) (or_cases (p x) (any p xs) t)

pub every-both : {A : Type 0} (p : A → Bool) (xs ys : List A) → T (every p xs) → T (every p ys) → T (every p (xs ++ ys))
every-both p [] ys s t = t
every-both p (x ∷ xs) ys s t =
    and (p x) (every p (xs ++ ys)) (and_left (p x) (every p xs) s) (every-both p xs ys (and_right (p x) (every p xs) s) t)

pub every-mapped : {A B : Type 0} (p : B → Bool) (f : A → B) (xs : List A) → T (every (λ x. p (f x)) xs) → T (every p (map f xs))
every-mapped p f [] t = tt
every-mapped p f (x ∷ xs) t =
    and (p (f x)) (every p (map f xs)) (and_left (p (f x)) (every (λ y. p (f y)) xs) t) (every-mapped p f xs (and_right (p (f x)) (every (λ y. p (f y)) xs) t))

-- two lists of tests, one mapped
pub every-under : (p q : ℕ → Bool) (f : ℕ → ℕ) (xs : List ℕ) → ((i : ℕ) → i < length xs → p (f (get_or xs i 0)) ≡ q (get_or xs i 0))
    → every p (map f xs) ≡ every q xs
every-under p q f [] h = refl
every-under p q f (x ∷ xs) h = ap₂ (λ (a b : Bool). a && b) (h 0 (omega arith)) (every-under p q f xs (λ i l. h (suc i) (omega arith)))

same_refl : (xs : List ℕ) → T (same xs xs)
same_refl [] = tt
same_refl (x ∷ xs) = and (eqb x x) (same xs xs) (eqb_refl x) (same_refl xs)

pub same_of : {xs ys : List ℕ} → xs ≡ ys → T (same xs ys)
same_of {xs} e = subst (λ (l : List ℕ). T (same xs l)) e (same_refl xs)

pub mem-member : {x : ℕ} {xs : List ℕ} → Memᴰ x xs → T (member x xs)
mem-member {x} (Memᴰ.head {x = y} {xs = ys} e) = or_left (eqb x y) (member x ys) (eqb_of e)
mem-member {x} (Memᴰ.tail {x = y} {xs = ys} m) = or_right (eqb x y) (member x ys) (mem-member m)

-- an element at a position is a member
pub member-in : (xs : List ℕ) (i d : ℕ) → i < length xs → T (member (get_or xs i d) xs)
member-in xs i d h = mem-member (mem-get_d xs i d h)

-- ---- the last number that passes

-- the only number that passes
pub last-only : (p : ℕ → Bool) (n h : ℕ) → h < n → T (p h) → ((i : ℕ) → i < n → T (p i) → i ≡ h) → last_below p n ≡ some h
unfolding last_below
last-only p zero h l t u = absurd (not-suc-le-zero l)
last-only p (suc n) h l t u = go (p n) refl (λ k. last-only p n h (omega arith) t (λ i j. u i (omega arith)))
  where
    go : (b : Bool) → p n ≡ b → ((h ≡ n → ⊥) → last_below p n ≡ some h) → cond b (some n) (last_below p n) ≡ some h
    go true e r = ap some (u n (omega arith) (subst (λ (b : Bool). T b) (sym e) tt))
    go false e r = r (λ q. subst (λ (b : Bool). T b) (ap p q ∙ e) t)

pub last_none : (p : ℕ → Bool) (n : ℕ) → ((i : ℕ) → i < n → T (p i) → ⊥) → last_below p n ≡ none
unfolding last_below
last_none p zero u = refl
last_none p (suc n) u = go (p n) refl (last_none p n (λ i l. u i (omega arith)))
  where
    go : (b : Bool) → p n ≡ b → last_below p n ≡ none → cond b (some n) (last_below p n) ≡ none
    go true e r = absurd (u n (omega arith) (subst (λ (b : Bool). T b) (sym e) tt))
    go false e r = r

-- ---- an element that stands twice

-- some element stands twice
pub data Repeats : List ℕ → Type 0 where
  here : {x : ℕ} {xs : List ℕ} → Memᴰ x xs → Repeats (x ∷ xs)
  later : {x : ℕ} {xs : List ℕ} → Repeats xs → Repeats (x ∷ xs)

mem-or : (x : ℕ) (xs : List ℕ) → Memᴰ x xs ⊎ (Memᴰ x xs → ⊥)
mem-or x [] = inr Memᴰ.not-nil
mem-or x (y ∷ ys) = go (ℕ_discrete x y) (mem-or x ys)
  where
    go : Dec (x ≡ y) → Memᴰ x ys ⊎ (Memᴰ x ys → ⊥) → Memᴰ x (y ∷ ys) ⊎ (Memᴰ x (y ∷ ys) → ⊥)
    go (yes e) r = inl (Memᴰ.head e)
    go (no n) (inl m) = inl (Memᴰ.tail m)
    go (no n) (inr k) = inr (λ m. ⊎_elim n k (Memᴰ.cases_cons m))

-- a list without one of its elements
record Without (x : ℕ) (ys : List ℕ) : Type 0 where
  rest : List ℕ
  shorter : suc (length rest) ≡ length ys
  others : (u : ℕ) → (u ≡ x → ⊥) → Memᴰ u ys → Memᴰ u rest

without : {x : ℕ} {ys : List ℕ} → Memᴰ x ys → Without x ys
without {x} (Memᴰ.head {x = y} {xs = ys} e) =
    record { rest = ys; shorter = refl; others = λ u n m. ⊎_elim (λ k. absurd (n (k ∙ sym e))) (λ k. k) (Memᴰ.cases_cons m) }
without {x} (Memᴰ.tail {x = y} {xs = ys} m) =
    let r = without m in
    record {
      rest = y ∷ r.rest;
      shorter = ap suc r.shorter;
      others = λ u n k. ⊎_elim (λ e. Memᴰ.head e) (λ q. Memᴰ.tail (r.others u n q)) (Memᴰ.cases_cons k);
    }

-- pigeonhole: where all elements of a list are in a shorter one, some element stands twice
pub pigeonhole : (xs ys : List ℕ) → length ys < length xs → ((x : ℕ) → Memᴰ x xs → Memᴰ x ys) → Repeats xs
pigeonhole [] ys l h = absurd (not-suc-le-zero l)
pigeonhole (x ∷ xs) ys l h =
    let r = without (h x (Memᴰ.head refl)) in
    ⊎_elim here
    (λ n. later (pigeonhole xs r.rest (omega (arith, r.shorter)) (λ y m. r.others y (λ e. n (Memᴰ.cast (sym e) m)) (h y (Memᴰ.tail m)))))
    (mem-or x xs)
