-- Numbers in words, and their hashes. Assumes nothing.
use mathlib.Core.Path.{◌≡◌, refl, sym, ap, ap₂, ◌∙◌}
use mathlib.Core.List.{List}
use Prim.Native.Nat.{ℕ, zero, suc, ◌+◌, ◌-◌, ◌*◌, ◌/◌, ◌%◌, ◌≤◌, ◌<◌}
use native.Mathlib.Nat.{mod-lt, div-lt_iff_lt-mul, mul-lt-mul_of_pos_right, mul_comm}
use native.Mathlib.Omega.{arith}
use lib.ListN.{length, get_or, take, drop, length-drop}
use lib.Seq.{get_or-take, get_or-drop, length-take-le}
use Rattle.states.specs.Number.{number_at, hashed, bucket_of}

-- the same words are the same number
pub number_same : (m m' : List ℕ) (at at' n : ℕ) → ((i : ℕ) → i < n → get_or m (at + i) 0 ≡ get_or m' (at' + i) 0)
    → number_at m at n ≡ number_at m' at' n
unfolding number_at
number_same m m' at at' zero h = refl
number_same m m' at at' (suc n) h =
    let a : at + 0 ≡ at = omega arith in
    let b : at' + 0 ≡ at' = omega arith in
    let e : get_or m at 0 ≡ get_or m' at' 0 =
    ap (λ (x : ℕ). get_or m x 0) (sym a) ∙ h 0 (omega arith) ∙ ap (λ (x : ℕ). get_or m' x 0) b in
    let r = number_same m m' (at + 1) (at' + 1) n
    (λ i l.
    let c : at + 1 + i ≡ at + suc i = omega arith in
    let d : at' + suc i ≡ at' + 1 + i = omega arith in
    ap (λ (x : ℕ). get_or m x 0) c ∙ h (suc i) (omega arith) ∙ ap (λ (x : ℕ). get_or m' x 0) d) in
    ap₂ (λ (x : ℕ) (y : ℕ). x + 4294967296 * y) e r

-- words of 32 bits
abbrev pub Words : List ℕ → Type 0
Words m = (j : ℕ) → get_or m j 0 < 4294967296

digits : (a b x y : ℕ) → a < 4294967296 → b < 4294967296 → a + 4294967296 * x ≡ b + 4294967296 * y → (a ≡ b) × (x ≡ y)
digits a b x y l h e = (omega arith, omega arith)

-- the same number has the same words
pub words_same : (m m' : List ℕ) → Words m → Words m' → (at at' n i : ℕ) → i < n → number_at m at n ≡ number_at m' at' n
    → get_or m (at + i) 0 ≡ get_or m' (at' + i) 0
unfolding number_at
words_same m m' w w' at at' zero i l e = absurd (omega arith)
words_same m m' w w' at at' (suc n) zero l e =
    let a : at + 0 ≡ at = omega arith in
    let b : at' + 0 ≡ at' = omega arith in
    ap (λ (x : ℕ). get_or m x 0) a
    ∙ (digits (get_or m at 0) (get_or m' at' 0) (number_at m (at + 1) n) (number_at m' (at' + 1) n) (w at) (w' at') e).0
    ∙ ap (λ (x : ℕ). get_or m' x 0) (sym b)
words_same m m' w w' at at' (suc n) (suc i) l e =
    let a : at + suc i ≡ at + 1 + i = omega arith in
    let b : at' + 1 + i ≡ at' + suc i = omega arith in
    ap (λ (x : ℕ). get_or m x 0) a
    ∙ words_same m m' w w' (at + 1) (at' + 1) n i (omega arith)
    (digits (get_or m at 0) (get_or m' at' 0) (number_at m (at + 1) n) (number_at m' (at' + 1) n) (w at) (w' at') e).1
    ∙ ap (λ (x : ℕ). get_or m' x 0) b

-- the lowest word of a number, and the others
pub word_first : (m : List ℕ) (at n : ℕ) → get_or m at 0 < 4294967296
    → (number_at m at (suc n) % 4294967296 ≡ get_or m at 0) × (number_at m at (suc n) / 4294967296 ≡ number_at m (at + 1) n)
unfolding number_at
word_first m at n l = (omega arith, omega arith)

-- ---- hashes
-- the hash of one word more
pub hash-more : (m : List ℕ) (n i h v : ℕ) → 0 < i → i ≤ n → get_or m (i - 1) 0 < 4294967296 → h ≡ hashed (n - i) (number_at m i (n - i))
    → v ≡ (get_or m (i - 1) 0 + h) % 4294967296 * 2654435761 % 4294967296 → v ≡ hashed (n - (i - 1)) (number_at m (i - 1) (n - (i - 1)))
unfolding hashed
hash-more m n i h v l k w e q =
    let j = i - 1 in
    let a : n - j ≡ suc (n - i) = omega arith in
    let b : j + 1 ≡ i = omega arith in
    let f = word_first m j (n - i) w in
    q
    ∙ ap₂ (λ (x : ℕ) (y : ℕ). (x + y) % 4294967296 * 2654435761 % 4294967296) (sym f.0)
    (e ∙ ap (λ (x : ℕ). hashed (n - i) (number_at m x (n - i))) (sym b) ∙ ap (hashed (n - i)) (sym f.1))
    ∙ ap (λ (x : ℕ). hashed x (number_at m j x)) (sym a)

pub hash-none : (m : List ℕ) (n : ℕ) → 0 ≡ hashed (n - n) (number_at m n (n - n))
unfolding hashed
hash-none m n = ap (λ (x : ℕ). hashed x (number_at m n x)) {x = 0} {y = n - n} (omega arith)

hash-small : (n s : ℕ) → hashed n s < 4294967296
unfolding hashed
hash-small zero s = omega arith
hash-small (suc n) s = mod-lt ((s % 4294967296 + hashed n (s / 4294967296)) % 4294967296 * 2654435761) (omega arith)

-- a bucket is one of them
pub bucket-small : (w n s : ℕ) → 0 < n → bucket_of w n s < n
unfolding bucket_of
bucket-small w n s l =
    (div-lt_iff_lt-mul {k = 4294967296} {x = hashed w s * n} {y = n} (omega arith)).1
    (let a : hashed w s * n < 4294967296 * n = mul-lt-mul_of_pos_right (hash-small w s) l in omega (arith, mul_comm n 4294967296))

-- the number of a part
pub part-number : (m : List ℕ) (at n : ℕ) → at + n ≤ length m
    → (length (take n (drop at m)) ≡ n) × (number_at (take n (drop at m)) 0 (length (take n (drop at m))) ≡ number_at m at n)
part-number m at n l =
    let e : length (take n (drop at m)) ≡ n = length-take-le n (drop at m) (omega (arith, length-drop at m)) in (
      e,
      ap (number_at (take n (drop at m)) 0) e
          ∙ number_same (take n (drop at m)) m 0 at n
          (λ i h.
          let z : 0 + i ≡ i = omega arith in
          ap (λ (x : ℕ). get_or (take n (drop at m)) x 0) z ∙ get_or-take n (drop at m) i 0 h ∙ get_or-drop at m i 0),
    )
