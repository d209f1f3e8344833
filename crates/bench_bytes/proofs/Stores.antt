-- Numbers in bytes, read and stored. Assumes nothing.
use mathlib.Core.Path.{◌≡◌, refl, sym, ap, ◌∙◌}
use mathlib.Core.List.{List}
use Prim.Native.Nat.{ℕ, ◌+◌, ◌*◌, ◌/◌, ◌%◌, ◌≤◌, ◌<◌}
use native.Mathlib.Omega.{arith}
use lib.ListN.{length, get_or, set, length-set}
use lib.Seq.{get_or-set_same, get_or-set_other}
use Rattle.bench_bytes.specs.Bytes.{half_at, number_at, put_half, put_number}

-- four stores one after the other
abbrev four : List ℕ → ℕ → ℕ → ℕ → ℕ → ℕ → List ℕ
four bytes p a b c d = set (set (set (set bytes p a) (p + 1) b) (p + 2) c) (p + 3) d

module _ (bytes : List ℕ) (p a b c d : ℕ) where
  four-outside : (j : ℕ) → (p ≤ j → j < p + 4 → ⊥) → get_or (four bytes p a b c d) j 0 ≡ get_or bytes j 0
  four-outside j f =
      get_or-set_other (set (set (set bytes p a) (p + 1) b) (p + 2) c) (p + 3) j d 0 (λ q. f (omega arith) (omega arith))
      ∙ get_or-set_other (set (set bytes p a) (p + 1) b) (p + 2) j c 0 (λ q. f (omega arith) (omega arith))
      ∙ get_or-set_other (set bytes p a) (p + 1) j b 0 (λ q. f (omega arith) (omega arith))
      ∙ get_or-set_other bytes p j a 0 (λ q. f (omega arith) (omega arith))

  four-length : length (four bytes p a b c d) ≡ length bytes
  four-length = simp length-set

  module _ (l : p + 4 ≤ length bytes) where
    four-0 : get_or (four bytes p a b c d) p 0 ≡ a
    four-0 =
        get_or-set_other (set (set (set bytes p a) (p + 1) b) (p + 2) c) (p + 3) p d 0 (λ q. omega arith)
        ∙ get_or-set_other (set (set bytes p a) (p + 1) b) (p + 2) p c 0 (λ q. omega arith)
        ∙ get_or-set_other (set bytes p a) (p + 1) p b 0 (λ q. omega arith)
        ∙ get_or-set_same bytes p a 0 (omega arith)

    four-1 : get_or (four bytes p a b c d) (p + 1) 0 ≡ b
    four-1 =
        get_or-set_other (set (set (set bytes p a) (p + 1) b) (p + 2) c) (p + 3) (p + 1) d 0 (λ q. omega arith)
        ∙ get_or-set_other (set (set bytes p a) (p + 1) b) (p + 2) (p + 1) c 0 (λ q. omega arith)
        ∙ get_or-set_same (set bytes p a) (p + 1) b 0 (simp length-set (omega arith))

    four-2 : get_or (four bytes p a b c d) (p + 2) 0 ≡ c
    four-2 =
        get_or-set_other (set (set (set bytes p a) (p + 1) b) (p + 2) c) (p + 3) (p + 2) d 0 (λ q. omega arith)
        ∙ get_or-set_same (set (set bytes p a) (p + 1) b) (p + 2) c 0 (simp length-set (omega arith))

    four-3 : get_or (four bytes p a b c d) (p + 3) 0 ≡ d
    four-3 = get_or-set_same (set (set (set bytes p a) (p + 1) b) (p + 2) c) (p + 3) d 0 (simp length-set (omega arith))

-- ---- halves

digit : (x : ℕ) → x % 256 + 256 * (x / 256) ≡ x
digit x = omega arith

twice : (x : ℕ) → x / 65536 ≡ x / 256 / 256
twice x = omega arith

thrice : (x : ℕ) → x / 16777216 ≡ x / 256 / 256 / 256
thrice x = omega arith

last : (x : ℕ) → x < 4294967296 → x / 256 / 256 / 256 % 256 ≡ x / 256 / 256 / 256
last x l = omega arith

joined : (x y z u a b c d : ℕ) → a + 256 * y ≡ x → b + 256 * z ≡ y → c + 256 * u ≡ z → d ≡ u → a + 256 * b + 65536 * c + 16777216 * d ≡ x
joined x y z u a b c d e f g h = omega arith

-- the digits of a number below 2 to the 32
digits-four : (x : ℕ) → x < 4294967296 → x % 256 + 256 * (x / 256 % 256) + 65536 * (x / 65536 % 256) + 16777216 * (x / 16777216 % 256) ≡ x
digits-four x l =
    rw (twice x, thrice x)
    (joined x (x / 256) (x / 256 / 256) (x / 256 / 256 / 256) _ _ _ _ (digit x) (digit (x / 256)) (digit (x / 256 / 256)) (last x l))

module _ (bytes : List ℕ) (p x : ℕ) where
  half-outside : (j : ℕ) → (p ≤ j → j < p + 4 → ⊥) → get_or (put_half bytes p x) j 0 ≡ get_or bytes j 0
  unfolding put_half
  half-outside j f = four-outside bytes p (x % 256) (x / 256 % 256) (x / 65536 % 256) (x / 16777216 % 256) j f

  half_length : length (put_half bytes p x) ≡ length bytes
  unfolding put_half
  half_length = four-length bytes p (x % 256) (x / 256 % 256) (x / 65536 % 256) (x / 16777216 % 256)

  half-put : p + 4 ≤ length bytes → x < 4294967296 → half_at (put_half bytes p x) p ≡ x
  unfolding half_at put_half
  half-put l m =
      let a = x % 256 in
      let b = x / 256 % 256 in
      let c = x / 65536 % 256 in
      let d = x / 16777216 % 256 in
      rw (four-0 bytes p a b c d l, four-1 bytes p a b c d l, four-2 bytes p a b c d l, four-3 bytes p a b c d l) (digits-four x m)

-- four bytes that are the same
half-same : (xs ys : List ℕ) (p : ℕ) → ((j : ℕ) → p ≤ j → j < p + 4 → get_or xs j 0 ≡ get_or ys j 0) → half_at xs p ≡ half_at ys p
unfolding half_at
half-same xs ys p f =
    rw (f p (omega arith) (omega arith), f (p + 1) (omega arith) (omega arith), f (p + 2) (omega arith) (omega arith), f (p + 3) (omega arith) (omega arith))

-- ---- numbers

module _ (bytes : List ℕ) (p x : ℕ) where
  pub put-outside : (j : ℕ) → (p ≤ j → j < p + 8 → ⊥) → get_or (put_number bytes p x) j 0 ≡ get_or bytes j 0
  unfolding put_number
  put-outside j f =
      half-outside (put_half bytes p (x % 4294967296)) (p + 4) (x / 4294967296) j (λ a b. f (omega arith) (omega arith))
      ∙ half-outside bytes p (x % 4294967296) j (λ a b. f (omega arith) (omega arith))

  pub put-length : length (put_number bytes p x) ≡ length bytes
  unfolding put_number
  put-length = half_length (put_half bytes p (x % 4294967296)) (p + 4) (x / 4294967296) ∙ half_length bytes p (x % 4294967296)

  -- the number that was stored
  pub number_put : p + 8 ≤ length bytes → x < 18446744073709551616 → number_at (put_number bytes p x) p ≡ x
  unfolding number_at put_number
  number_put l m =
      let low = x % 4294967296 in
      let high = x / 4294967296 in
      let first = put_half bytes p low in
      let kept : length first ≡ length bytes = half_length bytes p low in
      let h : half_at (put_half first (p + 4) high) p ≡ low =
      half-same (put_half first (p + 4) high) first p (λ j a b. half-outside first (p + 4) high j (λ e f. omega arith))
      ∙ half-put bytes p low (omega arith) (omega arith) in
      let g : half_at (put_half first (p + 4) high) (p + 4) ≡ high = half-put first (p + 4) high (omega arith) (omega arith) in
      omega arith

pub number_same : (xs ys : List ℕ) (p : ℕ) → ((j : ℕ) → p ≤ j → j < p + 8 → get_or xs j 0 ≡ get_or ys j 0) → number_at xs p ≡ number_at ys p
unfolding number_at
number_same xs ys p f =
    rw (half-same xs ys p (λ j a b. f j a (omega arith)), half-same xs ys (p + 4) (λ j a b. f j (omega arith) (omega arith)))

-- a number that stands elsewhere
pub number-after : (bytes : List ℕ) (p x q : ℕ) → p + 8 ≤ q → number_at (put_number bytes p x) q ≡ number_at bytes q
number-after bytes p x q l = number_same (put_number bytes p x) bytes q (λ j a b. put-outside bytes p x j (λ c d. omega arith))

pub number-before : (bytes : List ℕ) (p x q : ℕ) → q + 8 ≤ p → number_at (put_number bytes p x) q ≡ number_at bytes q
number-before bytes p x q l = number_same (put_number bytes p x) bytes q (λ j a b. put-outside bytes p x j (λ c d. omega arith))

-- bytes below 256 make numbers below 2 to the 64
pub number_small : (bytes : List ℕ) → ((i : ℕ) → get_or bytes i 0 < 256) → (p : ℕ) → number_at bytes p < 18446744073709551616
unfolding number_at half_at
number_small bytes f p =
    omega (arith, f p, f (p + 1), f (p + 2), f (p + 3), f (p + 4), f (p + 4 + 1), f (p + 4 + 2), f (p + 4 + 3))
