-- Laws of counting over some of the positions of a number. Assumes nothing.
use mathlib.Core.Path.{◌≡◌, refl, sym, ap, ap₂, ◌∙◌, subst}
use mathlib.Core.Bool.{Bool, true, false, cond, ◌&&◌}
use Prim.Native.Nat.{ℕ, zero, suc, ◌+◌, ◌-◌, ◌*◌, ◌/◌, ◌%◌, ◌^◌, ◌≤◌, ◌<◌, min}
use native.Mathlib.Nat.{pow-suc, not-suc-le-zero, le_of_suc-le-suc}
use native.Mathlib.Decide.{ℕ_discrete, dec_lt}
use native.Mathlib.Numerals.{add-one}
use native.Mathlib.Omega.{arith}
use borrow.Author.Tests.{le-leb, lt-leb}
use lib.Dec.{T, leb}
use Rattle.aiger.specs.Bits.{nonzero, odd, bit}
use Rattle.words.proofs.Bits.{bit-zero, bit-suc, bit-none}
use Rattle.support.specs.Counting.{after, rank, spread, passed}
use Rattle.aiger.proofs.Tests.{bit-most}

-- ---- ranks

-- one position more
pub rank-more : (s : ℕ → Bool) (i : ℕ) → rank s (i + 1) ≡ rank s i + cond (s i) 1 0
unfolding rank
rank-more s zero = omega arith
rank-more s (suc i) =
    let e : suc i + 1 ≡ suc (i + 1) = omega arith in
    ap (rank s) e ∙ ap (λ (k : ℕ). cond (s 0) 1 0 + k) (rank-more (after s) i) ∙ omega arith

pub rank-zero : (s : ℕ → Bool) → rank s 0 ≡ 0
unfolding rank
rank-zero s = refl

pub rank-le : (s : ℕ → Bool) (i j : ℕ) → i ≤ j → rank s i ≤ rank s j
unfolding rank
rank-le s zero j h = omega arith
rank-le s (suc i) zero h = absurd (not-suc-le-zero h)
rank-le s (suc i) (suc j) h = omega (arith, rank-le (after s) i j (le_of_suc-le-suc h))

-- a position in s has a smaller rank than every later one
pub rank_lt : (s : ℕ → Bool) (i j : ℕ) → T (s i) → i < j → rank s i < rank s j
rank_lt s i j t h =
    let e : ◌≡◌ {A = ℕ} (cond (s i) 1 0) 1 = one (s i) t in
    omega (arith, rank-le s (i + 1) j (omega arith), rank-more s i)
  where
    one : (b : Bool) → T b → ◌≡◌ {A = ℕ} (cond b 1 0) 1
    one true t = refl
    one false t = absurd t

pub rank-bound : (s : ℕ → Bool) (i : ℕ) → rank s i ≤ i
unfolding rank
rank-bound s zero = omega arith
rank-bound s (suc i) = omega (arith, rank-bound (after s) i, bit-most (s 0))

-- ---- bits of what is spread

pub spread-bit : (s : ℕ → Bool) (n y i : ℕ) → i < n → bit (spread s n y) i ≡ (s i && bit y (rank s i))
unfolding spread rank
spread-bit s zero y i h = absurd (not-suc-le-zero h)
spread-bit s (suc n) y zero h = go (s 0)
  where
    go : (b : Bool) → bit (cond b (2 * spread (after s) n (y / 2) + y % 2) (2 * spread (after s) n y)) 0 ≡ (b && bit y 0)
    go true =
        let e : (2 * spread (after s) n (y / 2) + y % 2) % 2 ≡ y % 2 = omega arith in
        bit-zero (2 * spread (after s) n (y / 2) + y % 2) ∙ ap nonzero e ∙ sym (bit-zero y)
    go false = bit-zero (2 * spread (after s) n y) ∙ even (2 * spread (after s) n y) (omega arith)
      where
        even : (x : ℕ) → x % 2 ≡ 0 → odd x ≡ false
        even x e = rw e
spread-bit s (suc n) y (suc i) h = go (s 0) (λ z. spread-bit (after s) n z i (le_of_suc-le-suc h))
  where
    go : (b : Bool) → ((z : ℕ) → bit (spread (after s) n z) i ≡ (s (suc i) && bit z (rank (after s) i)))
        → bit (cond b (2 * spread (after s) n (y / 2) + y % 2) (2 * spread (after s) n y)) (suc i) ≡ (s (suc i) && bit y (cond b 1 0 + rank (after s) i))
    go true ih =
        let e : (2 * spread (after s) n (y / 2) + y % 2) / 2 ≡ spread (after s) n (y / 2) = omega arith in
        let q : 1 + rank (after s) i ≡ suc (rank (after s) i) = omega arith in
        bit-suc (2 * spread (after s) n (y / 2) + y % 2) i ∙ ap (λ (x : ℕ). bit x i) e ∙ ih (y / 2)
        ∙ ap (λ (c : Bool). s (suc i) && c) (sym (bit-suc y (rank (after s) i)) ∙ ap (bit y) (sym q))
    go false ih =
        let e : 2 * spread (after s) n y / 2 ≡ spread (after s) n y = omega arith in
        let q : 0 + rank (after s) i ≡ rank (after s) i = omega arith in
        bit-suc (2 * spread (after s) n y) i ∙ ap (λ (x : ℕ). bit x i) e ∙ ih y
        ∙ ap (λ (c : ℕ). s (suc i) && bit y c) (sym q)

pub spread-lt : (s : ℕ → Bool) (n y : ℕ) → spread s n y < 2 ^ n
unfolding spread
spread-lt s zero y = omega arith
spread-lt s (suc n) y = go (s 0) (spread-lt (after s) n)
  where
    go : (b : Bool) → ((z : ℕ) → spread (after s) n z < 2 ^ n) → cond b (2 * spread (after s) n (y / 2) + y % 2) (2 * spread (after s) n y) < 2 ^ suc n
    go true ih = omega (arith, ih (y / 2), pow-suc 2 n)
    go false ih = omega (arith, ih y, pow-suc 2 n)

pub spread-zero : (s : ℕ → Bool) (n : ℕ) → spread s n 0 ≡ 0
unfolding spread
spread-zero s zero = refl
spread-zero s (suc n) = go (s 0) (spread-zero (after s) n)
  where
    go : (b : Bool) → spread (after s) n 0 ≡ 0 → cond b (2 * spread (after s) n (0 / 2) + 0 % 2) (2 * spread (after s) n 0) ≡ 0
    go true ih = let e : 0 / 2 ≡ 0 = omega arith in omega (arith, ap (spread (after s) n) e)
    go false ih = omega arith

-- ---- order

-- numbers are spread in their order
pub spread-mono : (s : ℕ → Bool) (n y z : ℕ) → y < z → z < 2 ^ rank s n → spread s n y < spread s n z
unfolding spread rank
spread-mono s zero y z h l = absurd (omega arith)
spread-mono s (suc n) y z h l = go (s 0) l (spread-mono (after s) n)
  where
    go : (b : Bool) → z < 2 ^ (cond b 1 0 + rank (after s) n)
        → ((a c : ℕ) → a < c → c < 2 ^ rank (after s) n → spread (after s) n a < spread (after s) n c)
        → cond b (2 * spread (after s) n (y / 2) + y % 2) (2 * spread (after s) n y) < cond b (2 * spread (after s) n (z / 2) + z % 2) (2 * spread (after s) n z)
    go true k ih =
        let e : 1 + rank (after s) n ≡ suc (rank (after s) n) = omega arith in
        let p : 2 ^ (1 + rank (after s) n) ≡ 2 ^ rank (after s) n * 2 = ap (λ (q : ℕ). 2 ^ q) e ∙ pow-suc 2 (rank (after s) n) in
        elim (dec_lt (y / 2) (z / 2)) [
          | yes u ↦ omega (arith, ih (y / 2) (z / 2) u (omega arith))
          | no u ↦ (let q : y / 2 ≡ z / 2 = omega arith in omega (arith, ap (spread (after s) n) q))
        ]
    go false k ih =
        let e : 0 + rank (after s) n ≡ rank (after s) n = omega arith in
        let p : 2 ^ (0 + rank (after s) n) ≡ 2 ^ rank (after s) n = ap (λ (q : ℕ). 2 ^ q) e in
        omega (arith, ih y z h (omega arith))

-- and so their order is that of what is spread
pub spread-order : (s : ℕ → Bool) (n y z : ℕ) → y < 2 ^ rank s n → spread s n y < spread s n z → y < z
spread-order s n y z h l =
    elim (dec_lt y z) [
      | yes u ↦ u
      | no u ↦ elim (ℕ_discrete z y) [ yes e ↦ absurd (omega (arith, ap (spread s n) e)) | no e ↦ absurd (omega (arith, spread-mono s n z y (omega arith) h)) ]
    ]

-- what has bits at the positions below q alone is spread below 2 to the power q
pub spread-small : (s : ℕ → Bool) (n q y : ℕ) → q ≤ n → y < 2 ^ rank s q → spread s n y < 2 ^ q
unfolding spread rank
spread-small s n zero y h l = let e : y ≡ 0 = omega arith in omega (arith, ap (spread s n) e, spread-zero s n)
spread-small s zero (suc q) y h l = absurd (not-suc-le-zero h)
spread-small s (suc n) (suc q) y h l = go (s 0) l (λ z. spread-small (after s) n q z (le_of_suc-le-suc h))
  where
    go : (b : Bool) → y < 2 ^ (cond b 1 0 + rank (after s) q) → ((z : ℕ) → z < 2 ^ rank (after s) q → spread (after s) n z < 2 ^ q)
        → cond b (2 * spread (after s) n (y / 2) + y % 2) (2 * spread (after s) n y) < 2 ^ suc q
    go true k ih =
        let e : 1 + rank (after s) q ≡ suc (rank (after s) q) = omega arith in
        let p : 2 ^ (1 + rank (after s) q) ≡ 2 ^ rank (after s) q * 2 = ap (λ (r : ℕ). 2 ^ r) e ∙ pow-suc 2 (rank (after s) q) in
        omega (arith, ih (y / 2) (omega arith), pow-suc 2 q)
    go false k ih =
        let e : 0 + rank (after s) q ≡ rank (after s) q = omega arith in
        let p : 2 ^ (0 + rank (after s) q) ≡ 2 ^ rank (after s) q = ap (λ (r : ℕ). 2 ^ r) e in
        omega (arith, ih y (omega arith), pow-suc 2 q)

-- ---- the other way round

-- the bits of x at the positions in s, in their order
unfoldable pub gather : (ℕ → Bool) → ℕ → ℕ → ℕ
gather s zero x = 0
gather s (suc n) x = cond (s 0) (2 * gather (after s) n (x / 2) + x % 2) (gather (after s) n (x / 2))

pub gather-lt : (s : ℕ → Bool) (n x : ℕ) → gather s n x < 2 ^ rank s n
unfolding gather rank
gather-lt s zero x = omega arith
gather-lt s (suc n) x = go (s 0) (gather-lt (after s) n (x / 2))
  where
    go : (b : Bool) → gather (after s) n (x / 2) < 2 ^ rank (after s) n
        → cond b (2 * gather (after s) n (x / 2) + x % 2) (gather (after s) n (x / 2)) < 2 ^ (cond b 1 0 + rank (after s) n)
    go true ih =
        let e : 1 + rank (after s) n ≡ suc (rank (after s) n) = omega arith in
        omega (arith, ap (λ (q : ℕ). 2 ^ q) e ∙ pow-suc 2 (rank (after s) n))
    go false ih = let e : 0 + rank (after s) n ≡ rank (after s) n = omega arith in omega (arith, ap (λ (q : ℕ). 2 ^ q) e)

-- the bits at other positions are dropped, so that a number does not grow
pub gather-le : (s : ℕ → Bool) (n x : ℕ) → spread s n (gather s n x) ≤ x
unfolding spread gather
gather-le s zero x = omega arith
gather-le s (suc n) x = go (s 0) (gather (after s) n (x / 2)) (gather-le (after s) n (x / 2))
  where
    go : (b : Bool) (g : ℕ) → spread (after s) n g ≤ x / 2
        → cond b (2 * spread (after s) n (cond b (2 * g + x % 2) g / 2) + cond b (2 * g + x % 2) g % 2) (2 * spread (after s) n (cond b (2 * g + x % 2) g)) ≤ x
    go true g ih =
        let e : (2 * g + x % 2) / 2 ≡ g = omega arith in
        omega (arith, ap (spread (after s) n) e)
    go false g ih = omega arith

-- and the bits at the positions in s stay
pub gather-bit : (s : ℕ → Bool) (n x i : ℕ) → i < n → T (s i) → bit (spread s n (gather s n x)) i ≡ bit x i
unfolding spread gather
gather-bit s zero x i h t = absurd (not-suc-le-zero h)
gather-bit s (suc n) x zero h t = go (s 0) (gather (after s) n (x / 2)) t
  where
    go : (b : Bool) (g : ℕ) → T b
        → bit (cond b (2 * spread (after s) n (cond b (2 * g + x % 2) g / 2) + cond b (2 * g + x % 2) g % 2) (2 * spread (after s) n (cond b (2 * g + x % 2) g))) 0 ≡ bit x 0
    go true g u =
        let m = spread (after s) n ((2 * g + x % 2) / 2) in
        let e : (2 * m + (2 * g + x % 2) % 2) % 2 ≡ x % 2 = omega arith in
        bit-zero (2 * m + (2 * g + x % 2) % 2) ∙ ap nonzero e ∙ sym (bit-zero x)
    go false g u = absurd u
gather-bit s (suc n) x (suc i) h t = go (s 0) (gather (after s) n (x / 2)) (gather-bit (after s) n (x / 2) i (le_of_suc-le-suc h) t)
  where
    go : (b : Bool) (g : ℕ) → bit (spread (after s) n g) i ≡ bit (x / 2) i
        → bit (cond b (2 * spread (after s) n (cond b (2 * g + x % 2) g / 2) + cond b (2 * g + x % 2) g % 2) (2 * spread (after s) n (cond b (2 * g + x % 2) g))) (suc i) ≡ bit x (suc i)
    go true g ih =
        let e : (2 * g + x % 2) / 2 ≡ g = omega arith in
        let m = spread (after s) n ((2 * g + x % 2) / 2) in
        let q : (2 * m + (2 * g + x % 2) % 2) / 2 ≡ m = omega arith in
        bit-suc (2 * m + (2 * g + x % 2) % 2) i ∙ ap (λ (y : ℕ). bit y i) (q ∙ ap (spread (after s) n) e) ∙ ih ∙ sym (bit-suc x i)
    go false g ih =
        let q : 2 * spread (after s) n g / 2 ≡ spread (after s) n g = omega arith in
        bit-suc (2 * spread (after s) n g) i ∙ ap (λ (y : ℕ). bit y i) q ∙ ih ∙ sym (bit-suc x i)

-- ---- how far counting gets

pub spread-ge : (s : ℕ → Bool) (n y : ℕ) → y < 2 ^ rank s n → y ≤ spread s n y
unfolding spread rank
spread-ge s zero y h = omega arith
spread-ge s (suc n) y h = go (s 0) h (spread-ge (after s) n)
  where
    go : (b : Bool) → y < 2 ^ (cond b 1 0 + rank (after s) n) → ((z : ℕ) → z < 2 ^ rank (after s) n → z ≤ spread (after s) n z)
        → y ≤ cond b (2 * spread (after s) n (y / 2) + y % 2) (2 * spread (after s) n y)
    go true k ih =
        let e : 1 + rank (after s) n ≡ suc (rank (after s) n) = omega arith in
        let p : 2 ^ (1 + rank (after s) n) ≡ 2 ^ rank (after s) n * 2 = ap (λ (q : ℕ). 2 ^ q) e ∙ pow-suc 2 (rank (after s) n) in
        omega (arith, ih (y / 2) (omega arith))
    go false k ih =
        let e : 0 + rank (after s) n ≡ rank (after s) n = omega arith in
        let p : 2 ^ (0 + rank (after s) n) ≡ 2 ^ rank (after s) n = ap (λ (q : ℕ). 2 ^ q) e in
        omega (arith, ih y (omega arith))

module _ (s : ℕ → Bool) (n D : ℕ) where
  pub passed-all : 2 ^ rank s n ≤ D → passed s n D ≡ 2 ^ n
  unfolding passed
  passed-all h = rw (le-leb (2 ^ rank s n) D h)

  pub passed-part : D < 2 ^ rank s n → passed s n D ≡ spread s n D
  unfolding passed
  passed-part h = rw (lt-leb (2 ^ rank s n) D h)

  pub passed-most : passed s n D ≤ 2 ^ n
  passed-most =
      elim (dec_lt D (2 ^ rank s n)) [ yes h ↦ omega (arith, passed-part h, spread-lt s n D) | no h ↦ omega (arith, passed-all (omega arith)) ]

  -- not less than the first D
  pub passed-least : min (2 ^ n) D ≤ passed s n D
  passed-least =
      elim (dec_lt D (2 ^ rank s n)) [ yes h ↦ omega (arith, passed-part h, spread-ge s n D h) | no h ↦ omega (arith, passed-all (omega arith)) ]

  -- all numbers are passed exactly where D are enough for the positions in s
  pub passed-covers : leb (2 ^ n) (passed s n D) ≡ leb (2 ^ rank s n) D
  passed-covers =
      elim (dec_lt D (2 ^ rank s n)) [
        | yes h ↦ lt-leb (2 ^ n) (passed s n D) (omega (arith, passed-part h, spread-lt s n D)) ∙ sym (lt-leb (2 ^ rank s n) D h)
        | no h ↦ le-leb (2 ^ n) (passed s n D) (omega (arith, passed-all (omega arith))) ∙ sym (le-leb (2 ^ rank s n) D (omega arith))
      ]

  pub spread-passed : (y : ℕ) → y < min (2 ^ rank s n) D → spread s n y < passed s n D
  spread-passed y h =
      elim (dec_lt D (2 ^ rank s n)) [
        | yes k ↦ omega (arith, passed-part k, spread-mono s n y D (omega arith) k)
        | no k ↦ omega (arith, passed-all (omega arith), spread-lt s n y)
      ]

-- a test that sees the positions in s alone
module _ (s : ℕ → Bool) (n : ℕ) (test : ℕ → Bool) (sees : (x : ℕ) → x < 2 ^ n → test (spread s n (gather s n x)) ≡ test x) where
  -- where no number before y passes when it is spread, none before y, spread, passes
  pub none_before : (y : ℕ) → ((z : ℕ) → z < y → T (test (spread s n z)) → ⊥) → (x : ℕ) → x < spread s n y → T (test x) → ⊥
  none_before y none x h t =
      none (gather s n x) (spread-order s n (gather s n x) y (gather-lt s n x) (omega (arith, gather-le s n x)))
      (subst T (sym (sees x (omega (arith, spread-lt s n y)))) t)

  -- where none of the numbers that are tried passes, none of those that are passed does
  pub none_passed : (D : ℕ) → ((z : ℕ) → z < min (2 ^ rank s n) D → T (test (spread s n z)) → ⊥) → (x : ℕ) → x < passed s n D → T (test x) → ⊥
  none_passed D none x h t =
      elim (dec_lt D (2 ^ rank s n)) [
        | yes k ↦ none_before D (λ z l. none z (omega arith)) x (omega (arith, passed-part s n D k)) t
        | no k ↦
            none (gather s n x) (omega (arith, gather-lt s n x)) (subst T (sym (sees x (omega (arith, passed-most s n D)))) t)
      ]

-- a larger budget passes no fewer
pub passed-mono : (s : ℕ → Bool) (n D E : ℕ) → D ≤ E → passed s n D ≤ passed s n E
passed-mono s n D E h =
    elim (dec_lt E (2 ^ rank s n)) [
      | yes k ↦
          elim (ℕ_discrete D E) [
            | yes e ↦ omega (arith, ap (passed s n) e)
            | no e ↦ omega (arith, passed-part s n D (omega arith), passed-part s n E k, spread-mono s n D E (omega arith) k)
          ]
      | no k ↦ omega (arith, passed-all s n E (omega arith), passed-most s n D)
    ]
