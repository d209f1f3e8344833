-- Raising the floor: each hit stays at or above it. Assumes nothing.
use mathlib.Core.Path.{◌≡◌, refl, sym, ap, ◌∙◌, subst}
use mathlib.Core.Bool.{Bool, true, false, not, cond}
use Prim.Native.Nat.{ℕ, zero, suc, ◌+◌, ◌-◌, ◌*◌, ◌/◌, ◌%◌, ◌^◌, ◌≤◌, ◌<◌}
use native.Mathlib.Nat.{div-lt_iff_lt-mul, le-div_iff_mul-le, div-one, pow-zero, pow-suc, mul_comm, div-div-eq-div-mul, eq-or-lt_of_le}
use native.Mathlib.Decide.{ℕ_discrete, dec_lt}
use native.Mathlib.Omega.{arith}
use lib.Dec.{T}
use lib.Pow.{pow_pos, shr-shr, shr_mono}
use Rattle.aiger.specs.Bits.{nonzero, odd, bit}
use Rattle.aiger.specs.Frames.{value, free_bit}
use Rattle.clauses.specs.Clause.{Holds}
use Rattle.clauses.specs.Floor.{Free, Floor, prefix, Above}

-- one bit less
shorter : (n x u : ℕ) → suc u ≤ n → x / 2 ^ (n - u) ≡ x / 2 ^ (n - suc u) / 2
shorter n x u l =
    let e : n - u ≡ suc (n - suc u) = omega arith in
    ap (λ (k : ℕ). x / 2 ^ k) e ∙ ap (λ (y : ℕ). x / y) (pow-suc 2 (n - suc u)) ∙ sym (div-div-eq-div-mul x (2 ^ (n - suc u)) 2)

-- free bit u of x as a number
bit-of : (n x u : ℕ) (c : Bool) → free_bit n x u ≡ c → x / 2 ^ (n - (u + 1)) % 2 ≡ cond c 1 0
unfolding bit
bit-of n x u c e = go (x / 2 ^ (n - (u + 1)) % 2) c (omega arith) e
  where
    go : (d : ℕ) (c : Bool) → d < 2 → nonzero d ≡ c → d ≡ cond c 1 0
    go zero true h e = absurd (subst T (sym e) tt)
    go zero false h e = refl
    go (suc zero) true h e = refl
    go (suc zero) false h e = absurd (subst T e tt)
    go (suc (suc d)) c h e = absurd (omega arith)

pub prefix-mod : (b : ℕ → ℕ) (u : ℕ) → b (suc u) < 2 → prefix b (suc u) % 2 ≡ b (suc u)
unfolding prefix
prefix-mod b u h = omega arith

prefix-half : (b : ℕ → ℕ) (u : ℕ) → b (suc u) < 2 → prefix b (suc u) / 2 ≡ prefix b u
unfolding prefix
prefix-half b u h = omega arith

module _ (n : ℕ) (b : ℕ → ℕ) (digits : (v : ℕ) → b v < 2) where
  -- a number that begins with the first v bits has each of them
  shared-bit : (x v u : ℕ) → v ≤ n → prefix b v ≡ x / 2 ^ (n - v) → u < v → x / 2 ^ (n - (u + 1)) % 2 ≡ b (u + 1)
  shared-bit x zero u l e h = absurd (omega arith)
  shared-bit x (suc v) u l e h =
      elim (ℕ_discrete u v) [
        | yes z ↦
            let s : u + 1 ≡ suc v = omega arith in
            subst (λ (k : ℕ). x / 2 ^ (n - k) % 2 ≡ b k) (sym s) (ap (λ (y : ℕ). y % 2) (sym e) ∙ prefix-mod b v (digits (suc v)))
        | no z ↦ shared-bit x v u (omega arith) (sym (prefix-half b v (digits (suc v))) ∙ ap (λ (y : ℕ). y / 2) e ∙ sym (shorter n x v l)) (omega arith)
      ]

  -- the first v bits of the number that all the bits make
  pub prefix-at : (v k : ℕ) → v + k ≡ n → prefix b n / 2 ^ k ≡ prefix b v
  prefix-at v zero e =
      let s : v ≡ n = omega arith in
      ap (λ (y : ℕ). prefix b n / y) (pow-zero 2) ∙ div-one (prefix b n) ∙ ap (prefix b) (sym s)
  prefix-at v (suc k) e =
      ap (λ (y : ℕ). prefix b n / y) (pow-suc 2 k) ∙ sym (div-div-eq-div-mul (prefix b n) (2 ^ k) 2)
      ∙ ap (λ (y : ℕ). y / 2) (prefix-at (suc v) k (omega arith)) ∙ prefix-half b v (digits (suc v))

  module _ (hits : ℕ → Type 0) where
    -- where the floor is the place of all bits, and no hit shares the first v of them, each hit is above
    pub above-start : (v : ℕ) → v ≤ n → Floor hits (prefix b n)
        → ((x : ℕ) → hits x → ((u : ℕ) → u < v → x / 2 ^ (n - (u + 1)) % 2 ≡ b (u + 1)) → ⊥) → Above hits n b v
    above-start v l floor none x h =
        let p = prefix-at v (n - v) (omega arith) in
        let m = shr_mono {a = prefix b n} {b = x} (n - v) (floor x h) in
        elim (ℕ_discrete (prefix b v) (x / 2 ^ (n - v))) [
          | yes e ↦ absurd (none x h (λ u s. shared-bit x v u l e s))
          | no e ↦ omega arith
        ]

    -- a bit that is 1 is left out
    pub above-one : (v : ℕ) → suc v ≤ n → b (suc v) ≡ 1 → Above hits n b (suc v) → Above hits n b v
    unfolding prefix
    above-one v l e above x h = omega (arith, above x h, shorter n x v l)

    -- so is one that is 0, and 0 in every hit
    pub above-still : (v : ℕ) → suc v ≤ n → ((x : ℕ) → hits x → free_bit n x v ≡ false) → Above hits n b (suc v) → Above hits n b v
    unfolding prefix
    above-still v l clean above x h =
        let s : v + 1 ≡ suc v = omega arith in
        let z = subst (λ (k : ℕ). x / 2 ^ (n - k) % 2 ≡ 0) s (bit-of n x v false (clean x h)) in
        omega (arith, above x h, shorter n x v l)

    -- the floor rises to the next prefix
    pub above_floor : (v : ℕ) → Above hits n b v → Floor hits ((prefix b v + 1) * 2 ^ (n - v))
    above_floor v above x h = (le-div_iff_mul-le {x = prefix b v + 1} {y = x} (pow_pos (n - v))).0 (omega (arith, above x h))

    -- no bit is left: there is no hit
    pub above-none : ((x : ℕ) → hits x → x < 2 ^ n) → Above hits n b 0 → (x : ℕ) → hits x → ⊥
    unfolding prefix
    above-none within above x h =
        let e : n - 0 ≡ n = omega arith in
        let q = (div-lt_iff_lt-mul {x = x} {y = 1} (pow_pos n)).1 (omega (arith, within x h)) in
        let r = subst (λ (k : ℕ). 0 < x / 2 ^ k) e (above x h) in
        omega arith
