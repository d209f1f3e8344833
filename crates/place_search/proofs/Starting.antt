-- The test of a starting place without a power of two that is not a word. Assumes nothing.
use mathlib.Core.Path.{◌≡◌, refl, sym, ap, ◌∙◌}
use mathlib.Core.Bool.{Bool, true, false, ◌&&◌}
use Prim.Native.Nat.{ℕ, ◌+◌, ◌*◌, ◌%◌, ◌^◌, ◌≤◌, ◌<◌}
use native.Mathlib.Omega.{arith}
use lib.Dec.{T, leb, ltb, leb→le, le→leb, ltb→lt, lt→ltb}
use lib.Pow.{pow_mono}
use Rattle.aiger.specs.Search.{greatest}
use Rattle.place_search.specs.Operation.{place_right}

-- of two tests the one that implies the other is their conjunction
left_alone : (a b : Bool) → (T a → T b) → a ≡ (a && b)
left_alone true true f = refl
left_alone true false f = absurd (f tt)
left_alone false b f = refl

right-alone : (a b : Bool) → (T b → T a) → b ≡ (a && b)
right-alone true b f = refl
right-alone false true f = absurd (f tt)
right-alone false false f = refl

-- with more than 62 free bits each number that may be told is a place
pub place-many : (n place : ℕ) → 62 < n → leb place 4611686018427387904 ≡ place_right n place
unfolding greatest
place-many n place l =
    left_alone (leb place 4611686018427387904) (ltb place (2 ^ n))
    (λ h. lt→ltb place (2 ^ n) (omega (arith, leb→le place 4611686018427387904 h, pow_mono {i = 63} {j = n} l)))

-- with no more each place may be told
pub place-few : (n place : ℕ) → n ≤ 62 → ltb place (1 * 2 ^ n % 18446744073709551616) ≡ place_right n place
unfolding greatest
place-few n place l =
    let small : 2 ^ n ≤ 4611686018427387904 = pow_mono {i = n} {j = 62} l in
    let e : 1 * 2 ^ n % 18446744073709551616 ≡ 2 ^ n = omega arith in
    ap (ltb place) e
    ∙ right-alone (leb place 4611686018427387904) (ltb place (2 ^ n))
    (λ h. le→leb place 4611686018427387904 (omega (arith, ltb→lt place (2 ^ n) h)))
