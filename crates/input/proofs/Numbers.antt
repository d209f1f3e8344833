-- The number that a read gave, above 0, 0 or below it. Assumes nothing.
use mathlib.Core.Path.{◌≡◌, refl, sym, ap}
use mathlib.Core.Bool.{Bool, true, false, cond}
use mathlib.Core.List.{List, ◌++◌}
use Prim.Native.Nat.{ℕ, ◌≤◌, ◌<◌, ◌^◌, zero-le}
use native.Mathlib.Omega.{arith}
use lib.Dec.{T}
use lib.IntN.{ℤ, pos, negsuc, nat_abs}
use lib.Signed.{lt_z, non_neg, mag}
use lib.ListN.{length, length-append}
use mir.Syntax.{w64}
use mir.Val.{Fits, to_z, of_z}
use mir.ValLaws.{to_z-of_z}
use lib.Seq.{length-take-le}
use borrow.Author.Tests.{ltb-false, le-ltb}
use Rattle.input.specs.Reading.{IsPrefixLen, count_given, is_failure}

pub differ : {A : Type 0} → false ≡ true → A
differ e = let z : ◌≡◌ {A = ℕ} 0 1 = ap (λ (b : Bool). cond b 1 0) e in absurd (omega (arith, z))

-- a number below 0 is a failure
pub failure-is : (z : ℤ) → lt_z z (pos 0) ≡ is_failure z
failure-is (pos k) = le-ltb k 0 zero-le
failure-is (negsuc k) = refl

-- a number above 0 counts bytes
pub above : (z : ℤ) → lt_z (pos 0) z ≡ true → T (non_neg z)
above (pos k) e = tt
above (negsuc k) e = differ e

pub above-count : (z : ℤ) → lt_z (pos 0) z ≡ true → nat_abs z ≡ count_given z
above-count (pos k) e = refl
above-count (negsuc k) e = differ e

-- any other counts none
pub not-above : (z : ℤ) → lt_z (pos 0) z ≡ false → 0 ≡ count_given z
not-above (pos k) e = omega (arith, ltb-false 0 k e)
not-above (negsuc k) e = refl

-- a number that a field or a variable holds is read back
pub read_back : (z : ℤ) → mag z < 2 ^ 63 → to_z w64 (of_z w64 z) ≡ z
read_back z l = to_z-of_z w64 z (record { sfits = l })

pub absolute-fits : (z : ℤ) → mag z < 2 ^ 63 → Fits w64 (nat_abs z)
absolute-fits (pos k) l = record { fits = omega (arith, l) }
absolute-fits (negsuc k) l = record { fits = omega (arith, l) }

-- a failure counts no byte
pub failure-none : (z : ℤ) → is_failure z ≡ true → count_given z ≡ 0
failure-none (pos k) e = differ e
failure-none (negsuc k) e = refl

-- a number that counts bytes of a part counts bytes of the whole
pub counts-front : {n k : ℕ} (part rest : List ℕ) → length part ≡ k → IsPrefixLen n part → (n ≤ k) × IsPrefixLen n (part ++ rest)
counts-front {n} part rest l c =
    let inside : n ≤ length (part ++ rest) = omega (arith, length-append part rest, c.0) in
    (omega (arith, l, c.0), (inside, sym (length-take-le n (part ++ rest) inside)))
