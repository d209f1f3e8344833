-- A block of 64 places without those before a place. Assumes nothing.
use mathlib.Core.Path.{◌≡◌, sym, ap, ◌∙◌, subst}
use mathlib.Core.Bool.{Bool, ◌&&◌}
use Prim.Native.Nat.{ℕ, ◌+◌, ◌-◌, ◌*◌, ◌/◌, ◌%◌, ◌^◌, ◌≤◌, ◌<◌}
use native.Mathlib.Decide.{dec_lt}
use native.Mathlib.Omega.{arith}
use borrow.Author.Tests.{le-leb, lt-leb}
use lib.Dec.{T, leb, leb→le}
use lib.Pow.{pow_pos, pow_mono, shr-shr, split}
use Rattle.aiger.specs.Bits.{odd, bit}
use Rattle.aiger.specs.Search.{onward}
use Rattle.aiger.proofs.Tests.{and_left}
use Rattle.words.proofs.Bits.{bit-none, join-low, join-high}
use Rattle.enumeration.specs.Blocks.{Onward}

-- all places of the block are counted
pub onward-all : (hits block lo : ℕ) → lo ≤ 64 * block → Onward hits block lo hits
onward-all hits block lo l p h = sym (ap (λ (b : Bool). b && bit hits p) (le-leb lo (block * 64 + p) (omega arith)))

-- none is
pub onward-none : (hits block lo : ℕ) → 64 * block + 64 ≤ lo → Onward hits block lo 0
onward-none hits block lo l p h = bit-none p ∙ sym (ap (λ (b : Bool). b && bit hits p) (lt-leb lo (block * 64 + p) (omega arith)))

-- those from the one at position q of the block on
pub onward-from : (hits block lo q : ℕ) → lo ≡ 64 * block + q → Onward hits block lo (hits / 2 ^ q * 2 ^ q)
unfolding bit
onward-from hits block lo q e p h = elim (dec_lt p q) [ yes l ↦ low l | no l ↦ high (omega arith) ]
  where
    plain : hits / 2 ^ q * 2 ^ q + 0 ≡ hits / 2 ^ q * 2 ^ q
    plain = omega arith

    low : p < q → bit (hits / 2 ^ q * 2 ^ q) p ≡ (leb lo (block * 64 + p) && bit hits p)
    low l =
        ap (λ (x : ℕ). bit x p) (sym plain) ∙ join-low q (hits / 2 ^ q) 0 p l ∙ bit-none p
        ∙ sym (ap (λ (b : Bool). b && bit hits p) (lt-leb lo (block * 64 + p) (omega arith)))

    high : q ≤ p → bit (hits / 2 ^ q * 2 ^ q) p ≡ (leb lo (block * 64 + p) && bit hits p)
    high l =
        let s : q + (p - q) ≡ p = omega arith in
        ap (λ (x : ℕ). bit x p) (sym plain) ∙ join-high q (hits / 2 ^ q) 0 p (pow_pos q) l
        ∙ ap odd (shr-shr hits q (p - q) ∙ ap (λ (k : ℕ). hits / 2 ^ k) s)
        ∙ sym (ap (λ (b : Bool). b && bit hits p) (le-leb lo (block * 64 + p) (omega arith)))

-- the quotient times its divisor is no more than the number
pub part_small : (x q : ℕ) → x / 2 ^ q * 2 ^ q ≤ x
part_small x q = omega (arith, split x q)

-- a power of two that is a word
pub size_is : (q : ℕ) → q ≤ 63 → 1 * 2 ^ q % 18446744073709551616 ≡ 2 ^ q
size_is q l = omega (arith, pow_mono {i = q} {j = 63} l)

pub size-some : (q : ℕ) → q ≤ 63 → 0 < 1 * 2 ^ q % 18446744073709551616
size-some q l = omega (arith, size_is q l, pow_pos q)

pub size-part : (x q : ℕ) → q ≤ 63 → x / (1 * 2 ^ q % 18446744073709551616) * (1 * 2 ^ q % 18446744073709551616) ≤ x
size-part x q l = subst (λ (s : ℕ). x / s * s ≤ x) (sym (size_is q l)) (part_small x q)

pub onward-size : (hits block lo q : ℕ) → q ≤ 63 → lo ≡ 64 * block + q
    → Onward hits block lo (hits / (1 * 2 ^ q % 18446744073709551616) * (1 * 2 ^ q % 18446744073709551616))
onward-size hits block lo q l e = subst (λ (s : ℕ). Onward hits block lo (hits / s * s)) (sym (size_is q l)) (onward-from hits block lo q e)

-- the word says of each place from lo on whether it hits
pub onward-each : (p : ℕ → Bool) (block hits lo r : ℕ) → ((q : ℕ) → q < 64 → bit hits q ≡ p (block * 64 + q)) → Onward hits block lo r
    → (q : ℕ) → q < 64 → bit r q ≡ onward lo p (block * 64 + q)
onward-each p block hits lo r each on q h = on q h ∙ ap (λ (b : Bool). leb lo (block * 64 + q) && b) (each q h)

-- no place before lo is counted
pub none_before : (p : ℕ → Bool) (lo y : ℕ) → y < lo → T (onward lo p y) → ⊥
none_before p lo y l t = let h = leb→le lo y (and_left (leb lo y) (p y) t) in omega arith
