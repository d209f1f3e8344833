-- Literals and words stand for one another, and a complement's complement is the literal itself. Assumes nothing.
use mathlib.Core.Path.{◌≡◌, refl, ap, ap₂, ◌∙◌}
use mathlib.Core.Bool.{Bool, true, false, not, cond}
use Prim.Native.Nat.{ℕ, zero, suc, ◌+◌, ◌*◌, ◌/◌, ◌%◌, ◌<◌}
use native.Mathlib.Omega.{arith}
use lib.Dec.{T, leb, eqb, eqb→eq, leb→le, le→leb}
use borrow.Author.Tests.{eq-eqb}
use Rattle.aiger.specs.Bits.{odd, nonzero}
use Rattle.aiger.specs.Circuit as circuit
use Rattle.aiger.proofs.Tests.{T_true}
use Rattle.literals.specs.Literal.{signed, literal, word_of, complemented}
use Rattle.literals.specs.declared.Lit.{Lit}

low_bit : (x : ℕ) → x < 2 → eqb x 1 ≡ nonzero x
low_bit zero h = refl
low_bit (suc zero) h = refl
low_bit (suc (suc x)) h = absurd (omega arith)

-- the code's test of the last bit
pub odd-test : (w : ℕ) → eqb (w % 2) 1 ≡ odd w
odd-test w = low_bit (w % 2) (omega arith)

bit-back : (x : ℕ) → x < 2 → cond (nonzero x) 1 0 ≡ x
bit-back zero h = refl
bit-back (suc zero) h = refl
bit-back (suc (suc x)) h = absurd (omega arith)

pub word-literal : (w : ℕ) → word_of (literal w) ≡ w
word-literal w = omega (arith, bit-back (w % 2) (omega arith))

-- the parts of a literal, read off its word
pub word-var : (l : Lit) → circuit.var (word_of l) ≡ l.0.0
word-var l = go l.0.0 l.1
  where
    go : (v : ℕ) (b : Bool) → (2 * v + cond b 1 0) / 2 ≡ v
    go v true = omega arith
    go v false = omega arith

pub word-odd : (l : Lit) → odd (word_of l) ≡ l.1
word-odd l = go l.0.0 l.1
  where
    go : (v : ℕ) (b : Bool) → odd (2 * v + cond b 1 0) ≡ b
    go v true = let e : (2 * v + 1) % 2 ≡ 1 = omega arith in ap nonzero e
    go v false = let e : (2 * v + 0) % 2 ≡ 0 = omega arith in ap nonzero e

pub literal-word : (l : Lit) → literal (word_of l) ≡ l
literal-word l = ap₂ signed (word-var l) (word-odd l)

pub complement-twice : (l : Lit) → complemented (complemented l) ≡ l
complement-twice l = ap (signed l.0.0) (go l.1)
  where
    go : (b : Bool) → not (not b) ≡ b
    go true = refl
    go false = refl

one-test : (x y : Bool) → (T x → T y) → (T y → T x) → x ≡ y
one-test true true f g = refl
one-test true false f g = absurd (f tt)
one-test false true f g = absurd (g tt)
one-test false false f g = refl

-- literals 0 and 1 are those of variable 0
pub constant-word : (l : Lit) → eqb l.0.0 0 ≡ leb (word_of l) 1
constant-word l = go l.0.0 l.1
  where
    go : (v : ℕ) (b : Bool) → eqb v 0 ≡ leb (2 * v + cond b 1 0) 1
    go v true =
        one-test (eqb v 0) (leb (2 * v + 1) 1)
        (λ t. let e = eqb→eq v 0 t in le→leb (2 * v + 1) 1 (omega arith))
        (λ t. let h = leb→le (2 * v + 1) 1 t in T_true (eq-eqb v 0 (omega arith)))
    go v false =
        one-test (eqb v 0) (leb (2 * v + 0) 1)
        (λ t. let e = eqb→eq v 0 t in le→leb (2 * v + 0) 1 (omega arith))
        (λ t. let h = leb→le (2 * v + 0) 1 t in T_true (eq-eqb v 0 (omega arith)))

-- the word of a literal that was read from it
pub word_read : (w : ℕ) {l : Lit} → l ≡ literal w → word_of l ≡ w
word_read w e = ap word_of e ∙ word-literal w
