-- Bits of the words that the small functions give. Assumes nothing.
use mathlib.Core.Path.{◌≡◌, refl, sym, ap, ap₂, ◌∙◌}
use mathlib.Core.Bool.{Bool, true, false, not, cond, ◌||◌}
use mathlib.Core.List.{List}
use Prim.Native.Nat.{ℕ, zero, suc, ◌+◌, ◌-◌, ◌*◌, ◌%◌, ◌^◌, ◌≤◌, ◌<◌}
use native.Mathlib.Decide.{dec_lt}
use native.Mathlib.Omega.{arith}
use borrow.Author.Tests.{eq-eqb, ne_eqb}
use lib.Pow.{pow_mono, pow-add}
use lib.Dec.{eqb}
use lib.ListN.{get_or, take}
use Rattle.aiger.specs.Bits.{bit}
use Rattle.aiger.specs.Circuit.{var}
use Rattle.completions.specs.Either.{is_either, eithers}
use Rattle.literals.specs.Literal.{literal}
use Rattle.literals.specs.declared.Lit.{Lit}
use Rattle.literals.specs.declared.Var.{Var}
use Rattle.completions.specs.Forms.{completed}
use Rattle.completions.proofs.Completions.{completion-at, eithers-more, eithers-few, digit-few}
use Rattle.blocks.specs.Runs.{line_bit}

-- ---- whether a start value b agrees with a reset

abbrev pub agrees_one : ℕ → ℕ → Bool → Bool
agrees_one lit reset b = eqb reset lit || eqb reset (cond b 1 0)

pub agrees-free : (lit reset : ℕ) (b : Bool) → reset ≡ lit → agrees_one lit reset b ≡ true
agrees-free lit reset b e = rw (eq-eqb reset lit e)

module _ (lit reset : ℕ) (n : reset ≡ lit → ⊥) where
  pub agrees-one : (b : Bool) → reset ≡ 1 → agrees_one lit reset b ≡ b
  agrees-one true e = rw (ne_eqb reset lit n, eq-eqb reset 1 e)
  agrees-one false e = rw (ne_eqb reset lit n, ne_eqb reset 0 (λ q. omega arith))

  pub agrees-zero : (b : Bool) → reset ≡ 0 → agrees_one lit reset b ≡ not b
  agrees-zero true e = rw (ne_eqb reset lit n, ne_eqb reset 1 (λ q. omega arith))
  agrees-zero false e = rw (ne_eqb reset lit n, eq-eqb reset 0 e)

  pub agrees-none : (b : Bool) → (reset ≡ 1 → ⊥) → (reset ≡ 0 → ⊥) → agrees_one lit reset b ≡ false
  agrees-none true p q = rw (ne_eqb reset lit n, ne_eqb reset 1 p)
  agrees-none false p q = rw (ne_eqb reset lit n, ne_eqb reset 0 q)

-- ---- the bit that stands in a completion

pub either-bit : (byte : ℕ) (b : Bool) → byte ≡ 120 → b ≡ eqb (completed byte b) 49
either-bit byte true e = rw (eq-eqb byte 120 e)
either-bit byte false e = rw (eq-eqb byte 120 e)

pub one_bit : (byte : ℕ) (b : Bool) → byte ≡ 49 → true ≡ eqb (completed byte b) 49
one_bit byte b e = rw e

pub other-bit : (byte : ℕ) (b : Bool) → (byte ≡ 120 → ⊥) → (byte ≡ 49 → ⊥) → false ≡ eqb (completed byte b) 49
other-bit byte b n k = rw (ne_eqb byte 120 n, ne_eqb byte 49 k)

-- ---- blocks that cover the completions

pub one_block : (n : ℕ) → n < 7 → 1 ≡ 2 ^ (n - 6)
one_block n h = let e : 0 ≡ n - 6 = omega arith in ap (λ (k : ℕ). 2 ^ k) e

pub more-blocks : (n : ℕ) → n ≤ 16 → (1 * 2 ^ (n - 6)) % 18446744073709551616 ≡ 2 ^ (n - 6)
more-blocks n few = let l : 2 ^ (n - 6) ≤ 2 ^ 10 = pow_mono {i = n - 6} {j = 10} (omega arith) in omega arith

-- all completions of n `x`
pub blocks-enough : (n : ℕ) → 2 ^ n ≤ 2 ^ (n - 6) * 64
blocks-enough n =
    elim (dec_lt n 7) [
      | yes h ↦ let l : 2 ^ n ≤ 2 ^ 6 = pow_mono {i = n} {j = 6} (omega arith) in omega (arith, one_block n h)
      | no h ↦
          let e : n - 6 + 6 ≡ n = omega arith in
          let q : 2 ^ n ≡ 2 ^ (n - 6) * 2 ^ 6 = ap (λ (k : ℕ). 2 ^ k) (sym e) ∙ pow-add 2 (n - 6) 6 in
          omega arith
    ]

-- ---- a line of bits, one after the other

module _ (text : List ℕ) (at i : ℕ) where
  -- bit i in each completion of a block, where k x stand before it
  pub line-bit : (block k x : ℕ) → k ≡ eithers (take (at + i) text)
      → ((p : ℕ) → p < 64 → bit x p ≡ eqb (completed (get_or text (at + i) 0) (bit (block * 64 + p) k)) 49)
      → (p : ℕ) → p < 64 → bit x p ≡ line_bit text at block i p
  line-bit block k x e h p l =
      h p l
      ∙ ap (λ (n : ℕ). eqb (completed (get_or text (at + i) 0) (bit (block * 64 + p) n)) 49) e
      ∙ ap (λ (c : ℕ). eqb c 49) (sym (completion-at (block * 64 + p) text (at + i)))

  -- the x up to there
  pub line-eithers : (k : ℕ) {d : ℕ} → k ≡ eithers (take (at + i) text) → d ≡ cond (is_either (get_or text (at + i) 0)) 1 0
      → k + d ≡ eithers (take (at + i + 1) text)
  line-eithers k e q = ap₂ (λ (x y : ℕ). x + y) e q ∙ sym (eithers-more text (at + i))

  pub line-fits : (k : ℕ) {d : ℕ} → k ≡ eithers (take (at + i) text) → d ≡ cond (is_either (get_or text (at + i) 0)) 1 0 → k + d ≤ at + i + 1
  line-fits k e q = omega (arith, eithers-few (at + i) text, digit-few (is_either (get_or text (at + i) 0)))

-- the variable of a word
pub variable : (w : ℕ) {l : Lit} {v : Var} → l ≡ literal w → v ≡ l.0 → v.0 ≡ var w
variable w e q = ap (λ (x : Var). x.0) q ∙ ap (λ (x : Lit). x.0.0) e
