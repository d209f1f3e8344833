-- `layers::alike` meets its contract. Assumes nothing.
use mathlib.Core.Path.{◌≡◌, refl, sym, ap, ◌∙◌}
use mathlib.Core.Bool.{Bool, true, false, not, xor}
use Prim.Native.Nat.{ℕ, zero, suc, ◌/◌, ◌%◌, ◌^◌}
use native.Mathlib.Omega.{arith}
use borrow.Author.Tests.{eqb-true}
use lib.Dec.{eqb}
use Rattle.aiger.specs.Bits.{nonzero, bit}
use Rattle.words.proofs.Bits.{xor-true, xor-false}
use borrow.Author.Rules.{rules}
use Rattle.layers.proofs.alike.Statement.{statement}
use Rattle.layers.proofs.alike.Tie as tie

not-true : (a : Bool) → not a ≡ true → a ≡ false
not-true true e = sym e
not-true false e = refl

nonzero-some : (m : ℕ) → eqb m 0 ≡ false → nonzero m ≡ true
nonzero-some zero e = absurd (let z : ◌≡◌ {A = ℕ} 0 1 = cc in omega arith)
nonzero-some (suc m) e = refl

-- a bit that is true after the word is complemented, or not, by bit p, has bit p's value
kept : (m : ℕ) (a b : Bool) → b ≡ xor (eqb m 0) a → b ≡ true → a ≡ nonzero m
kept m a b e t = go (eqb m 0) refl (sym e ∙ t)
  where
    go : (k : Bool) → eqb m 0 ≡ k → xor k a ≡ true → a ≡ nonzero m
    go true f h = not-true a (sym (xor-true a) ∙ h) ∙ sym (ap nonzero (eqb-true m 0 f))
    go false f h = sym (xor-false a) ∙ h ∙ sym (nonzero-some m f)

-- bit p itself
own : (m : ℕ) (b : Bool) → b ≡ xor (eqb m 0) (nonzero m) → b ≡ true
own m b e = e ∙ go (eqb m 0) refl
  where
    go : (k : Bool) → eqb m 0 ≡ k → xor k (nonzero m) ≡ true
    go true f = xor-true (nonzero m) ∙ ap not (ap nonzero (eqb-true m 0 f))
    go false f = xor-false (nonzero m) ∙ nonzero-some m f

returns : tie.Need-returns
unfolding bit
returns c =
    let m = c.args.x / 2 ^ c.args.p % 2 in (
      λ q l t. kept m (bit c.args.x q) (bit c.literal_word.result q) (c.literal_word.ensures q l) t,
      own m (bit c.literal_word.result c.args.p) (c.literal_word.ensures c.args.p c.requires),
    )

pub alike_spec : {M : Type 1} → statement M
alike_spec =
    tie.close
    (tie.spec (λ c. search rules) (λ c κs. search rules) returns)
