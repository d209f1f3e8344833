-- Lines that may hold `x`, in a text of the same form. Assumes nothing.
use mathlib.Core.Path.{◌≡◌, refl, sym, ◌∙◌}
use mathlib.Core.Bool.{Bool, true, false}
use mathlib.Core.List.{List}
use mathlib.Core.Logic.{inl, inr}
use mathlib.Core.Option.{none}
use Prim.Native.Nat.{ℕ, ◌+◌, ◌<◌}
use native.Mathlib.Omega.{arith}
use borrow.Author.Tests.{eq-eqb, ne_eqb, eqb-true, eqb-false}
use lib.Dec.{eqb}
use lib.ListN.{length, drop, get_or}
use Rattle.aiger.specs.Witness.{bits}
use Rattle.completions.specs.Forms.{Bit, Symbol, SameForm}
use Rattle.completions.proofs.Forms.{form-other, form-not}
use Rattle.witness.proofs.Lines.{no-bit}

-- ---- bytes that are no bits, in a text of the same form

feed-no-bit : Bit 10 → ⊥
feed-no-bit (inl e) = omega arith
feed-no-bit (inr e) = omega arith

dot-no-bit : Bit 46 → ⊥
dot-no-bit (inl e) = omega arith
dot-no-bit (inr e) = omega arith

feed-no-symbol : Symbol 10 → ⊥
feed-no-symbol (inl b) = feed-no-bit b
feed-no-symbol (inr e) = omega arith

dot-no-symbol : Symbol 46 → ⊥
dot-no-symbol (inl b) = dot-no-bit b
dot-no-symbol (inr e) = omega arith

module _ {w u : List ℕ} (h : SameForm w u) (i : ℕ) where
  pub same-feed : get_or w i 0 ≡ 10 → get_or u i 0 ≡ 10
  same-feed e = form-other h i feed-no-symbol e

  pub no-feed : (get_or w i 0 ≡ 10 → ⊥) → get_or u i 0 ≡ 10 → ⊥
  no-feed n e = form-not h i feed-no-bit n e

  pub same-dot : get_or w i 0 ≡ 46 → get_or u i 0 ≡ 46
  same-dot e = form-other h i dot-no-symbol e

  pub no-dot : (get_or w i 0 ≡ 46 → ⊥) → get_or u i 0 ≡ 46 → ⊥
  no-dot n e = form-not h i dot-no-bit n e

  -- whether a line feed stands there
  pub feed-test : eqb (get_or w i 0) 10 ≡ eqb (get_or u i 0) 10
  feed-test = go (eqb (get_or w i 0) 10) refl
    where
      go : (b : Bool) → eqb (get_or w i 0) 10 ≡ b → b ≡ eqb (get_or u i 0) 10
      go true e = sym (eq-eqb (get_or u i 0) 10 (same-feed (eqb-true (get_or w i 0) 10 e)))
      go false e = sym (ne_eqb (get_or u i 0) 10 (no-feed (λ q. eqb-false (get_or w i 0) 10 e q)))

-- a byte that is no bit and no `x`, in a line
pub no_symbol : {w u : List ℕ} → SameForm w u → (at count i : ℕ) → i < count → at + i < length u → (Symbol (get_or w (at + i) 0) → ⊥)
    → bits count (drop at u) ≡ none
no_symbol {w} {u} h at count i l k n =
    let e : get_or u (at + i) 0 ≡ get_or w (at + i) 0 = (h.at (at + i)).other n in
    no-bit u at count i l k (λ q. n (inl (inl (sym e ∙ q)))) (λ q. n (inl (inr (sym e ∙ q))))
