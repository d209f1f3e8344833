-- The law of resolution, and that a gate's clauses hold. Assumes nothing.
use mathlib.Core.Path.{◌≡◌, refl, sym, ap, ◌∙◌, subst}
use mathlib.Core.Bool.{Bool, true, false, not, cond, ◌&&◌, not-not}
use mathlib.Core.Logic.{◌⊎◌, inl, inr, ⊎_elim}
use Prim.Native.Nat.{ℕ, ◌+◌, ◌-◌, ◌*◌, ◌/◌, ◌%◌, ◌≤◌, ◌<◌}
use native.Mathlib.Decide.{ℕ_discrete}
use native.Mathlib.Omega.{arith}
use borrow.Author.Tests.{eq-eqb, ne_eqb}
use lib.Dec.{T, eqb, T_not}
use Rattle.aiger.specs.Bits.{nonzero, odd}
use Rattle.aiger.specs.Frames.{value}
use Rattle.memory.specs.Record.{opposite}
use Rattle.clauses.specs.Clause.{Among, Holds, Valid, Always, Covers, GateOf}
use Rattle.aiger.proofs.Tests.{T_true}

-- a literal and its complement

even-value : (a : ℕ → Bool) (l : ℕ) → l % 2 ≡ 0 → value a l ≡ a (l / 2)
even-value a l m = ap (λ (k : ℕ). cond (nonzero k) (not (a (l / 2))) (a (l / 2))) m

odd-value : (a : ℕ → Bool) (l : ℕ) → l % 2 ≡ 1 → value a l ≡ not (a (l / 2))
odd-value a l m = ap (λ (k : ℕ). cond (nonzero k) (not (a (l / 2))) (a (l / 2))) m

pub value-node : (a : ℕ → Bool) (v : ℕ) → value a (2 * v) ≡ a v
value-node a v = let d : 2 * v / 2 ≡ v = omega arith in even-value a (2 * v) (omega arith) ∙ ap a d

pub value_not : (a : ℕ → Bool) (v : ℕ) → value a (2 * v + 1) ≡ not (a v)
value_not a v = let d : (2 * v + 1) / 2 ≡ v = omega arith in odd-value a (2 * v + 1) (omega arith) ∙ ap (λ (u : ℕ). not (a u)) d

pub opposite-even : (l : ℕ) → l % 2 ≡ 0 → opposite l ≡ l + 1
unfolding opposite
opposite-even l e = rw (eq-eqb (l % 2) 0 e)

pub opposite-odd : (l : ℕ) → l % 2 ≡ 1 → opposite l ≡ l - 1
unfolding opposite
opposite-odd l e = rw (ne_eqb (l % 2) 0 (λ z. omega arith))

-- what is shown of even and of odd literals holds
parity : {P : Type 0} (l : ℕ) → (l % 2 ≡ 0 → P) → (l % 2 ≡ 1 → P) → P
parity l f g = elim (ℕ_discrete (l % 2) 0) [ yes e ↦ f e | no n ↦ g (omega arith) ]

pub opposite-node : (l : ℕ) → opposite l / 2 ≡ l / 2
opposite-node l =
    parity l (λ e. rw (opposite-even l e) (omega arith)) (λ e. rw (opposite-odd l e) (omega arith))

pub opposite-sign : (l : ℕ) → opposite l % 2 ≡ 1 - l % 2
opposite-sign l =
    parity l (λ e. rw (opposite-even l e) (omega arith)) (λ e. rw (opposite-odd l e) (omega arith))

pub value-opposite : (a : ℕ → Bool) (l : ℕ) → value a (opposite l) ≡ not (value a l)
value-opposite a l =
    let s = opposite-sign l in
    let d = ap a (opposite-node l) in
    parity l
    (λ e. odd-value a (opposite l) (omega arith) ∙ ap not d ∙ ap not (sym (even-value a l e)))
    (λ e. even-value a (opposite l) (omega arith) ∙ d ∙ sym (not-not (a (l / 2))) ∙ ap not (sym (odd-value a l e)))

pub not-both : (a : ℕ → Bool) (l : ℕ) → T (value a (opposite l)) → T (value a l) → ⊥
not-both a l s t = T_not (value a l) (subst T (value-opposite a l) s) t

module _ (hit : (ℕ → Bool) → Type 0) where
  -- a clause whose literals are all in e, but for those false in every hit
  pub covered : (c e : ℕ → Type 0) (x : ℕ) → Always hit (opposite x) → Valid hit c → Covers hit c x e → Valid hit e
  covered c e x never valid covers a h =
      let g = valid a h in
      let differs : (g.0 ≡ x → ⊥) = λ z. not-both a x (never a h) (subst (λ (l : ℕ). T (value a l)) z g.2) in
      elim (covers g.0 g.1 differs) [
        | inl i ↦ (g.0, i, g.2)
        | inr f ↦ absurd (not-both a g.0 (f a h) g.2)
      ]

  -- two clauses that hold, resolved on a variable, hold: x need not be in d, nor its complement in c
  pub resolved : (c d e : ℕ → Type 0) (x : ℕ) → Valid hit c → Valid hit d → Covers hit c (opposite x) e → Covers hit d x e → Valid hit e
  resolved c d e x first second left right a h = go (ℕ_discrete (first a h).0 (opposite x))
    where
      found : (k : ℕ) → T (value a k) → e k ⊎ Always hit (opposite k) → Holds a e
      found k t s = elim s [ inl i ↦ (k, i, t) | inr f ↦ absurd (not-both a k (f a h) t) ]

      go : Dec ((first a h).0 ≡ opposite x) → Holds a e
      go (no n) = let f = first a h in found f.0 f.2 (left f.0 f.1 n)
      go (yes z) =
          let f = first a h in
          let g = second a h in
          let s : T (value a (opposite x)) = subst (λ (l : ℕ). T (value a l)) z f.2 in
          let n : (g.0 ≡ x → ⊥) = λ y. not-both a x s (subst (λ (l : ℕ). T (value a l)) y g.2) in
          found g.0 g.2 (right g.0 g.1 n)

  -- a clause of one literal
  pub single : (c : ℕ → Type 0) (x : ℕ) → ((l : ℕ) → c l → l ≡ x) → Valid hit c → Always hit x
  single c x only valid a h = let g = valid a h in subst (λ (l : ℕ). T (value a l)) (only g.0 g.1) g.2

-- ---- the clauses of a gate: it is false or an operand is true; it is true or an operand is false

module _ (a : ℕ → Bool) (v l r : ℕ) (gate : GateOf a v l r) where
  negative : a v ≡ false → T (value a (2 * v + 1))
  negative e = T_true (value_not a v ∙ ap not e)

  positive : a v ≡ true → T (value a (2 * v))
  positive e = T_true (value-node a v ∙ e)

  turned : (k : ℕ) → value a k ≡ false → T (value a (opposite k))
  turned k e = T_true (value-opposite a k ∙ ap not e)

  pub left-holds : (c : ℕ → Type 0) → c (2 * v + 1) → c l → Holds a c
  left-holds c p q = go (value a l) (value a r) refl refl
    where
      go : (x y : Bool) → value a l ≡ x → value a r ≡ y → Holds a c
      go true y e f = (l, q, T_true e)
      go false y e f = (2 * v + 1, p, negative (gate ∙ ap (λ (b : Bool). b && value a r) e))

  pub right-holds : (c : ℕ → Type 0) → c (2 * v + 1) → c r → Holds a c
  right-holds c p q = go (value a l) (value a r) refl refl
    where
      go : (x y : Bool) → value a l ≡ x → value a r ≡ y → Holds a c
      go x true e f = (r, q, T_true f)
      go true false e f = (2 * v + 1, p, negative (gate ∙ (cc)))
      go false false e f = (2 * v + 1, p, negative (gate ∙ (cc)))

  pub above_holds : (c : ℕ → Type 0) → c (2 * v) → c (opposite l) → c (opposite r) → Holds a c
  above_holds c o p q = go (value a l) (value a r) refl refl
    where
      go : (x y : Bool) → value a l ≡ x → value a r ≡ y → Holds a c
      go false y e f = (opposite l, p, turned l e)
      go true false e f = (opposite r, q, turned r f)
      go true true e f = (2 * v, o, positive (gate ∙ (cc)))
