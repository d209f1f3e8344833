-- The rule of a gate, by the words that are read of it. Assumes nothing.
use mathlib.Core.Path.{◌≡◌, refl, ap, sym, subst, ◌∙◌}
use mathlib.Core.Bool.{Bool, true, false, cond}
use mathlib.Core.List.{List}
use Prim.Native.Nat.{ℕ, zero, suc, ◌+◌, ◌-◌, ◌*◌, ◌/◌, ◌%◌, ◌≤◌, ◌<◌}
use native.Mathlib.Omega.{arith}
use borrow.Author.Tests.{eq-eqb, ne_eqb, le-leb, lt-leb, lt-ltb, leb-true, leb-false}
use lib.Dec.{T, eqb, leb, ltb}
use lib.ListN.{get_or}
use Rattle.memory.specs.Record.{field}
use Rattle.memory.specs.declared.Netlist.{Netlist}
use Rattle.std.specs.Prelude.{Option, Some, None}
use Rattle.propagation.specs.declared.Consequence.{Consequence}
use Rattle.trail.specs.declared.State.{State}
use Rattle.trail.specs.Trail.{Stood, Left, stood, value}
use Rattle.propagation.specs.Gates.{rule, rule_true, rule_false, applied, followed, looked, gate_rule}

module _ (w : List ℕ) (nodes l : ℕ) where
  -- a literal of no node
  pub value_none : nodes ≤ l / 2 → value w nodes l ≡ l % 2
  unfolding value field
  value_none h = rw (le-leb nodes (l / 2) h) (go (l % 2) (omega arith))
    where
      go : (k : ℕ) → k < 2 → cond (ltb 1 0) 2 (cond (eqb k 0) 0 (1 - 0)) ≡ k
      go zero h = refl
      go (suc zero) h = refl
      go (suc (suc k)) h = absurd (omega arith)

  pub value-large : l / 2 < nodes → 1 < get_or w (14 * (l / 2) + 5) 0 → value w nodes l ≡ 2
  unfolding value field
  value-large h g = rw (lt-leb nodes (l / 2) h, lt-ltb 1 (get_or w (14 * (l / 2) + 5) 0) g)

  pub value-small : l / 2 < nodes → get_or w (14 * (l / 2) + 5) 0 ≤ 1 → value w nodes l ≡ (get_or w (14 * (l / 2) + 5) 0 + l % 2) % 2
  unfolding value field
  value-small h g = rw (lt-leb nodes (l / 2) h) (go (get_or w (14 * (l / 2) + 5) 0) (l % 2) g (omega arith))
    where
      go : (x k : ℕ) → x ≤ 1 → k < 2 → cond (ltb 1 x) 2 (cond (eqb k 0) x (1 - x)) ≡ (x + k) % 2
      go zero zero g h = refl
      go zero (suc zero) g h = refl
      go (suc zero) zero g h = refl
      go (suc zero) (suc zero) g h = refl
      go (suc (suc x)) k g h = absurd (omega arith)
      go zero (suc (suc k)) g h = absurd (omega arith)
      go (suc zero) (suc (suc k)) g h = absurd (omega arith)

-- a rule is not none
never : true ≡ false → ⊥
never e = subst T e tt

is_some : Option Consequence → Bool
is_some (Some r) = true
is_some None = false

some-none : {r : Consequence} → Some r ≡ None → ⊥
unfolding is_some
some-none e = never (ap is_some e)

-- a gate's value decides the rule by its being 0 or 1 alone
rule-clipped : (f x y : ℕ) → rule (cond (ltb 1 f) 2 f) x y ≡ rule f x y
unfolding rule
rule-clipped zero x y = refl
rule-clipped (suc zero) x y = refl
rule-clipped (suc (suc f)) x y = rw (
  lt-ltb 1 (suc (suc f)) (omega arith),
  ne_eqb (suc (suc f)) 1 (λ e. absurd (omega arith)),
  ne_eqb (suc (suc f)) 0 (λ e. absurd (omega arith)),
) refl

-- a gate that is false, as its left operand is, implies nothing
pub rule-false : (o x y : ℕ) → o ≡ 0 → x ≡ 0 → rule o x y ≡ None
unfolding rule rule_false
rule-false o x y e d = rw (e, d) refl

module _ (w : List ℕ) (nodes g : ℕ) where
  pub rule-past : 1073741823 ≤ g → gate_rule w nodes g ≡ None
  unfolding gate_rule
  rule-past h = rw (le-leb 1073741823 g h)

  pub rule-of : g < 1073741823
      → gate_rule w nodes g ≡ rule (value w nodes (2 * g)) (value w nodes (field w nodes g 0)) (value w nodes (field w nodes g 1))
  unfolding gate_rule
  rule-of h = rw (lt-leb 1073741823 g h)

  -- by the words of the gate's record
  pub rule-at : g < 1073741823 → g < nodes
      → gate_rule w nodes g
      ≡ rule (get_or w (14 * g + 5) 0) (value w nodes (get_or w (14 * g) 0)) (value w nodes (get_or w (14 * g + 1) 0))
  unfolding value field
  rule-at h n =
      let z : 14 * g + 0 ≡ 14 * g = omega arith in
      rule-of h ∙ rw (lt-leb nodes g n, own, z) (rule-clipped (get_or w (14 * g + 5) 0) _ _)
    where
      own : value w nodes (2 * g) ≡ cond (ltb 1 (get_or w (14 * g + 5) 0)) 2 (get_or w (14 * g + 5) 0)
      own =
          let d : 2 * g / 2 ≡ g = omega arith in
          let z : 2 * g % 2 ≡ 0 = omega arith in
          rw (d, z, lt-leb nodes g n) refl

  -- where a gate implies something, it is one of those that reasons can name
  pub rule-near : {r : Consequence} → gate_rule w nodes g ≡ Some r → g < 1073741823
  rule-near n = go (leb 1073741823 g) refl
    where
      go : (b : Bool) → leb 1073741823 g ≡ b → g < 1073741823
      go true e = absurd (some-none (sym n ∙ rule-past (leb-true 1073741823 g e)))
      go false e = leb-false 1073741823 g e

module _ (w : List ℕ) (net : Netlist) (s : State) (g : ℕ) where
  pub looked-by : looked w net s g ≡ followed w net s g (gate_rule w net.nodes g)
  unfolding looked gate_rule followed
  looked-by = go (leb 1073741823 g) (rule (value w net.nodes (2 * g)) (value w net.nodes (field w net.nodes g 0))
      (value w net.nodes (field w net.nodes g 1)))
    where
      go : (b : Bool) (r : Option Consequence) → cond b (stood w s) (followed w net s g r) ≡ followed w net s g (cond b None r)
      go true r = refl
      go false r = refl

  pub looked-still : gate_rule w net.nodes g ≡ None → looked w net s g ≡ stood w s
  unfolding followed
  looked-still e = looked-by ∙ rw (e) refl

  -- where a rule was applied, and where there is none
  pub looked-done : {r : Consequence} {v u : List ℕ} {t q : State} → Some r ≡ gate_rule w net.nodes g → Left v t (applied w net s g r) → u ≡ v → q ≡ t
      → Left u q (looked w net s g)
  unfolding followed
  looked-done {r} e h d f =
      let by : applied w net s g r ≡ looked w net s g = ap (followed w net s g) e ∙ sym looked-by in
      record { words = d ∙ h.words ∙ ap (λ (x : Stood). x.words) by; state = f ∙ h.state ∙ ap (λ (x : Stood). x.state) by }

  pub looked-none : {r : Option Consequence} {u : List ℕ} {q : State} → r ≡ gate_rule w net.nodes g → r ≡ None → u ≡ w → q ≡ s → Left u q (looked w net s g)
  looked-none e z d f =
      let by = looked-still (sym e ∙ z) in
      record { words = d ∙ sym (ap (λ (x : Stood). x.words) by); state = f ∙ sym (ap (λ (x : Stood). x.state) by) }
