-- The depth of a variable in an acyclic circuit: below each gate's depth are those of its operands. Assumes nothing.
use mathlib.Core.Path.{◌≡◌, refl, sym, ap, ap₂, ◌∙◌, subst}
use mathlib.Core.Bool.{Bool, false, ◌&&◌}
use mathlib.Core.List.{List}
use mathlib.Core.Option.{Option, none, some}
use mathlib.Core.Logic.{inl, inr}
use Prim.Native.Nat.{ℕ, zero, suc, ◌+◌, ◌≤◌, ◌<◌, max}
use native.Mathlib.Omega.{arith}
use lib.Dec.{T}
use lib.ListN.{length}
use Rattle.aiger.specs.Circuit.{Circuit, Gate, var, literals_right, gate_of, operands, settles, acyclic}
use Rattle.aiger.proofs.Tests.{and_left, and_right}
use Rattle.meaning.proofs.Defined.{gate_at, apart-gates, gate_of-at}
use Rattle.meaning.proofs.Cycles.{all-settle}

-- one more than the deeper operand; 0 for what is no gate
unfoldable pub above : Option Gate → (ℕ → ℕ) → ℕ
above none d = 0
above (some g) d = 1 + max (d (var g.left)) (d (var g.right))

-- the depth of variable v, within n gates
unfoldable pub depth : List Gate → ℕ → ℕ → ℕ
depth gs zero v = 0
depth gs (suc n) v = above (gate_of gs v) (depth gs n)

above_same : (o : Option Gate) (p : ℕ → Bool) (d e : ℕ → ℕ) → T (operands o p) → ((v : ℕ) → T (p v) → d v ≡ e v) → above o d ≡ above o e
unfolding above operands
above_same none p d e t h = refl
above_same (some g) p d e t h =
    let l = p (var g.left) in
    let r = p (var g.right) in
    ap₂ (λ (x y : ℕ). 1 + max x y) (h (var g.left) (and_left l r t)) (h (var g.right) (and_right l r t))

above-none : (o : Option Gate) (d : ℕ → ℕ) → T (operands o (λ _. false)) → above o d ≡ 0
unfolding above operands
above-none none d t = refl
above-none (some g) d t = absurd t

-- a variable that settles within n steps has the same depth with one more
settled : (gs : List Gate) (n v : ℕ) → T (settles gs n v) → depth gs (suc n) v ≡ depth gs n v
unfolding depth settles
settled gs zero v t = above-none (gate_of gs v) (depth gs 0) t
settled gs (suc n) v t = above_same (gate_of gs v) (settles gs n) (depth gs (suc n)) (depth gs n) t (λ u s. settled gs n u s)

above_most : (o : Option Gate) (d : ℕ → ℕ) (n : ℕ) → ((v : ℕ) → d v ≤ n) → above o d ≤ suc n
unfolding above
above_most none d n h = omega arith
above_most (some g) d n h = omega (arith, h (var g.left), h (var g.right))

depth-most : (gs : List Gate) (n v : ℕ) → depth gs n v ≤ n
unfolding depth
depth-most gs zero v = omega arith
depth-most gs (suc n) v = above_most (gate_of gs v) (depth gs n) n (depth-most gs n)

module _ (c : Circuit) (right : T (literals_right c)) (a : T (acyclic c)) where
  abbrev pub rank : ℕ → ℕ
  rank v = depth c.gates (length c.gates) v

  pub rank_most : (v : ℕ) → rank v ≤ length c.gates
  rank_most v = depth-most c.gates (length c.gates) v

  gate-rank : (i : ℕ) → i < length c.gates → rank (var (gate_at c i).lit) ≡ 1 + max (rank (var (gate_at c i).left)) (rank (var (gate_at c i).right))
  unfolding depth above
  gate-rank i h =
      let v = var (gate_at c i).lit in
      sym (settled c.gates (length c.gates) v (all-settle c a v))
      ∙ ap (λ (o : Option Gate). above o (depth c.gates (length c.gates))) (gate_of-at c.gates (apart-gates c right) i h)

  pub left-rank : (i : ℕ) → i < length c.gates → rank (var (gate_at c i).left) < rank (var (gate_at c i).lit)
  left-rank i h = omega (arith, gate-rank i h)

  pub right-rank : (i : ℕ) → i < length c.gates → rank (var (gate_at c i).right) < rank (var (gate_at c i).lit)
  right-rank i h = omega (arith, gate-rank i h)
