-- Substitution by a vector of constants is evaluation: the state stays as it is, and the answer is the constant that is the value.
-- Assumes nothing.
use mathlib.Core.Path.{◌≡◌, refl, sym, ap, ◌∙◌, subst}
use mathlib.Core.Bool.{Bool, true, false, cond}
use mathlib.Core.List.{List}
use mathlib.Core.Logic.{◌⊎◌, inl, inr}
use mathlib.Core.Option.{Option, none, some}
use Prim.Native.Nat.{ℕ, zero, suc, ◌+◌, ◌/◌, ◌≤◌, ◌<◌}
use native.Mathlib.Omega.{arith}
use borrow.Author.Tests.{lt-ltb, le-ltb, ltb-true, ltb-false}
use lib.Dec.{ltb, eqb}
use lib.ListN.{length, get_or}
use Rattle.diagrams.specs.declared.Vertex.{Vertex}
use Rattle.diagrams.specs.Words.{node_at, flip}
use Rattle.diagrams.specs.States.{State, Outcome, outcome}
use Rattle.diagrams.specs.Meaning.{Assignment, value, In, Above, Built}
use Rattle.diagrams.proofs.Values.{flip-node}
use Rattle.substitution.specs.Substitution.{constant_of, truth_of, half, Way, at_node, turn, or_constant, no_turn}
use Rattle.substitution.specs.Substitution.{substituted_within, substituted}
use Rattle.substitution.proofs.Sound.{constant-value, half-value, half_in}

-- an edge that is constant is the constant of its value
constant-is : (ns : List Vertex) → Built ns → (x : Assignment) (e : ℕ) → e < 2 → e ≡ constant_of (value ns x e)
constant-is ns b x zero l = sym (ap constant_of (constant-value ns b 0 l x))
constant-is ns b x (suc zero) l = sym (ap constant_of (constant-value ns b 1 l x))
constant-is ns b x (suc (suc e)) l = absurd (omega arith)

module _ (by : List ℕ) (constants : (v : ℕ) → get_or by v 0 < 2) (tag : ℕ) (s : State) (b : Built s.nodes) where
  -- what evaluation answers
  abbrev evaluated : ℕ → Outcome
  evaluated e = outcome s (some (constant_of (value s.nodes (truth_of by) e)))

  -- where an edge that is not constant leads
  abbrev next : ℕ → ℕ
  next e = half (node_at s.nodes (e / 2)) (get_or by (node_at s.nodes (e / 2)).var 0) e

  next-value : (e : ℕ) → In s.nodes e → evaluated (next e) ≡ evaluated e
  next-value e i =
      let n = node_at s.nodes (e / 2) in
      ap (λ (v : Bool). outcome s (some (constant_of v)))
      (half-value s.nodes b e i n refl (get_or by n.var 0) (constants n.var) (truth_of by) refl)

  next-in : (e : ℕ) → In s.nodes e → In s.nodes (next e)
  next-in e i = let n = node_at s.nodes (e / 2) in half_in s.nodes b e i n refl (get_or by n.var 0)

  at_constant : (way : Way) (e : ℕ) → e < 2 → or_constant way s e ≡ evaluated e
  unfolding or_constant
  at_constant way e l = rw (lt-ltb e 2 l) (ap (λ (d : ℕ). outcome s (some d)) (constant-is s.nodes b (truth_of by) e l))

  at_edge : (rec : Way) (e : ℕ) → 2 ≤ e → or_constant (turn by tag rec) s e ≡ rec s (next e)
  unfolding or_constant turn at_node
  at_edge rec e l = rw (le-ltb e 2 l, lt-ltb (get_or by (node_at s.nodes (e / 2)).var 0) 2 (constants (node_at s.nodes (e / 2)).var))

  spent : (e : ℕ) → 2 ≤ e → or_constant no_turn s e ≡ outcome s none
  unfolding or_constant
  spent e l = rw (le-ltb e 2 l)

  -- the value, unless the turns are used up
  within-evaluated : (n e : ℕ) → In s.nodes e
      → (substituted_within by tag n s e ≡ evaluated e) ⊎ (substituted_within by tag n s e ≡ outcome s none)
  unfolding substituted_within
  within-evaluated zero e i = go (ltb e 2) refl
    where
      go : (p : Bool) → ltb e 2 ≡ p → (or_constant no_turn s e ≡ evaluated e) ⊎ (or_constant no_turn s e ≡ outcome s none)
      go true q = inl (at_constant no_turn e (ltb-true e 2 q))
      go false q = inr (spent e (ltb-false e 2 q))
  within-evaluated (suc n) e i = go (ltb e 2) refl (within-evaluated n (next e) (next-in e i))
    where
      way : Way
      way = turn by tag (substituted_within by tag n)

      go : (p : Bool) → ltb e 2 ≡ p
          → (substituted_within by tag n s (next e) ≡ evaluated (next e)) ⊎ (substituted_within by tag n s (next e) ≡ outcome s none)
          → (or_constant way s e ≡ evaluated e) ⊎ (or_constant way s e ≡ outcome s none)
      go true q r = inl (at_constant way e (ltb-true e 2 q))
      go false q (inl r) = inl (at_edge (substituted_within by tag n) e (ltb-false e 2 q) ∙ r ∙ next-value e i)
      go false q (inr r) = inr (at_edge (substituted_within by tag n) e (ltb-false e 2 q) ∙ r)

  pub constants-evaluated : (e : ℕ) → In s.nodes e
      → (substituted by tag s e ≡ evaluated e) ⊎ (substituted by tag s e ≡ outcome s none)
  unfolding substituted
  constants-evaluated e i = within-evaluated 1280 e i

  -- ---- turns suffice where the variables of all nodes are before a limit: the variable of an edge is at least the limit less the turns

  module _ (limit : ℕ) (low : (k : ℕ) → 0 < k → k < length s.nodes → (node_at s.nodes k).var < limit) where
    next-above : (e : ℕ) → 2 ≤ e → In s.nodes e → (node_at s.nodes (e / 2)).var < (node_at s.nodes (next e / 2)).var
    unfolding half
    next-above e l i = go (eqb (get_or by n.var 0) 0)
      where
        n : Vertex
        n = node_at s.nodes (e / 2)

        at : (d : ℕ) → Above s.nodes n.var d → n.var < (node_at s.nodes (flip d e / 2)).var
        at d h = subst (λ (k : ℕ). n.var < (node_at s.nodes k).var) (sym (flip-node d e)) h

        go : (p : Bool) → n.var < (node_at s.nodes (cond p (flip n.lo e) (flip n.hi e) / 2)).var
        go true = at n.lo (b.lo-above (e / 2) (omega arith) i)
        go false = at n.hi (b.hi-above (e / 2) (omega arith) i)

    within-answers : (n e : ℕ) → In s.nodes e → limit ≤ (node_at s.nodes (e / 2)).var + n → substituted_within by tag n s e ≡ evaluated e
    unfolding substituted_within
    within-answers zero e i h = go (ltb e 2) refl
      where
        go : (p : Bool) → ltb e 2 ≡ p → or_constant no_turn s e ≡ evaluated e
        go true q = at_constant no_turn e (ltb-true e 2 q)
        go false q = let l = ltb-false e 2 q in absurd (omega (arith, low (e / 2) (omega arith) i))
    within-answers (suc n) e i h = go (ltb e 2) refl (within-answers n (next e) (next-in e i))
      where
        way : Way
        way = turn by tag (substituted_within by tag n)

        go : (p : Bool) → ltb e 2 ≡ p
            → (limit ≤ (node_at s.nodes (next e / 2)).var + n → substituted_within by tag n s (next e) ≡ evaluated (next e))
            → or_constant way s e ≡ evaluated e
        go true q r = at_constant way e (ltb-true e 2 q)
        go false q r =
            let l = ltb-false e 2 q in
            let u = next-above e l i in
            at_edge (substituted_within by tag n) e l ∙ r (omega arith) ∙ next-value e i

    pub constants-answer : limit ≤ 1280 → (e : ℕ) → In s.nodes e → substituted by tag s e ≡ evaluated e
    unfolding substituted
    constants-answer l e i = within-answers 1280 e i (omega arith)
