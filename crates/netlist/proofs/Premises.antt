-- What a conflict search supposes holds of the words of a netlist: a place hits where the root is true and all free bits that do not lead to it
-- are 0. Assumes nothing.
use mathlib.Core.Path.{◌≡◌, refl, sym, ap, ◌∙◌, subst}
use mathlib.Core.Bool.{Bool, true, false, not, cond, ◌&&◌}
use mathlib.Core.List.{List}
use Prim.Native.Nat.{ℕ, zero, suc, ◌+◌, ◌-◌, ◌*◌, ◌/◌, ◌%◌, ◌^◌, ◌≤◌, ◌<◌}
use native.Mathlib.Omega.{arith}
use lib.Dec.{T}
use Rattle.aiger.specs.Circuit.{var}
use Rattle.aiger.specs.Frames.{value, free_bit}
use Rattle.nodes.specs.Graph.{Pair, nodes, edge_value, Built}
use Rattle.cone.specs.Cone.{in_cone, renumbered}
use Rattle.support.specs.Counting.{spread}
use Rattle.support.specs.Support.{support}
use Rattle.support.proofs.Counting.{spread-bit, spread-lt, gather, gather-le}
use Rattle.support.proofs.Support.{root-sees}
use Rattle.memory.specs.Record.{field}
use Rattle.clauses.specs.Clause.{Always, GateOf}
use Rattle.clauses.specs.Floor.{Floor}
use Rattle.floor.specs.Place.{bit_of}
use Rattle.netlist.specs.Netlist.{net_nodes, net_words}
use Rattle.netlist.proofs.Records.{first-bits, val, val-zero, obeyed, root-value}

module _ (n : ℕ) (gs : List Pair) (root words : ℕ) (room : 14 * net_nodes n gs root ≤ words) (built : Built n gs) (inside : var root < nodes n gs) where
  -- the root is true at place x, and the free bits that do not lead to it are 0
  pub record Hits (x : ℕ) : Type 0 where
    pub place : x < 2 ^ n
    pub true-there : T (edge_value n gs (free_bit n x) root)
    pub others : (j : ℕ) → j < n → in_cone n gs root (j + 1) ≡ false → free_bit n x j ≡ false

  -- the values of the nodes at such a place
  abbrev pub Hit : (ℕ → Bool) → Type 0
  Hit a = (x : ℕ) × Hits x × (a ≡ val n gs root words room built inside x)

  pub hits-hit : (x : ℕ) → Hits x → Hit (val n gs root words room built inside x)
  hits-hit x h = (x, h, refl)

  pub hits-root : (x : ℕ) → Hits x → T (value (val n gs root words room built inside x) (renumbered n gs root root))
  hits-root x h = subst T (sym (root-value n gs root words room built inside x)) h.true-there

  pub hit-gate : (a : ℕ → Bool) → Hit a → (v : ℕ) → v < net_nodes n gs root
      → GateOf a v (field (net_words n gs root words) (net_nodes n gs root) v 0) (field (net_words n gs root words) (net_nodes n gs root) v 1)
  hit-gate a h v l =
      subst (λ (b : ℕ → Bool). GateOf b v (field (net_words n gs root words) (net_nodes n gs root) v 0) (field (net_words n gs root words) (net_nodes n gs root) v 1))
      (sym h.2) (obeyed n gs root words room built inside h.0 v l)

  pub hit-never : Always Hit 1
  hit-never a h =
      subst (λ (b : ℕ → Bool). T (value b 1)) (sym h.2) (subst (λ (b : Bool). T (not b)) (sym (val-zero n gs root words room built inside h.0)) tt)

  -- a bit that is not 0 does not lead to the root
  cone-bit : (b : Bool) (d : ℕ) → d ≡ cond b 0 2 → (d ≡ 0 → ⊥) → b ≡ false
  cone-bit true d e f = absurd (f e)
  cone-bit false d e f = refl

  pub clean : (v : ℕ) → v < n → (bit_of (net_words n gs root words) (net_nodes n gs root) (suc v) ≡ 0 → ⊥) → (x : ℕ) → Hits x → free_bit n x v ≡ false
  clean v l z x h =
      let e : suc v ≡ v + 1 = omega arith in
      h.others v l
      (ap (in_cone n gs root) (sym e)
      ∙ cone-bit (in_cone n gs root (suc v)) (bit_of (net_words n gs root words) (net_nodes n gs root) (suc v)) (first-bits n gs root words room (suc v) (omega arith)) z)

  -- ---- places that hit, and places where the root is true

  and_none : (a b : Bool) → a ≡ false → (a && b) ≡ false
  and_none true b e = absurd (subst T e tt)
  and_none false b e = refl

  -- where the root is true there is a place that hits, and is no larger
  pub masked : (x : ℕ) → T (edge_value n gs (free_bit n x) root) → (y : ℕ) × (y ≤ x) × Hits y
  masked x t =
      let s = support n gs root in
      let y = spread s n (gather s n x) in (
        y,
        gather-le s n x,
        record {
          place = spread-lt s n (gather s n x);
          true-there = subst T (sym (root-sees n gs root built inside x)) t;
          others = λ j l e.
              let i = n - (j + 1) in
              let k : n - i ≡ j + 1 = omega arith in
              spread-bit s n (gather s n x) i (omega arith) ∙ and_none (s i) _ (ap (in_cone n gs root) k ∙ e);
        },
      )

  -- no place hits before p: then the root is true at none of them
  pub first-true : (p : ℕ) → Floor Hits p → (x : ℕ) → x < p → T (edge_value n gs (free_bit n x) root) → ⊥
  first-true p f x l t = let m = masked x t in omega (arith, m.1, f m.0 m.2)

  -- where no place hits the root is true nowhere
  pub none_true : ((x : ℕ) → Hits x → ⊥) → (x : ℕ) → T (edge_value n gs (free_bit n x) root) → ⊥
  none_true f x t = let m = masked x t in f m.0 m.2
