-- What the answer of a search for a pair says of the gates. Assumes nothing.
use mathlib.Core.Path.{◌≡◌, sym, ap, ◌∙◌}
use mathlib.Core.List.{List}
use Prim.Native.Nat.{ℕ, ◌+◌, ◌-◌, ◌<◌}
use native.Mathlib.Omega.{arith}
use lib.ListN.{length}
use Rattle.nodes.specs.Graph.{Pair, pair_at}
use Rattle.nodes.specs.Store.{pairs_of}
use Rattle.nodes.specs.Last.{last_before}
use Rattle.nodes.specs.declared.Graph.{Graph}
use Rattle.nodes.proofs.Laws.{length-pairs_of, pair_at-pairs_of}
use Rattle.nodes.proofs.Last.{last-le, last-passes, last-after}
use Rattle.pairs.specs.Store.{is_pair}
use Rattle.pairs.proofs.Buckets.{pair-gate, pair_left, pair-right, pair-yes}

-- gate i has these operands
pub record Holds (work : List ℕ) (g : Graph) (left right i : ℕ) : Type 0 where
  pub below : i < length (pairs_of work g)
  pub first : (pair_at (pairs_of work g) i).left ≡ left
  pub second : (pair_at (pairs_of work g) i).right ≡ right

module _ (work : List ℕ) (g : Graph) (left right : ℕ) (r : ℕ) (e : r ≡ last_before (is_pair work g left right) g.nodes) where
  -- the answer is one more than a gate with the operands
  pub found-gate : 0 < r → g.free + 1 < r
  found-gate h =
      let q : last_before (is_pair work g left right) g.nodes ≡ r - 1 + 1 = omega arith in
      omega (arith, pair-gate work g left right (r - 1) (last-passes (is_pair work g left right) g.nodes (r - 1) q))

  pub found-holds : 0 < r → Holds work g left right (r - (g.free + 2))
  found-holds h =
      let i = r - (g.free + 2) in
      let m = found-gate h in
      let b = last-le (is_pair work g left right) g.nodes in
      let q : last_before (is_pair work g left right) g.nodes ≡ g.free + 1 + i + 1 = omega arith in
      let p = last-passes (is_pair work g left right) g.nodes (g.free + 1 + i) q in
      let a = pair_at-pairs_of work g i (omega arith) in
      record {
        below = omega (arith, length-pairs_of work g);
        first = ap (λ (x : Pair). x.left) a ∙ pair_left work g left right (g.free + 1 + i) p;
        second = ap (λ (x : Pair). x.right) a ∙ pair-right work g left right (g.free + 1 + i) p;
      }

  -- 0 says that there is no such gate
  pub found_none : r ≡ 0 → (i : ℕ) → i < length (pairs_of work g) → (pair_at (pairs_of work g) i).left ≡ left → (pair_at (pairs_of work g) i).right ≡ right → ⊥
  found_none z i h l s =
      let m = length-pairs_of work g in
      let k = g.free + 1 + i in
      let a = pair_at-pairs_of work g i (omega arith) in
      let y = pair-yes work g left right k (omega arith) (sym (ap (λ (x : Pair). x.left) a) ∙ l) (sym (ap (λ (x : Pair). x.right) a) ∙ s) in
      let n = last-after (is_pair work g left right) g.nodes k (omega arith) (omega arith) in
      let t : ◌≡◌ {A = ℕ} 0 1 = cc in
      omega arith
