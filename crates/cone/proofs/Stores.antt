-- Laws of word 10 of the records of nodes. Assumes nothing.
use mathlib.Core.Path.{◌≡◌, refl, ap, ◌∙◌}
use mathlib.Core.Bool.{Bool, true, false, cond}
use mathlib.Core.List.{List}
use Prim.Native.Nat.{ℕ, ◌+◌, ◌*◌, ◌≤◌, ◌<◌}
use native.Mathlib.Omega.{arith}
use borrow.Author.Count.{below_more}
use borrow.Author.Tests.{eqb-true, eqb-false}
use lib.Dec.{eqb}
use lib.ListN.{length, get_or, set, length-set}
use lib.Seq.{get_or-set_same, get_or-set_other}
use Rattle.nodes.specs.Store.{field, pair_of, pairs_of}
use Rattle.nodes.specs.declared.Graph.{Graph}
use Rattle.nodes.proofs.Laws.{pair_eq, pairs_of-same}
use Rattle.cone.specs.Store.{Others}

-- the words 10 after a store to one of them
pub ten-set : (work : List ℕ) (k v i : ℕ) → 16 * k + 10 < length work → field (set work (16 * k + 10) v) i 10 ≡ cond (eqb i k) v (field work i 10)
ten-set work k v i h = go (eqb i k) refl
  where
    go : (b : Bool) → eqb i k ≡ b → field (set work (16 * k + 10) v) i 10 ≡ cond b v (field work i 10)
    go true e =
        let q : 16 * i + 10 ≡ 16 * k + 10 = omega (arith, eqb-true i k e) in
        ap (λ (x : ℕ). get_or (set work (16 * k + 10) v) x 0) q ∙ get_or-set_same work (16 * k + 10) v 0 h
    go false e = get_or-set_other work (16 * k + 10) (16 * i + 10) v 0 (λ q. eqb-false i k e (omega arith))

-- the others stay
pub others-set : (work last : List ℕ) (m k v : ℕ) → k < m → Others work last m → Others work (set last (16 * k + 10) v) m
others-set work last m k v h o i n = get_or-set_other last (16 * k + 10) i v 0 (n k h) ∙ o i n

pub others-trans : (work mid last : List ℕ) (m p q : ℕ) → p ≤ m → q ≤ m → Others work mid p → Others mid last q → Others work last m
others-trans work mid last m p q h l a b i n = b i (λ k u e. n k (omega arith) e) ∙ a i (λ k u e. n k (omega arith) e)

-- so the operands stay
pub others-pair : (work last : List ℕ) (m k : ℕ) → Others work last m → pair_of last k ≡ pair_of work k
others-pair work last m k o = pair_eq (o (16 * k + 0) (λ i h e. omega arith)) (o (16 * k + 1) (λ i h e. omega arith))

pub others-pairs : (work last : List ℕ) (g : Graph) (m : ℕ) → Others work last m → pairs_of last g ≡ pairs_of work g
others-pairs work last g m o =
    pairs_of-same work last g (λ k l h. (o (16 * k + 0) (λ i h e. omega arith), o (16 * k + 1) (λ i h e. omega arith)))

-- word 10 of the first k records is f of the node
pub record Filled (f : ℕ → ℕ) (work last : List ℕ) (m k : ℕ) : Type 0 where
  pub size : length last ≡ length work
  pub words : (i : ℕ) → i < k → field last i 10 ≡ f i
  pub others : Others work last m

pub filled_none : (f : ℕ → ℕ) (work : List ℕ) (m : ℕ) → Filled f work work m 0
filled_none f work m = record { size = refl; words = λ i h. absurd (omega arith); others = λ i n. refl }

pub filled_more : (f : ℕ → ℕ) (work last : List ℕ) (m k v : ℕ) → v ≡ f k → k < m → 16 * k + 10 < length last → Filled f work last m k
    → Filled f work (set last (16 * k + 10) v) m (k + 1)
filled_more f work last m k v q h l r =
    record {
      size = length-set last (16 * k + 10) v ∙ r.size;
      words =
          below_more (λ i. field (set last (16 * k + 10) v) i 10 ≡ f i) k
          (λ i u. get_or-set_other last (16 * k + 10) (16 * i + 10) v 0 (λ e. omega arith) ∙ r.words i u)
          (get_or-set_same last (16 * k + 10) v 0 l ∙ q);
      others = others-set work last m k v h r.others;
    }
