-- Laws of buckets: which nodes they have, a gate's bucket, and buckets without gates. Assumes nothing.
use mathlib.Core.Path.{◌≡◌, refl, sym, ap, ap₂, ◌∙◌}
use mathlib.Core.Bool.{Bool, true, false, ◌&&◌}
use mathlib.Core.List.{List}
use Prim.Native.Nat.{ℕ, ◌+◌, ◌*◌, ◌/◌, ◌≤◌, ◌<◌, ◌%◌}
use native.Mathlib.Nat.{mul-le-mul_right}
use native.Mathlib.Decide.{ℕ_discrete}
use native.Mathlib.Omega.{arith}
use borrow.Author.Tests.{leb-true, eqb-true, le-leb, lt-leb, eq-eqb, ne_eqb}
use lib.Dec.{leb, eqb}
use lib.ListN.{length, get_or, set, length-set}
use lib.Seq.{get_or-set_same, get_or-set_other}
use Rattle.nodes.specs.Store.{field}
use Rattle.nodes.specs.declared.Graph.{Graph}
use Rattle.nodes.specs.Last.{last_before}
use Rattle.nodes.proofs.Last.{last-zero, last-below, last-eq}
use Rattle.pairs.specs.Bucket.{bucket_of}
use Rattle.pairs.specs.Store.{has_pair, is_pair, bucket_at, in_bucket, PairStore, Empty, Started}

and_first : (a b : Bool) → (a && b) ≡ true → a ≡ true
and_first true b h = refl
and_first false b h = h

and_second : (a b : Bool) → (a && b) ≡ true → b ≡ true
and_second true b h = h
and_second false b h = absurd (let z : ◌≡◌ {A = ℕ} 0 1 = cc in omega arith)

-- a part of 2^32 that is less than all of it gives less than all of n
pub part-below : (x n : ℕ) → x < 4294967296 → 0 < n → x * n / 4294967296 < n
part-below x n l h = omega (arith, mul-le-mul_right {m = x} {n = 4294967295} n (omega arith))

pub bucket_of-lt : (room left right : ℕ) → 0 < room → bucket_of room left right < room
unfolding bucket_of
bucket_of-lt room left right h = part-below ((left * 1327217885 + right * 889516853) % 4294967296) room (omega arith) h

module _ (work : List ℕ) (g : Graph) where
  pub pair-gate : (left right k : ℕ) → is_pair work g left right k ≡ true → g.free + 1 ≤ k
  unfolding is_pair
  pair-gate left right k e = leb-true (g.free + 1) k (and_first (leb (g.free + 1) k) (has_pair work left right k) e)

  pub pair_left : (left right k : ℕ) → is_pair work g left right k ≡ true → field work k 0 ≡ left
  unfolding is_pair has_pair
  pair_left left right k e =
      eqb-true (field work k 0) left
      (and_first (eqb (field work k 0) left) (eqb (field work k 1) right) (and_second (leb (g.free + 1) k) (has_pair work left right k) e))

  pub pair-right : (left right k : ℕ) → is_pair work g left right k ≡ true → field work k 1 ≡ right
  unfolding is_pair has_pair
  pair-right left right k e =
      eqb-true (field work k 1) right
      (and_second (eqb (field work k 0) left) (eqb (field work k 1) right) (and_second (leb (g.free + 1) k) (has_pair work left right k) e))

  -- a gate with these operands
  pub pair-yes : (left right k : ℕ) → g.free + 1 ≤ k → field work k 0 ≡ left → field work k 1 ≡ right → is_pair work g left right k ≡ true
  unfolding is_pair has_pair
  pair-yes left right k h l r = rw (le-leb (g.free + 1) k h, eq-eqb (field work k 0) left l, eq-eqb (field work k 1) right r)

  -- the code's test decides, where node k is a gate
  pub pair-test : (left right k : ℕ) → g.free + 1 ≤ k → is_pair work g left right k ≡ has_pair work left right k
  unfolding is_pair
  pair-test left right k h = rw (le-leb (g.free + 1) k h)

  pub bucket-gate : (h k : ℕ) → in_bucket work g h k ≡ true → g.free + 1 ≤ k
  unfolding in_bucket
  bucket-gate h k e = leb-true (g.free + 1) k (and_first (leb (g.free + 1) k) (eqb (bucket_at work g k) h) e)

  pub bucket-at : (h k : ℕ) → in_bucket work g h k ≡ true → bucket_at work g k ≡ h
  unfolding in_bucket
  bucket-at h k e = eqb-true (bucket_at work g k) h (and_second (leb (g.free + 1) k) (eqb (bucket_at work g k) h) e)

  pub bucket-leaf : (h k : ℕ) → k < g.free + 1 → in_bucket work g h k ≡ false
  unfolding in_bucket
  bucket-leaf h k l = rw (lt-leb (g.free + 1) k l)

  pub bucket-in : (h k : ℕ) → g.free + 1 ≤ k → bucket_at work g k ≡ h → in_bucket work g h k ≡ true
  unfolding in_bucket
  bucket-in h k l e = rw (le-leb (g.free + 1) k l, eq-eqb (bucket_at work g k) h e)

  pub bucket-out : (h k : ℕ) → g.free + 1 ≤ k → (bucket_at work g k ≡ h → ⊥) → in_bucket work g h k ≡ false
  unfolding in_bucket
  bucket-out h k l e = rw (le-leb (g.free + 1) k l, ne_eqb (bucket_at work g k) h e)

  -- a gate with these operands is in their bucket
  pub pair-bucket : (left right k : ℕ) → is_pair work g left right k ≡ true → in_bucket work g (bucket_of g.room left right) k ≡ true
  unfolding bucket_at
  pair-bucket left right k e =
      bucket-in (bucket_of g.room left right) k (pair-gate left right k e)
      (ap₂ (bucket_of g.room) (pair_left left right k e) (pair-right left right k e))

-- ---- a memory with the same words

-- a node with the same operands is in the same bucket
pub bucket-same : (work last : List ℕ) (g : Graph) (k : ℕ) → field last k 0 ≡ field work k 0 → field last k 1 ≡ field work k 1 → bucket_at last g k ≡ bucket_at work g k
unfolding bucket_at
bucket-same work last g k l r = ap₂ (bucket_of g.room) l r

pub in-same : (work last : List ℕ) (g : Graph) (h k : ℕ) → bucket_at last g k ≡ bucket_at work g k → in_bucket last g h k ≡ in_bucket work g h k
unfolding in_bucket
in-same work last g h k e = ap (λ (x : ℕ). leb (g.free + 1) k && eqb x h) e

-- the words of pairs are the same
pub record SamePairs (work last : List ℕ) : Type 0 where
  pub first : (k : ℕ) → field last k 0 ≡ field work k 0
  pub second : (k : ℕ) → field last k 1 ≡ field work k 1
  pub link : (k : ℕ) → field last k 4 ≡ field work k 4
  pub head : (k : ℕ) → field last k 6 ≡ field work k 6

pub store_same : (work last : List ℕ) (g : Graph) → SamePairs work last → PairStore work g → PairStore last g
store_same work last g s d =
    record {
      heads = λ h l. s.head h ∙ d.heads h l ∙ same h g.nodes;
      links = λ k l u.
          s.link k ∙ d.links k l u ∙ same (bucket_at work g k) k ∙ ap (λ (b : ℕ). last_before (in_bucket last g b) k) (sym (bucket k));
    }
  where
    bucket : (k : ℕ) → bucket_at last g k ≡ bucket_at work g k
    bucket k = bucket-same work last g k (s.first k) (s.second k)

    same : (h m : ℕ) → last_before (in_bucket work g h) m ≡ last_before (in_bucket last g h) m
    same h m = last-eq (in_bucket work g h) (in_bucket last g h) m (λ k l. sym (in-same work last g h k (bucket k)))

-- ---- buckets without gates

-- the heads below h were cleared, and no other word was changed
pub record Cleared (work last : List ℕ) (h : ℕ) : Type 0 where
  pub size : length last ≡ length work
  pub zeros : (j : ℕ) → j < h → field last j 6 ≡ 0
  pub others : (i : ℕ) → ((j : ℕ) → j < h → i ≡ 16 * j + 6 → ⊥) → get_or last i 0 ≡ get_or work i 0

pub cleared-start : (work : List ℕ) → Cleared work work 0
cleared-start work = record { size = refl; zeros = λ j l. absurd (omega arith); others = λ i e. refl }

pub cleared_more : (work last : List ℕ) (h : ℕ) → 16 * h + 6 < length work → Cleared work last h → Cleared work (set last (16 * h + 6) 0) (h + 1)
cleared_more work last h l d =
    record {
      size = length-set last (16 * h + 6) 0 ∙ d.size;
      zeros = λ j u. go j u (ℕ_discrete j h);
      others = λ i n.
          get_or-set_other last (16 * h + 6) i 0 0 (λ e. n h (omega arith) e) ∙ d.others i (λ j u e. n j (omega arith) e);
    }
  where
    go : (j : ℕ) → j < h + 1 → Dec (j ≡ h) → field (set last (16 * h + 6) 0) j 6 ≡ 0
    go j u (yes e) =
        ap (λ (x : ℕ). field (set last (16 * h + 6) 0) x 6) e ∙ get_or-set_same last (16 * h + 6) 0 0 (omega (arith, d.size))
    go j u (no n) = get_or-set_other last (16 * h + 6) (16 * j + 6) 0 0 (λ e. n (omega arith)) ∙ d.zeros j (omega arith)

pub cleared-started : (work last : List ℕ) (g : Graph) (m : ℕ) → m ≡ g.room → Empty work g → Cleared work last m → Started work last g
cleared-started work last g m q e d =
    record {
      store =
          record {
            heads = λ h l.
                d.zeros h (omega arith) ∙ sym (last-below (in_bucket last g h) 0 g.nodes (omega arith) (λ k m u. bucket-leaf last g h k (omega arith)) ∙ last-zero (in_bucket last g h));
            links = λ k l u. absurd (omega arith);
          };
      others = λ i n. d.others i (λ j l. n j (omega arith));
    }
