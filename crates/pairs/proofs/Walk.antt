-- The walk along a bucket's chain. Assumes nothing.
use mathlib.Core.Path.{◌≡◌, refl, sym, ap, ◌∙◌}
use mathlib.Core.Bool.{true, false}
use mathlib.Core.List.{List}
use Prim.Native.Nat.{ℕ, ◌+◌, ◌-◌, ◌≤◌, ◌<◌}
use native.Mathlib.Omega.{arith}
use Rattle.nodes.specs.Store.{field}
use Rattle.nodes.specs.Last.{last_before}
use Rattle.nodes.specs.declared.Graph.{Graph}
use Rattle.nodes.proofs.Last.{last-zero, last-yes, last-no, last-le, last-passes, last-skip}
use Rattle.pairs.specs.Bucket.{bucket_of}
use Rattle.pairs.specs.Store.{has_pair, is_pair, bucket_at, in_bucket, Chained}
use Rattle.pairs.proofs.Buckets.{pair-test, pair-bucket, bucket-gate, bucket-at}

-- what is looked for is found below next, and next is 0 or one more than a gate in the bucket
pub record Walk (work : List ℕ) (g : Graph) (left right next : ℕ) : Type 0 where
  pub bound : next ≤ g.nodes
  pub gate : (k : ℕ) → next ≡ k + 1 → g.free + 1 ≤ k
  pub bucket : (k : ℕ) → next ≡ k + 1 → bucket_at work g k ≡ bucket_of g.room left right
  pub same : last_before (is_pair work g left right) g.nodes ≡ last_before (is_pair work g left right) next

module _ (work : List ℕ) (g : Graph) (left right : ℕ) where
  from : (m next : ℕ) → m ≤ g.nodes → last_before (is_pair work g left right) g.nodes ≡ last_before (is_pair work g left right) m
      → next ≡ last_before (in_bucket work g (bucket_of g.room left right)) m → Walk work g left right next
  from m next l s e =
      let p = in_bucket work g (bucket_of g.room left right) in
      record {
        bound = omega (arith, last-le p m);
        gate = λ k q. bucket-gate work g (bucket_of g.room left right) k (last-passes p m k (sym e ∙ q));
        bucket = λ k q. bucket-at work g (bucket_of g.room left right) k (last-passes p m k (sym e ∙ q));
        same = s ∙ last-skip (is_pair work g left right) p m (pair-bucket work g left right) ∙ ap (last_before (is_pair work g left right)) (sym e);
      }

  pub walk_start : Chained work g → (h next : ℕ) → h ≡ bucket_of g.room left right → h < g.room → next ≡ field work h 6 → Walk work g left right next
  walk_start d h next e l q =
      from g.nodes next (omega arith) refl
      (q ∙ d.store.heads h l ∙ ap (λ (x : ℕ). last_before (in_bucket work g x) g.nodes) e)

  -- the gate at hand has other operands, and the next one is taken
  pub walk_more : Chained work g → (next k after : ℕ) → next ≡ k + 1 → Walk work g left right next → has_pair work left right k ≡ false → after ≡ field work k 4
      → Walk work g left right after
  walk_more d next k after e w f q =
      let p = is_pair work g left right in
      from k after (omega (arith, w.bound))
      (w.same ∙ ap (last_before p) e ∙ last-no p k (pair-test work g left right k (w.gate k e) ∙ f))
      (q ∙ d.store.links k (w.gate k e) (omega (arith, w.bound)) ∙ ap (λ (x : ℕ). last_before (in_bucket work g x) k) (w.bucket k e))

  -- the next one stands before it
  pub walk-less : Chained work g → (next k after : ℕ) → next ≡ k + 1 → Walk work g left right next → after ≡ field work k 4 → after < next
  walk-less d next k after e w q =
      omega (arith, w.bound, d.store.links k (w.gate k e) (omega (arith, w.bound)), last-le (in_bucket work g (bucket_at work g k)) k)

  -- the gate at hand has the operands
  pub walk-found : (next k : ℕ) → next ≡ k + 1 → Walk work g left right next → has_pair work left right k ≡ true
      → next ≡ last_before (is_pair work g left right) g.nodes
  walk-found next k e w f =
      let p = is_pair work g left right in
      e ∙ sym (w.same ∙ ap (last_before p) e ∙ last-yes p k (pair-test work g left right k (w.gate k e) ∙ f))

  -- the chain is at its end
  pub walk_end : (next : ℕ) → next ≡ 0 → Walk work g left right next → 0 ≡ last_before (is_pair work g left right) g.nodes
  walk_end next e w = sym (w.same ∙ ap (last_before (is_pair work g left right)) e ∙ last-zero (is_pair work g left right))
