-- Marked nodes that are moved to the front in their order: new numbers rise, each stands at its number with its edges renamed, and the
-- front is a diagram. Assumes nothing.
use mathlib.Core.Path.{◌≡◌, refl, sym, ap, ap₂, ◌∙◌, subst}
use mathlib.Core.Bool.{Bool, true, false, cond}
use mathlib.Core.List.{List, [], ◌∷◌}
use mathlib.Core.Logic.{◌⊎◌, inl, inr}
use Prim.Native.Nat.{ℕ, zero, suc, ◌+◌, ◌-◌, ◌*◌, ◌/◌, ◌%◌, ◌≤◌, ◌<◌}
use native.Mathlib.Decide.{ℕ_discrete}
use native.Mathlib.Omega.{arith}
use borrow.Author.Tests.{ltb-true, ltb-false, eqb-true, eqb-false}
use lib.Dec.{eqb, ltb}
use lib.ListN.{length, get_or, set, take, length-set}
use lib.Seq.{get_or-set_same, get_or-set_other, get_or-take, length-take-le}
use Rattle.diagrams.specs.declared.Vertex.{Vertex}
use Rattle.diagrams.specs.Words.{no_vertex, false_vertex, node_at, flip, edge_to}
use Rattle.diagrams.specs.Meaning.{In, Above, Built}
use Rattle.diagrams.proofs.Values.{flip_is}
use Rattle.collection.specs.Collecting.{linked_in, renamed_in, moved_in, Packed, packed_one, packed_in}
use Rattle.collection.proofs.Turns.{length_moved, length-packed}
use Rattle.collection.proofs.Marks.{with_next, linked-other, linked-next, linked-part, Marked, Live, Ready, built_alike}

-- one of the two edges
abbrev pub pick : Bool → Vertex → ℕ
pick true n = n.lo
pick false n = n.hi

-- ---- an edge by its new number

pub renamed-is : (ts : List Vertex) (e : ℕ) → (node_at ts (e / 2)).next ≤ 1073741824 → renamed_in ts e ≡ 2 * (node_at ts (e / 2)).next + e % 2
unfolding renamed_in edge_to
renamed-is ts e h = omega (arith, flip_is (2 * (node_at ts (e / 2)).next % 4294967296) e)

renamed-same : (ts us : List Vertex) (e : ℕ) → (node_at us (e / 2)).next ≡ (node_at ts (e / 2)).next → renamed_in us e ≡ renamed_in ts e
unfolding renamed_in
renamed-same ts us e h = ap (λ (x : ℕ). flip (edge_to x) e) h

-- ---- one move

module _ (ts : List Vertex) (n k : ℕ) (n-in : n < length ts) (k-in : k < length ts) where
  abbrev new : Vertex
  new = record {
    lo = renamed_in ts (node_at ts n).lo;
    hi = renamed_in ts
        (node_at ts n).hi;
    var = (node_at ts n).var;
    next = (node_at ts k).next;
  }

  moved-next : (i : ℕ) → (i ≡ n → ⊥) → (node_at (moved_in ts n k) i).next ≡ (node_at ts i).next
  unfolding moved_in
  moved-next i d = ap (λ (v : Vertex). v.next) (linked-other (set ts k new) n k i d) ∙ go (ℕ_discrete i k)
    where
      go : Dec (i ≡ k) → (node_at (set ts k new) i).next ≡ (node_at ts i).next
      go (yes e) =
          ap (λ (x : ℕ). (node_at (set ts k new) x).next) e ∙ ap (λ (v : Vertex). v.next) (get_or-set_same ts k new no_vertex k-in)
          ∙ ap (λ (x : ℕ). (node_at ts x).next) (sym e)
      go (no e) = ap (λ (v : Vertex). v.next) (get_or-set_other ts k i new no_vertex e)

  moved-number : (node_at (moved_in ts n k) n).next ≡ k
  unfolding moved_in
  moved-number = linked-next (set ts k new) n k (omega (arith, length-set ts k new))

  -- a part of a node that is not `next`
  module _ (f : Vertex → ℕ) (same : (v : Vertex) (x : ℕ) → f (with_next v x) ≡ f v) where
    moved-part : (i : ℕ) → (i ≡ k → ⊥) → f (node_at (moved_in ts n k) i) ≡ f (node_at ts i)
    unfolding moved_in
    moved-part i d = linked-part f same (set ts k new) n k i ∙ ap f (get_or-set_other ts k i new no_vertex d)

    moved_here : f (node_at (moved_in ts n k) k) ≡ f new
    unfolding moved_in
    moved_here = linked-part f same (set ts k new) n k k ∙ ap f (get_or-set_same ts k new no_vertex k-in)

  moved-whole : (i : ℕ) → (i ≡ n → ⊥) → (i ≡ k → ⊥) → node_at (moved_in ts n k) i ≡ node_at ts i
  unfolding moved_in
  moved-whole i d e = linked-other (set ts k new) n k i d ∙ get_or-set_other ts k i new no_vertex e

pick_same : (side : Bool) (v : Vertex) (x : ℕ) → pick side (with_next v x) ≡ pick side v
pick_same true v x = refl
pick_same false v x = refl

pick-new : (side : Bool) (ts : List Vertex) (n k : ℕ) (n-in : n < length ts) (k-in : k < length ts)
    → pick side (new ts n k n-in k-in) ≡ renamed_in ts (pick side (node_at ts n))
pick-new true ts n k p q = refl
pick-new false ts n k p q = refl

-- ---- after the nodes from 1 to j

pub record Moving (ms : List Vertex) (j : ℕ) (ts : List Vertex) (count : ℕ) : Type 0 where
  pub long : length ts ≡ length ms
  pub low : 0 < count
  pub high : count ≤ j + 1
  pub rest : (k : ℕ) → j < k → node_at ts k ≡ node_at ms k
  pub first : node_at ts 0 ≡ false_vertex
  pub live : (k : ℕ) → 0 < k → k ≤ j → Marked ms k → 0 < (node_at ts k).next
  pub below : (k : ℕ) → k ≤ j → (node_at ts k).next < count
  pub rising : (i k : ℕ) → 0 < i → i < k → k ≤ j → Marked ms i → Marked ms k → (node_at ts i).next < (node_at ts k).next
  pub edge : (side : Bool) (k : ℕ) → 0 < k → k ≤ j → Marked ms k
      → pick side (node_at ts (node_at ts k).next) ≡ renamed_in ts (pick side (node_at ms k))
  pub var : (k : ℕ) → 0 < k → k ≤ j → Marked ms k → (node_at ts (node_at ts k).next).var ≡ (node_at ms k).var
  pub less : (side : Bool) (q : ℕ) → 0 < q → q < count → pick side (node_at ts q) / 2 < q
  pub apart : (q : ℕ) → 0 < q → q < count → (node_at ts q).lo ≡ (node_at ts q).hi → ⊥
  pub above : (side : Bool) (q : ℕ) → 0 < q → q < count → (node_at ts q).var < (node_at ts (pick side (node_at ts q) / 2)).var

module _ (ms : List Vertex) (b : Built ms) (small : length ms ≤ 1073741824)
    (kids : (side : Bool) (k : ℕ) → 0 < k → Marked ms k → Live ms (pick side (node_at ms k) / 2)) where
  down : (side : Bool) (k : ℕ) → 0 < k → k < length ms → pick side (node_at ms k) / 2 < k
  down true k p h = b.lo k p h
  down false k p h = b.hi k p h

  over : (side : Bool) (k : ℕ) → 0 < k → k < length ms → (node_at ms k).var < (node_at ms (pick side (node_at ms k) / 2)).var
  over true k p h = b.lo-above k p h
  over false k p h = b.hi-above k p h

  moving-none : Moving ms 0 ms 1
  moving-none =
      record {
        long = refl;
        low = omega arith;
        high = omega arith;
        rest = λ k h. refl;
        first = b.first;
        live = λ k p h m. absurd (omega arith);
        below = λ k h.
            let e : (node_at ms k).next ≡ 0 = ap (λ (i : ℕ). (node_at ms i).next) (omega arith) ∙ ap (λ (v : Vertex). v.next)
            b.first in omega arith;
        rising = λ i k p l h m r. absurd (omega arith);
        edge = λ side k p h m. absurd (omega arith);
        var = λ k p h m. absurd (omega arith);
        less = λ side q p h. absurd (omega arith);
        apart = λ q p h e. absurd (omega arith);
        above = λ side q p h. absurd (omega arith);
      }

  module _ (j : ℕ) (ts : List Vertex) (count : ℕ) (inside : suc j < length ms) (m : Moving ms j ts count) where
    n : ℕ
    n = suc j

    -- a node up to n is one up to j, or n
    last_or : (k : ℕ) → k ≤ suc j → (k ≤ j) ⊎ (k ≡ suc j)
    last_or k h = go (ℕ_discrete k (suc j))
      where
        go : Dec (k ≡ suc j) → (k ≤ j) ⊎ (k ≡ suc j)
        go (yes e) = inr e
        go (no e) = inl (omega arith)

    -- node n has no mark
    moving-skip : (node_at ts (suc j)).next ≡ 0 → Moving ms (suc j) ts count
    moving-skip z =
        let none : Marked ms (suc j) → ⊥ = λ r. omega (arith, ap (λ (v : Vertex). v.next) (m.rest (suc j) (omega arith))) in
        let skip : (k : ℕ) → k ≤ suc j → Marked ms k → k ≤ j = λ k h r. choose k (last_or k h) r none in
        record {
          long = m.long;
          low = m.low;
          high = omega (arith, m.high);
          rest = λ k h. m.rest k (omega arith);
          first = m.first;
          live = λ k p h r. m.live k p (skip k h r) r;
          below = λ k h. under k (last_or k h);
          rising = λ i k p l h r q. m.rising i k p l (skip k h q) r q;
          edge = λ side k p h r. m.edge side k p (skip k h r) r;
          var = λ k p h r. m.var k p (skip k h r) r;
          less = m.less;
          apart = m.apart;
          above = m.above;
        }
      where
        choose : (k : ℕ) → (k ≤ j) ⊎ (k ≡ suc j) → Marked ms k → (Marked ms (suc j) → ⊥) → k ≤ j
        choose k (inl l) r none = l
        choose k (inr e) r none = absurd (none (subst (λ (i : ℕ). Marked ms i) e r))

        under : (k : ℕ) → (k ≤ j) ⊎ (k ≡ suc j) → (node_at ts k).next < count
        under k (inl l) = m.below k l
        under k (inr e) = let q = ap (λ (i : ℕ). (node_at ts i).next) e in omega (arith, m.low)

    -- ---- node n has a mark

    module _ (mark : (node_at ts (suc j)).next ≡ 0 → ⊥) where
      abbrev us : List Vertex
      us = moved_in ts (suc j) count

      n-in : suc j < length ts
      n-in = omega (arith, m.long)

      k-in : count < length ts
      k-in = omega (arith, m.long, m.high)

      here : node_at ts (suc j) ≡ node_at ms (suc j)
      here = m.rest (suc j) (omega arith)

      n-marked : Marked ms (suc j)
      n-marked = let q = ap (λ (v : Vertex). v.next) here in let d : ((node_at ts (suc j)).next ≡ 0 → ⊥) = mark in omega arith

      next-old : (k : ℕ) → k ≤ j → (node_at us k).next ≡ (node_at ts k).next
      next-old k h = moved-next ts (suc j) count n-in k-in k (λ e. omega arith)

      next-new : (node_at us (suc j)).next ≡ count
      next-new = moved-number ts (suc j) count n-in k-in

      -- edges to earlier nodes have the same new numbers before and after the move
      renamed-old : (e : ℕ) → e / 2 ≤ j → renamed_in us e ≡ renamed_in ts e
      renamed-old e h = renamed-same ts us e (next-old (e / 2) h)

      pick-old : (side : Bool) (q : ℕ) → q < count → pick side (node_at us q) ≡ pick side (node_at ts q)
      pick-old side q h = moved-part ts (suc j) count n-in k-in (pick side) (pick_same side) q (λ e. omega arith)

      var-old : (q : ℕ) → q < count → (node_at us q).var ≡ (node_at ts q).var
      var-old q h = moved-part ts (suc j) count n-in k-in (λ v. v.var) (λ v x. refl) q (λ e. omega arith)

      pick-last : (side : Bool) → pick side (node_at us count) ≡ renamed_in ts (pick side (node_at ms (suc j)))
      pick-last side =
          moved_here ts (suc j) count n-in k-in (pick side) (pick_same side) ∙ pick-new side ts (suc j) count n-in k-in
          ∙ ap (λ (v : Vertex). renamed_in ts (pick side v)) here

      var-last : (node_at us count).var ≡ (node_at ms (suc j)).var
      var-last = moved_here ts (suc j) count n-in k-in (λ v. v.var) (λ v x. refl) ∙ ap (λ (v : Vertex). v.var) here

      kid : Bool → ℕ
      kid side = pick side (node_at ms (suc j)) / 2

      kid-less : (side : Bool) → kid side ≤ j
      unfolding kid
      kid-less side = let q = down side (suc j) (omega arith) inside in omega arith

      kid-number : (side : Bool) → (node_at ts (kid side)).next < count
      kid-number side = m.below (kid side) (kid-less side)

      -- the new edge leads to the new number of the node
      last-is : (side : Bool) → pick side (node_at us count) ≡ 2 * (node_at ts (kid side)).next + pick side (node_at ms (suc j)) % 2
      unfolding kid
      last-is side =
          pick-last side
          ∙ renamed-is ts (pick side (node_at ms (suc j))) (let q = kid-number side in omega (arith, m.high))

      last-node : (side : Bool) → pick side (node_at us count) / 2 ≡ (node_at ts (kid side)).next
      last-node side = omega (arith, last-is side)

      -- a live node's variable stands at its new number
      var-at : (a : ℕ) → a ≤ j → Live ms a → (node_at ts (node_at ts a).next).var ≡ (node_at ms a).var
      var-at zero h l =
          ap (λ (i : ℕ). (node_at ts i).var) (ap (λ (v : Vertex). v.next) m.first) ∙ ap (λ (v : Vertex). v.var) m.first
          ∙ sym (ap (λ (v : Vertex). v.var) b.first)
      var-at (suc a) h (inl e) = absurd (omega arith)
      var-at (suc a) h (inr r) = m.var (suc a) (omega arith) h r

      -- live nodes have different new numbers
      number-less : (a c : ℕ) → a < c → c ≤ j → Live ms a → Live ms c → (node_at ts a).next < (node_at ts c).next
      number-less zero (suc c) l h p (inl e) = absurd (omega arith)
      number-less zero (suc c) l h p (inr r) =
          let z = ap (λ (v : Vertex). v.next) m.first in let q = m.live (suc c) (omega arith) h r in omega arith
      number-less (suc a) (suc c) l h (inl e) q = absurd (omega arith)
      number-less (suc a) (suc c) l h (inr p) (inl e) = absurd (omega arith)
      number-less (suc a) (suc c) l h (inr p) (inr q) = m.rising (suc a) (suc c) (omega arith) l h p q
      number-less a zero l h p q = absurd (omega arith)

      number_same : (a c : ℕ) → a ≤ j → c ≤ j → Live ms a → Live ms c → (node_at ts a).next ≡ (node_at ts c).next → a ≡ c
      number_same a c h i p q e = go (ℕ_discrete a c) (ltb a c) refl
        where
          go : Dec (a ≡ c) → (t : Bool) → ltb a c ≡ t → a ≡ c
          go (yes z) t x = z
          go (no z) true x = absurd (let l = number-less a c (ltb-true a c x) i p q in omega arith)
          go (no z) false x = absurd (let d : (a ≡ c → ⊥) = z in let l = number-less c a
              (let y = ltb-false a c x in omega arith) h q p in omega arith)

      kid-live : (side : Bool) → Live ms (kid side)
      unfolding kid
      kid-live side = kids side (suc j) (omega arith) n-marked

      last_apart : (node_at us count).lo ≡ (node_at us count).hi → ⊥
      unfolding kid
      last_apart e =
          let p = last-is true in
          let q = last-is false in
          let t : (node_at ts (kid true)).next ≡ (node_at ts (kid false)).next = omega arith in
          let k = number_same (kid true) (kid false) (kid-less true) (kid-less false) (kid-live true) (kid-live false) t in
          b.apart (suc j) (omega arith) inside (omega arith)

      last-above : (side : Bool) → (node_at us count).var < (node_at us (pick side (node_at us count) / 2)).var
      unfolding kid
      last-above side =
          let q = over side (suc j) (omega arith) inside in
          let v : (node_at us (pick side (node_at us count) / 2)).var ≡ (node_at ms (kid side)).var =
          ap (λ (i : ℕ). (node_at us i).var) (last-node side) ∙ var-old (node_at ts (kid side)).next (kid-number side)
          ∙ var-at (kid side) (kid-less side) (kid-live side) in
          omega (arith, var-last)

      -- a position before the new one, or the new one
      place-or : (q : ℕ) → q < suc count → (q < count) ⊎ (q ≡ count)
      place-or q h = go (ℕ_discrete q count)
        where
          go : Dec (q ≡ count) → (q < count) ⊎ (q ≡ count)
          go (yes e) = inr e
          go (no e) = inl (omega arith)

      moving-more : Moving ms (suc j) us (suc count)
      moving-more =
          record {
            long = length_moved ts (suc j) count ∙ m.long;
            low = omega arith;
            high = omega (arith, m.high);
            rest = λ k h.
                moved-whole ts (suc j) count n-in k-in k (λ e. omega arith) (λ e. omega (arith, m.high)) ∙ m.rest k (omega arith);
            first = moved-whole ts (suc j) count n-in k-in 0 (λ e. omega arith) (λ e. omega (arith, m.low)) ∙ m.first;
            live = λ k p h r. live_of k p r (last_or k h);
            below = λ k h. below_of k (last_or k h);
            rising = λ i k p l h r q. rising-of i k p l r q (last_or k h);
            edge = λ side k p h r. edge_of side k p r (last_or k h);
            var = λ k p h r. var-of k p r (last_or k h);
            less = λ side q p h. less-of side q p (place-or q h);
            apart = λ q p h. apart_of q p (place-or q h);
            above = λ side q p h. above_of side q p (place-or q h);
          }
        where
          live_of : (k : ℕ) → 0 < k → Marked ms k → (k ≤ j) ⊎ (k ≡ suc j) → 0 < (node_at us k).next
          live_of k p r (inl l) = let q = m.live k p l r in omega (arith, next-old k l)
          live_of k p r (inr e) = let q = ap (λ (i : ℕ). (node_at us i).next) e ∙ next-new in omega (arith, m.low)

          below_of : (k : ℕ) → (k ≤ j) ⊎ (k ≡ suc j) → (node_at us k).next < suc count
          below_of k (inl l) = let q = m.below k l in omega (arith, next-old k l)
          below_of k (inr e) = let q = ap (λ (i : ℕ). (node_at us i).next) e ∙ next-new in omega arith

          rising-of : (i k : ℕ) → 0 < i → i < k → Marked ms i → Marked ms k → (k ≤ j) ⊎ (k ≡ suc j) → (node_at us i).next < (node_at us k).next
          rising-of i k p l r q (inl h) =
              let w = m.rising i k p l h r q in omega (arith, next-old i (omega arith), next-old k h)
          rising-of i k p l r q (inr e) =
              let w = m.below i (omega arith) in
              let v = ap (λ (x : ℕ). (node_at us x).next) e ∙ next-new in
              omega (arith, next-old i (omega arith))

          edge_of : (side : Bool) (k : ℕ) → 0 < k → Marked ms k → (k ≤ j) ⊎ (k ≡ suc j)
              → pick side (node_at us (node_at us k).next) ≡ renamed_in us (pick side (node_at ms k))
          edge_of side k p r (inl l) =
              ap (λ (i : ℕ). pick side (node_at us i)) (next-old k l) ∙ pick-old side (node_at ts k).next (m.below k l)
              ∙ m.edge side k p l r
              ∙ sym (renamed-old (pick side (node_at ms k)) (let q = down side k p (omega arith) in omega arith))
          edge_of side k p r (inr e) =
              ap (λ (i : ℕ). pick side (node_at us i)) (ap (λ (i : ℕ). (node_at us i).next) e ∙ next-new) ∙ pick-last side
              ∙ sym (renamed-old (pick side (node_at ms (suc j))) (let q = down side (suc j) (omega arith) inside in omega arith))
              ∙ ap (λ (i : ℕ). renamed_in us (pick side (node_at ms i))) (sym e)

          var-of : (k : ℕ) → 0 < k → Marked ms k → (k ≤ j) ⊎ (k ≡ suc j) → (node_at us (node_at us k).next).var ≡ (node_at ms k).var
          var-of k p r (inl l) =
              ap (λ (i : ℕ). (node_at us i).var) (next-old k l) ∙ var-old (node_at ts k).next (m.below k l) ∙ m.var k p l r
          var-of k p r (inr e) =
              ap (λ (i : ℕ). (node_at us i).var) (ap (λ (i : ℕ). (node_at us i).next) e ∙ next-new) ∙ var-last
              ∙ ap (λ (i : ℕ). (node_at ms i).var) (sym e)

          less-of : (side : Bool) (q : ℕ) → 0 < q → (q < count) ⊎ (q ≡ count) → pick side (node_at us q) / 2 < q
          less-of side q p (inl l) = let w = m.less side q p l in omega (arith, pick-old side q l)
          less-of side q p (inr e) =
              let w = ap (λ (i : ℕ). pick side (node_at us i) / 2) e ∙ last-node side in let v = kid-number side in omega arith

          apart_of : (q : ℕ) → 0 < q → (q < count) ⊎ (q ≡ count) → (node_at us q).lo ≡ (node_at us q).hi → ⊥
          apart_of q p (inl l) e = m.apart q p l (sym (pick-old true q l) ∙ e ∙ pick-old false q l)
          apart_of q p (inr z) e = last_apart (subst (λ (i : ℕ). (node_at us i).lo ≡ (node_at us i).hi) z e)

          above_of : (side : Bool) (q : ℕ) → 0 < q → (q < count) ⊎ (q ≡ count) → (node_at us q).var < (node_at us
              (pick side (node_at us q) / 2)).var
          above_of side q p (inl l) =
              let w = m.above side q p l in
              let d = m.less side q p l in
              let v : (node_at us (pick side (node_at us q) / 2)).var ≡ (node_at ts (pick side (node_at ts q) / 2)).var =
              ap (λ (e : ℕ). (node_at us (e / 2)).var) (pick-old side q l) ∙ var-old (pick side (node_at ts q) / 2) (omega arith) in
              omega (arith, var-old q l)
          above_of side q p (inr e) =
              subst (λ (i : ℕ). (node_at us i).var < (node_at us (pick side (node_at us i) / 2)).var) (sym e) (last-above side)

  -- every number of turns
  pub moving : (j : ℕ) → j < length ms → Moving ms j (packed_in j ms).nodes (packed_in j ms).count
  unfolding packed_in packed_one
  moving zero h = moving-none
  moving (suc j) h = go (eqb (node_at (packed_in j ms).nodes (suc j)).next 0) refl (moving j (omega arith))
    where
      p : Packed
      p = packed_in j ms

      go : (t : Bool) → eqb (node_at (packed_in j ms).nodes (suc j)).next 0 ≡ t → Moving ms j (packed_in j ms).nodes (packed_in j ms).count
          → Moving ms (suc j)
          (cond t (packed_in j ms)
          (record { nodes = moved_in (packed_in j ms).nodes (suc j) (packed_in j ms).count; count = suc (packed_in j ms).count })).nodes
          (cond t (packed_in j ms)
          (record { nodes = moved_in (packed_in j ms).nodes (suc j) (packed_in j ms).count; count = suc (packed_in j ms).count })).count
      go true e m = moving-skip j (packed_in j ms).nodes (packed_in j ms).count h m
          (eqb-true (node_at (packed_in j ms).nodes (suc j)).next 0 e)
      go false e m = moving-more j (packed_in j ms).nodes (packed_in j ms).count h m
          (eqb-false (node_at (packed_in j ms).nodes (suc j)).next 0 e)
