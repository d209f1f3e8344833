-- A collection that is kept: the state is good with its empty cache, and every root has the value that it had. Assumes nothing.
use mathlib.Core.Path.{◌≡◌, refl, sym, ap, ap₂, ◌∙◌, subst}
use mathlib.Core.Bool.{Bool, true, false, cond}
use mathlib.Core.List.{List, [], ◌∷◌, map}
use mathlib.Core.Logic.{◌⊎◌, inl, inr}
use Prim.Native.Nat.{ℕ, zero, suc, ◌+◌, ◌-◌, ◌*◌, ◌/◌, ◌%◌, ◌≤◌, ◌<◌}
use native.Mathlib.Omega.{arith}
use borrow.Author.Tests.{ltb-false, eqb-false}
use lib.Dec.{eqb, ltb}
use lib.ListN.{length, get_or, take, replicate, length-map, length-replicate}
use lib.Seq.{get_or-take, length-take-le}
use Rattle.diagrams.specs.declared.Vertex.{Vertex}
use Rattle.diagrams.specs.Words.{no_vertex, false_vertex, node_at, flip, edge_to}
use Rattle.diagrams.specs.States.{State, list_of, paid, is_paid}
use Rattle.diagrams.specs.Meaning.{Assignment, value, In, Built, if_else, Terms, VectorsIn, empty, Good}
use Rattle.diagrams.proofs.Values.{flip_is, value-flip, signed, value-node, value-false}
use Rattle.diagrams.proofs.Sound.{paid-nodes, paid-good}
use Rattle.collection.specs.Collecting.{with_nodes, linked_in, marked_in, renamed_in, Packed, packed_in, trimmed, hashed, rehashed, Collection, collection, settled, gathered_by, gathered, collected}
use Rattle.collection.specs.Meaning.{Keeps}
use Rattle.collection.proofs.Turns.{length_marked, length-packed, length-rehashed, root-renamed}
use Rattle.collection.proofs.Marks.{Alike, alike_refl, alike_then, built_alike, linked-alike, linked-other, Marked, Live, Ready, marked-ready, roots-live}
use Rattle.collection.proofs.Packing.{pick, Moving, moving, renamed-is}

-- ---- the hash lists

rehashed-alike : (j : ℕ) (t : State) → Alike t.nodes (rehashed j t).nodes
unfolding rehashed hashed
rehashed-alike zero t = alike_refl t.nodes
rehashed-alike (suc j) t =
    let u = rehashed j t in
    let n = node_at u.nodes (suc j) in
    alike_then (rehashed-alike j t) (linked-alike u.nodes (suc j) (get_or u.heads (list_of u n.var n.lo n.hi) 0))

rehashed-first : (j : ℕ) (t : State) → node_at (rehashed j t).nodes 0 ≡ node_at t.nodes 0
unfolding rehashed hashed
rehashed-first zero t = refl
rehashed-first (suc j) t =
    let u = rehashed j t in
    let n = node_at u.nodes (suc j) in
    linked-other u.nodes (suc j) (get_or u.heads (list_of u n.var n.lo n.hi) 0) 0 (λ z. omega arith) ∙ rehashed-first j t

rehashed-cache : (j : ℕ) (t : State) → (rehashed j t).cache ≡ t.cache
unfolding rehashed hashed
rehashed-cache zero t = refl
rehashed-cache (suc j) t = rehashed-cache j t

zeros-at : (n i : ℕ) → get_or {A = ℕ} (replicate n 0) i 0 ≡ 0
zeros-at zero i = refl
zeros-at (suc n) zero = refl
zeros-at (suc n) (suc i) = zeros-at n i

-- ---- the new diagram

module _ (s : State) (roots : List ℕ) (b : Built s.nodes) (small : length s.nodes ≤ 1073741824) (room : s.room ≤ 1073741824) where
  abbrev ns : List Vertex
  ns = s.nodes

  ms : List Vertex
  ms = marked_in roots ns

  ready : Ready ns ms
  unfolding ms
  ready = marked-ready roots ns b

  ms-built : Built ms
  ms-built = built_alike ready.alike ready.first b

  kids : (side : Bool) (k : ℕ) → 0 < k → Marked ms k → Live ms (pick side (node_at ms k) / 2)
  kids true k p h = ready.lo-live k p h
  kids false k p h = ready.hi-live k p h

  p : Packed
  p = packed_in (length ns - 1) ms

  m : Moving ms (length ns - 1) p.nodes p.count
  unfolding p
  m = let l = ready.alike.long in moving ms ms-built (omega arith) kids (length ns - 1) (omega (arith, b.some-node))

  -- the first nodes
  abbrev front : List Vertex
  front = take p.count p.nodes

  front_length : length front ≡ p.count
  front_length = let l = ready.alike.long in length-take-le p.count p.nodes (omega (arith, m.long, m.high, b.some-node))

  front_at : (k : ℕ) → k < p.count → node_at front k ≡ node_at p.nodes k
  front_at k h = get_or-take p.count p.nodes k no_vertex h

  front-built : Built front
  front-built =
      let l = front_length in
      let at : (k : ℕ) → k < length front → node_at front k ≡ node_at p.nodes k = λ k h. front_at k (omega arith) in
      record {
        some-node = omega (arith, m.low);
        first = front_at 0 m.low ∙ m.first;
        lo = λ k q h. omega (arith, ap (λ (v : Vertex). v.lo) (at k h), m.less true k q (omega arith));
        hi = λ k q h. omega (arith, ap (λ (v : Vertex). v.hi) (at k h), m.less false k q (omega arith));
        apart = λ k q h e. m.apart k q (omega arith) (sym (ap (λ (v : Vertex). v.lo) (at k h)) ∙ e ∙ ap (λ (v : Vertex). v.hi) (at k h));
        lo-above = λ k q h.
            let d = m.less true k q (omega arith) in
            let w = m.above true k q (omega arith) in
            let z : (node_at front ((node_at front k).lo / 2)).var ≡ (node_at p.nodes ((node_at p.nodes k).lo / 2)).var =
            ap (λ (v : Vertex). (node_at front (v.lo / 2)).var) (at k h)
            ∙ ap (λ (v : Vertex). v.var) (at ((node_at p.nodes k).lo / 2) (omega arith)) in
            omega (arith, ap (λ (v : Vertex). v.var) (at k h));
        hi-above = λ k q h.
            let d = m.less false k q (omega arith) in
            let w = m.above false k q (omega arith) in
            let z : (node_at front ((node_at front k).hi / 2)).var ≡ (node_at p.nodes ((node_at p.nodes k).hi / 2)).var =
            ap (λ (v : Vertex). (node_at front (v.hi / 2)).var) (at k h)
            ∙ ap (λ (v : Vertex). v.var) (at ((node_at p.nodes k).hi / 2) (omega arith)) in
            omega (arith, ap (λ (v : Vertex). v.var) (at k h));
      }

  -- the same with the hash lists
  last : State
  last = settled s p

  trimmed-nodes : (trimmed (with_nodes s p.nodes) p.count).nodes ≡ front
  unfolding trimmed
  trimmed-nodes = refl

  last-alike : Alike front last.nodes
  unfolding last settled trimmed
  last-alike = rehashed-alike (p.count - 1) (trimmed (with_nodes s p.nodes) p.count)

  last-first : node_at last.nodes 0 ≡ false_vertex
  unfolding last settled trimmed
  last-first = rehashed-first (p.count - 1) (trimmed (with_nodes s p.nodes) p.count) ∙ front-built.first

  last_built : Built last.nodes
  last_built = built_alike last-alike last-first front-built

  last-length : length last.nodes ≡ p.count
  last-length = last-alike.long ∙ front_length

  last-good : (terms : Terms) → VectorsIn terms last.nodes → Good terms last
  unfolding last settled trimmed
  last-good terms v =
      let t = trimmed (with_nodes s p.nodes) p.count in
      let c : last.cache ≡ replicate (length s.cache) 0 = rehashed-cache (p.count - 1) t in
      let r : last.room ≡ s.room = (length-rehashed (p.count - 1) t).1 in
      record {
        built = last_built;
        small = omega (arith, last-length, m.high, b.some-node);
        fits = omega arith;
        vectors-in = v;
        entries = λ i h. empty (ap (λ (l : List ℕ). get_or l (4 * i) 0) c ∙ zeros-at (length s.cache) (4 * i));
      }

  -- ---- values

  abbrev to : ℕ → ℕ
  to k = (node_at p.nodes k).next

  to-less : (k : ℕ) → k < length ns → to k < p.count
  to-less k h = m.below k (omega arith)

  renamed-flip : (e : ℕ) → e / 2 < length ns → renamed_in p.nodes e ≡ flip (2 * to (e / 2)) e
  renamed-flip e h =
      let q = to-less (e / 2) h in
      renamed-is p.nodes e (omega (arith, m.high)) ∙ omega (arith, flip_is (2 * to (e / 2)) e)

  module _ (x : Assignment) where
    edge_kept : (e : ℕ) → e / 2 < length ns → value last.nodes x (2 * to (e / 2)) ≡ value ns x (2 * (e / 2))
        → value last.nodes x (renamed_in p.nodes e) ≡ value ns x e
    edge_kept e i h =
        let z : flip (2 * (e / 2)) e ≡ e = omega (arith, flip_is (2 * (e / 2)) e) in
        ap (value last.nodes x) (renamed-flip e i) ∙ value-flip last.nodes x (2 * to (e / 2)) e ∙ ap (signed e) h
        ∙ sym (value-flip ns x (2 * (e / 2)) e) ∙ ap (value ns x) z

    -- a moved node by the node that it was
    moved-node : (k : ℕ) → 0 < k → k < length ns → Marked ms k
        → ((side : Bool) → value last.nodes x (renamed_in p.nodes (pick side (node_at ns k))) ≡ value ns x (pick side (node_at ns k)))
        → value last.nodes x (2 * to k) ≡ value ns x (2 * k)
    moved-node k q h r rec =
        let fs = last.nodes in
        let j = to k in
        let l = to-less k h in
        let w = ready.alike in
        let at = front_at j l in
        let v : (node_at fs j).var ≡ (node_at ns k).var =
        last-alike.var j ∙ ap (λ (n : Vertex). n.var) at ∙ m.var k q (omega arith) r ∙ w.var k in
        let lo : (node_at fs j).lo ≡ renamed_in p.nodes (node_at ns k).lo =
        last-alike.lo j ∙ ap (λ (n : Vertex). n.lo) at ∙ m.edge true k q (omega arith) r ∙ ap (renamed_in p.nodes) (w.lo k) in
        let hi : (node_at fs j).hi ≡ renamed_in p.nodes (node_at ns k).hi =
        last-alike.hi j ∙ ap (λ (n : Vertex). n.hi) at ∙ m.edge false k q (omega arith) r ∙ ap (renamed_in p.nodes) (w.hi k) in
        value-node fs last_built x j (omega (arith, last-length)) ∙ (λ i. if_else fs (v i) (lo i) (hi i) x)
        ∙ ap₂ (λ (y z : Bool). cond (x (node_at ns k).var) y z) (rec false) (rec true)
        ∙ sym (value-node ns b x k h)

    node_kept : (n k : ℕ) → k < n → k < length ns → Live ms k → value last.nodes x (2 * to k) ≡ value ns x (2 * k)
    node_kept zero k l h v = absurd (omega arith)
    node_kept (suc n) zero l h v =
        ap (λ (i : ℕ). value last.nodes x (2 * i)) (ap (λ (v : Vertex). v.next) m.first) ∙ value-false last.nodes last_built x
        ∙ sym (value-false ns b x)
    node_kept (suc n) (suc j) l h (inl e) = absurd (omega arith)
    node_kept (suc n) (suc j) l h (inr r) = go (node_kept n)
      where
        go : ((i : ℕ) → i < n → i < length ns → Live ms i → value last.nodes x (2 * to i) ≡ value ns x (2 * i))
            → value last.nodes x (2 * to (suc j)) ≡ value ns x (2 * suc j)
        go rec = moved-node (suc j) (omega arith) h r each
          where
            each : (side : Bool)
                → value last.nodes x (renamed_in p.nodes (pick side (node_at ns (suc j)))) ≡ value ns x (pick side (node_at ns (suc j)))
            each true =
                let e = (node_at ns (suc j)).lo in
                let d = b.lo (suc j) (omega arith) h in
                edge_kept e (omega arith)
                (rec (e / 2) (omega arith) (omega arith)
                (subst (λ (y : ℕ). Live ms (y / 2)) (ready.alike.lo (suc j)) (kids true (suc j) (omega arith) r)))
            each false =
                let e = (node_at ns (suc j)).hi in
                let d = b.hi (suc j) (omega arith) h in
                edge_kept e (omega arith)
                (rec (e / 2) (omega arith) (omega arith)
                (subst (λ (y : ℕ). Live ms (y / 2)) (ready.alike.hi (suc j)) (kids false (suc j) (omega arith) r)))

    -- a live edge has the value that it had
    moved_value : (e : ℕ) → In ns e → Live ms (e / 2) → value last.nodes x (renamed_in p.nodes e) ≡ value ns x e
    moved_value e i v = edge_kept e i (node_kept (e / 2 + 1) (e / 2) (omega arith) i v)

  renamed-in : (e : ℕ) → In ns e → In last.nodes (renamed_in p.nodes e)
  renamed-in e h = omega (arith, renamed-flip e h, flip_is (2 * to (e / 2)) e, last-length, to-less (e / 2) h)

  gathered-keeps : Keeps ns roots (gathered s roots)
  unfolding gathered gathered_by p ms last
  gathered-keeps =
      let half = p.count / 2 in
      let e = paid-nodes last half in
      record {
        good = λ terms v. paid-good last half (last-good terms (subst (λ (l : List Vertex). VectorsIn terms l) e v));
        long = length-map roots (renamed_in p.nodes);
        inside = λ i h q.
            subst (λ (l : List Vertex). In l (get_or (map (renamed_in p.nodes) roots) i 0)) (sym e)
            (subst (λ (d : ℕ). In last.nodes d) (sym (root-renamed (renamed_in p.nodes) roots i h)) (renamed-in (get_or roots i 0) q));
        same = λ i h q x.
            ap (λ (l : List Vertex). value l x (get_or (map (renamed_in p.nodes) roots) i 0)) e
            ∙ ap (value last.nodes x) (root-renamed (renamed_in p.nodes) roots i h)
            ∙ moved_value x (get_or roots i 0) q (roots-live roots ns b i h q);
      }

-- ---- the whole

false-true : {A : Type 0} → false ≡ true → A
false-true h = absurd (let z : ◌≡◌ {A = ℕ} 0 1 = cc in omega arith)

-- where the looks sufficed, the state is good for any terms, and every root has the value that it had
pub collected-right : (terms : Terms) (s : State) (roots : List ℕ) → Good terms s → (collected s roots).kept ≡ true
    → Keeps s.nodes roots (collected s roots)
unfolding collected
collected-right terms s roots g =
    let n = length s.nodes in
    let t = paid s (n / 4) in
    let u = paid-good s (n / 4) g in
    go (eqb n 0) (ltb s.room n) (is_paid s (n / 4))
    (subst (λ (ns : List Vertex). Keeps ns roots (gathered t roots)) (paid-nodes s (n / 4))
    (gathered-keeps t roots u.built u.small u.fits))
  where
    n : ℕ
    n = length s.nodes

    go : (a b c : Bool) → Keeps s.nodes roots (gathered (paid s (length s.nodes / 4)) roots)
        → (cond a (collection s roots false) (cond b (collection s roots false)
        (cond c (gathered (paid s (length s.nodes / 4)) roots) (collection (paid s (length s.nodes / 4)) roots false)))).kept ≡ true
        → Keeps s.nodes roots
        (cond a (collection s roots false) (cond b (collection s roots false)
        (cond c (gathered (paid s (length s.nodes / 4)) roots) (collection (paid s (length s.nodes / 4)) roots false))))
    go true b c k h = false-true h
    go false true c k h = false-true h
    go false false false k h = false-true h
    go false false true k h = k
