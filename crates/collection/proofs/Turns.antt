-- The steps of the code against the definitions: turns of loops, lengths, and one call after the other. Assumes nothing.
use mathlib.Core.Path.{◌≡◌, refl, sym, ap, ap₂, ◌∙◌, subst}
use mathlib.Core.Bool.{Bool, true, false, cond}
use mathlib.Core.List.{List, [], ◌∷◌, map}
use mathlib.Core.Logic.{◌⊎◌, inl, inr}
use Prim.Native.Nat.{ℕ, zero, suc, ◌+◌, ◌-◌, ◌*◌, ◌/◌, ◌≤◌, ◌<◌}
use native.Mathlib.Decide.{ℕ_discrete}
use native.Mathlib.Numerals.{add-one}
use native.Mathlib.Omega.{arith}
use borrow.Author.Tests.{eq-eqb, ne_eqb, lt-ltb, le-ltb}
use lib.Dec.{eqb, ltb}
use lib.ListN.{length, get_or, set, length-set, length-map, length-take}
use lib.Seq.{get_or-set_same, get_or-set_other, ext_get_or}
use Rattle.diagrams.specs.declared.Vertex.{Vertex}
use Rattle.diagrams.specs.Words.{no_vertex, node_at, bucket_of, flip, edge_to}
use Rattle.diagrams.specs.States.{State, list_of, paid, is_paid}
use Rattle.collection.specs.Collecting.{with_nodes, linked_in, unmarked_in, rooted_in, edges_marked, swept_in, marked_in, renamed_in, moved_in, Packed, packed, packed_one, packed_in, trimmed, hashed_at, hashed, rehashed, Collection, collection, settled, gathered_by, gathered, collected}
use Rattle.diagrams.proofs.Sound.{paid-nodes}
use Rattle.collection.specs.Zeros.{Zeroed}

-- ---- other nodes in a state

-- a state with other nodes, as many as before, has room for them
pub inside-by : (s t : State) (ns : List Vertex) → t ≡ with_nodes s ns → length ns ≡ length s.nodes → length s.nodes ≤ s.room
    → length t.nodes ≤ t.room
inside-by s t ns e l h =
    let p : length t.nodes ≡ length ns = ap (λ (u : State). length u.nodes) e in
    let q : t.room ≡ s.room = ap (λ (u : State). u.room) e in
    omega arith

-- one change of the nodes after another
pub again : (s t : State) (f : List Vertex → List Vertex) (ns : List Vertex) → t ≡ with_nodes s ns → with_nodes t
    (f t.nodes) ≡ with_nodes s (f ns)
again s t f ns e = ap (λ (u : State). with_nodes u (f u.nodes)) e

-- ---- lengths

pub length-linked : (ns : List Vertex) (k x : ℕ) → length (linked_in ns k x) ≡ length ns
unfolding linked_in
length-linked ns k x = length-set ns k (record { lo = (node_at ns k).lo; hi = (node_at ns k).hi; var = (node_at ns k).var; next = x })

pub length-unmarked : (i : ℕ) (ns : List Vertex) → length (unmarked_in i ns) ≡ length ns
unfolding unmarked_in
length-unmarked zero ns = refl
length-unmarked (suc i) ns = length-linked (unmarked_in i ns) i 0 ∙ length-unmarked i ns

pub length-rooted : (roots : List ℕ) (i : ℕ) (ns : List Vertex) → length (rooted_in roots i ns) ≡ length ns
unfolding rooted_in
length-rooted roots zero ns = refl
length-rooted roots (suc i) ns = length-linked (rooted_in roots i ns) (get_or roots i 0 / 2) 1 ∙ length-rooted roots i ns

pub length-edges : (ns : List Vertex) (n : ℕ) → length (edges_marked ns n) ≡ length ns
unfolding edges_marked
length-edges ns n = go (eqb (node_at ns n).next 0)
  where
    go : (b : Bool) → length (cond b ns (linked_in (linked_in ns ((node_at ns n).lo / 2) 1) ((node_at ns n).hi / 2) 1)) ≡ length ns
    go true = refl
    go false = length-linked (linked_in ns ((node_at ns n).lo / 2) 1) ((node_at ns n).hi / 2) 1 ∙ length-linked ns ((node_at ns n).lo / 2) 1

pub length-swept : (last j : ℕ) (ns : List Vertex) → length (swept_in last j ns) ≡ length ns
unfolding swept_in
length-swept last zero ns = refl
length-swept last (suc j) ns = length-edges (swept_in last j ns) (last - j) ∙ length-swept last j ns

pub length_marked : (roots : List ℕ) (ns : List Vertex) → length (marked_in roots ns) ≡ length ns
unfolding marked_in
length_marked roots ns =
    length-linked (swept_in (length ns - 1) (length ns - 1) (rooted_in roots (length roots) (unmarked_in (length ns) ns))) 0 0
    ∙ length-swept (length ns - 1) (length ns - 1) (rooted_in roots (length roots) (unmarked_in (length ns) ns))
    ∙ length-rooted roots (length roots) (unmarked_in (length ns) ns) ∙ length-unmarked (length ns) ns

pub length_moved : (ns : List Vertex) (n k : ℕ) → length (moved_in ns n k) ≡ length ns
unfolding moved_in
length_moved ns n k =
    let v : Vertex = record {
      lo = renamed_in ns (node_at ns n).lo;
      hi = renamed_in ns
          (node_at ns n).hi;
      var = (node_at ns n).var;
      next = (node_at ns k).next;
    } in
    length-linked (set ns k v) n k ∙ length-set ns k v

pub length-one : (p : Packed) (n : ℕ) → length (packed_one p n).nodes ≡ length p.nodes
unfolding packed_one
length-one p n = go (eqb (node_at p.nodes n).next 0)
  where
    go : (b : Bool) → length (cond b p (record { nodes = moved_in p.nodes n p.count; count = suc p.count })).nodes ≡ length
        p.nodes
    go true = refl
    go false = length_moved p.nodes n p.count

pub length-packed : (j : ℕ) (ns : List Vertex) → length (packed_in j ns).nodes ≡ length ns
unfolding packed_in
length-packed zero ns = refl
length-packed (suc j) ns = length-one (packed_in j ns) (suc j) ∙ length-packed j ns

-- ---- turns

pub unmarked-more : (i : ℕ) (ns : List Vertex) → linked_in (unmarked_in i ns) i 0 ≡ unmarked_in (i + 1) ns
unfolding unmarked_in
unmarked-more i ns = sym (ap (λ (k : ℕ). unmarked_in k ns) (add-one i))

pub unmarked-none : (ns : List Vertex) → ns ≡ unmarked_in 0 ns
unfolding unmarked_in
unmarked-none ns = refl

pub rooted_more : (roots : List ℕ) (i : ℕ) (ns : List Vertex) → linked_in (rooted_in roots i ns) (get_or roots i 0 / 2) 1 ≡ rooted_in roots
    (i + 1) ns
unfolding rooted_in
rooted_more roots i ns = sym (ap (λ (k : ℕ). rooted_in roots k ns) (add-one i))

pub rooted_none : (roots : List ℕ) (ns : List Vertex) → ns ≡ rooted_in roots 0 ns
unfolding rooted_in
rooted_none roots ns = refl

pub edges-marked : (ns : List Vertex) (n : ℕ) (p : Vertex) → p ≡ node_at ns n → (p.next ≡ 0 → ⊥)
    → linked_in (linked_in ns (p.lo / 2) 1) (p.hi / 2) 1 ≡ edges_marked ns n
unfolding edges_marked
edges-marked ns n p e h =
    ap (λ (x : Vertex). linked_in (linked_in ns (x.lo / 2) 1) (x.hi / 2) 1) e
    ∙ sym (rw (ne_eqb (node_at ns n).next 0 (λ z. h (ap (λ (x : Vertex). x.next) e ∙ z))))

pub edges-unmarked : (ns : List Vertex) (n : ℕ) (p : Vertex) → p ≡ node_at ns n → p.next ≡ 0 → ns ≡ edges_marked ns n
unfolding edges_marked
edges-unmarked ns n p e h = sym (rw (eq-eqb (node_at ns n).next 0 (sym (ap (λ (x : Vertex). x.next) e) ∙ h)))

pub swept-more : (last j : ℕ) (ns : List Vertex) → edges_marked (swept_in last j ns) (last - j) ≡ swept_in last (j + 1) ns
unfolding swept_in
swept-more last j ns = sym (ap (λ (k : ℕ). swept_in last k ns) (add-one j))

pub swept_none : (last : ℕ) (ns : List Vertex) → ns ≡ swept_in last 0 ns
unfolding swept_in
swept_none last ns = refl

pub marked_by : (s a b c d : State) (roots : List ℕ) (n : ℕ) → n ≡ length s.nodes → a ≡ with_nodes s
    (unmarked_in (length s.nodes) s.nodes)
    → b ≡ with_nodes a (rooted_in roots (length roots) a.nodes) → c ≡ with_nodes b (swept_in (n - 1) (n - 1) b.nodes)
    → d ≡ with_nodes c (linked_in c.nodes 0 0) → d ≡ with_nodes s (marked_in roots s.nodes)
unfolding marked_in
marked_by s a b c d roots n en ea eb ec ed =
    let pa = unmarked_in (length s.nodes) s.nodes in
    let pb = rooted_in roots (length roots) pa in
    let fb : b ≡ with_nodes s pb = eb ∙ again s a (rooted_in roots (length roots)) pa ea in
    let fc : c ≡ with_nodes s (swept_in (n - 1) (n - 1) pb) = ec ∙ again s b (swept_in (n - 1) (n - 1)) pb fb in
    ed ∙ again s c (λ ns. linked_in ns 0 0) (swept_in (n - 1) (n - 1) pb) fc
    ∙ ap (λ (m : ℕ). with_nodes s (linked_in (swept_in (m - 1) (m - 1) pb) 0 0)) en

pub renamed_by : (ns : List Vertex) (e : ℕ) (n : Vertex) (d r : ℕ) → n ≡ node_at ns (e / 2) → d ≡ edge_to n.next → r ≡ flip d e
    → r ≡ renamed_in ns e
unfolding renamed_in
renamed_by ns e n d r en ed er = er ∙ ap (λ (x : ℕ). flip x e) (ed ∙ ap (λ (x : Vertex). edge_to x.next) en)

pub moved_by : (s a b : State) (n k lo hi : ℕ) (p q : Vertex) → p ≡ node_at s.nodes n → q ≡ node_at s.nodes k → lo ≡ renamed_in
    s.nodes p.lo
    → hi ≡ renamed_in s.nodes p.hi → a ≡ with_nodes s (set s.nodes k (record { lo = lo; hi = hi; var = p.var; next = q.next }))
    → b ≡ with_nodes a (linked_in a.nodes n k) → b ≡ with_nodes s (moved_in s.nodes n k)
unfolding moved_in
moved_by s a b n k lo hi p q ep eq el eh ea eb =
    let ns = s.nodes in
    let v : Vertex = record { lo = lo; hi = hi; var = p.var; next = q.next } in
    let l₁ : lo ≡ renamed_in ns (node_at ns n).lo = el ∙ ap (λ (x : Vertex). renamed_in ns x.lo) ep in
    let h₁ : hi ≡ renamed_in ns (node_at ns n).hi = eh ∙ ap (λ (x : Vertex). renamed_in ns x.hi) ep in
    eb ∙ again s a (λ ms. linked_in ms n k) (set ns k v) ea
    ∙ (λ i. with_nodes s (linked_in (set ns k (record { lo = l₁ i; hi = h₁ i; var = (ep i).var; next = (eq i).next })) n k))

pub one_left : (ns : List Vertex) (n k : ℕ) (p : Vertex) → p ≡ node_at ns n → p.next ≡ 0 → packed ns k ≡ packed_one (packed ns k) n
unfolding packed_one
one_left ns n k p e h = sym (rw (eq-eqb (node_at ns n).next 0 (sym (ap (λ (x : Vertex). x.next) e) ∙ h)))

pub one-moved : (ns : List Vertex) (n k : ℕ) (p : Vertex) → p ≡ node_at ns n → (p.next ≡ 0 → ⊥)
    → packed (moved_in ns n k) (k + 1) ≡ packed_one (packed ns k) n
unfolding packed_one
one-moved ns n k p e h =
    ap (packed (moved_in ns n k)) (add-one k)
    ∙ sym (rw (ne_eqb (node_at ns n).next 0 (λ z. h (ap (λ (x : Vertex). x.next) e ∙ z))))

pub packed_more : (j : ℕ) (ns : List Vertex) → packed_one (packed_in j ns) (j + 1) ≡ packed_in (j + 1) ns
unfolding packed_in
packed_more j ns = ap (packed_one (packed_in j ns)) (add-one j) ∙ sym (ap (λ (k : ℕ). packed_in k ns) (add-one j))

pub packed_none : (ns : List Vertex) → packed ns 1 ≡ packed_in 0 ns
unfolding packed_in
packed_none ns = refl

-- there are no more nodes than before, and node 0 is one of them
pub packed-count : (j : ℕ) (ns : List Vertex) → ((packed_in j ns).count ≤ j + 1) × (0 < (packed_in j ns).count)
unfolding packed_in packed_one
packed-count zero ns = (omega arith, omega arith)
packed-count (suc j) ns = go (eqb (node_at (packed_in j ns).nodes (suc j)).next 0) (packed-count j ns)
  where
    go : (b : Bool) → ((packed_in j ns).count ≤ j + 1) × (0 < (packed_in j ns).count)
        → ((cond b (packed_in j ns)
        (record {
          nodes = moved_in (packed_in j ns).nodes (suc j) (packed_in j ns).count;
          count = suc
              (packed_in j ns).count;
        })).count ≤ suc j + 1)
        × (0 < (cond b (packed_in j ns)
        (record { nodes = moved_in (packed_in j ns).nodes (suc j) (packed_in j ns).count; count = suc (packed_in j ns).count })).count)
    go true h = (omega (arith, h.0), h.1)
    go false h = (omega (arith, h.0), omega (arith, h.1))

-- ---- the roots

-- the first i words by a function of what was there
pub record Mapped (f : ℕ → ℕ) (old new : List ℕ) (i : ℕ) : Type 0 where
  pub long : length new ≡ length old
  pub done : (j : ℕ) → j < i → j < length old → get_or new j 0 ≡ f (get_or old j 0)
  pub left : (j : ℕ) → i ≤ j → get_or new j 0 ≡ get_or old j 0

pub mapped-none : (f : ℕ → ℕ) (old : List ℕ) → Mapped f old old 0
mapped-none f old = record { long = refl; done = λ j h l. absurd (omega arith); left = λ j h. refl }

pub mapped-more : (f : ℕ → ℕ) (old new : List ℕ) (i x : ℕ) → i < length new → x ≡ f (get_or new i 0) → Mapped f old new i
    → Mapped f old (set new i x) (i + 1)
mapped-more f old new i x h e c =
    record {
      long = length-set new i x ∙ c.long;
      done = λ j l q. go j l q (ℕ_discrete j i);
      left = λ j l. get_or-set_other new i j x 0 (λ z. omega arith) ∙ c.left j (omega arith);
    }
  where
    go : (j : ℕ) → j < i + 1 → j < length old → Dec (j ≡ i) → get_or (set new i x) j 0 ≡ f (get_or old j 0)
    go j l q (yes z) =
        ap (λ (k : ℕ). get_or (set new i x) k 0) z ∙ get_or-set_same new i x 0 h ∙ e ∙ ap f (c.left i (omega arith)) ∙ ap
        (λ (k : ℕ). f (get_or old k 0)) (sym z)
    go j l q (no n) = get_or-set_other new i j x 0 n ∙ c.done j (omega arith) q

get_d-mapped : (f : ℕ → ℕ) (l : List ℕ) (j : ℕ) → j < length l → get_or (map f l) j 0 ≡ f (get_or l j 0)
get_d-mapped f [] j h = absurd (omega arith)
get_d-mapped f (x ∷ l) zero h = refl
get_d-mapped f (x ∷ l) (suc j) h = get_d-mapped f l j (omega arith)

pub root-renamed : (f : ℕ → ℕ) (l : List ℕ) (j : ℕ) → j < length l → get_or (map f l) j 0 ≡ f (get_or l j 0)
root-renamed = get_d-mapped

pub mapped-all : (f : ℕ → ℕ) (old new : List ℕ) (i : ℕ) → length new ≤ i → Mapped f old new i → new ≡ map f old
mapped-all f old new i h c =
    let l = length-map old f in
    ext_get_or 0 new (map f old) (c.long ∙ sym l)
    (λ j q. let z = c.long in c.done j (omega arith) (omega arith) ∙ sym (get_d-mapped f old j (omega arith)))

-- ---- zeros

pub zeroed-none : (w : List ℕ) (from : ℕ) → Zeroed w w from from
zeroed-none w from = record { long = refl; inside = λ j p q. absurd (omega arith); outside = λ j p. refl }

pub zeroed-more : (old new : List ℕ) (from i : ℕ) → from ≤ i → i < length new → Zeroed old new from i → Zeroed old (set new i 0) from
    (i + 1)
zeroed-more old new from i l h z =
    record {
      long = length-set new i 0 ∙ z.long;
      inside = λ j p q. go j p q (ℕ_discrete j i);
      outside = λ j p. get_or-set_other new i j 0 0 (λ e. away j p e) ∙ z.outside j (weaker j p);
    }
  where
    go : (j : ℕ) → from ≤ j → j < i + 1 → Dec (j ≡ i) → get_or (set new i 0) j 0 ≡ 0
    go j p q (yes e) = ap (λ (k : ℕ). get_or (set new i 0) k 0) e ∙ get_or-set_same new i 0 0 h
    go j p q (no e) = get_or-set_other new i j 0 0 e ∙ z.inside j p (omega arith)

    away : (j : ℕ) → (j < from) ⊎ (i + 1 ≤ j) → j ≡ i → ⊥
    away j (inl p) e = omega arith
    away j (inr p) e = omega arith

    weaker : (j : ℕ) → (j < from) ⊎ (i + 1 ≤ j) → (j < from) ⊎ (i ≤ j)
    weaker j (inl p) = inl p
    weaker j (inr p) = inr (omega arith)

-- ---- hash lists

pub hashed-by : (s t o : State) (p : Vertex) (n h next : ℕ) → p ≡ node_at s.nodes n → h ≡ bucket_of (length s.heads) p.lo p.hi
    p.var
    → next ≡ get_or s.heads h 0 → t ≡ with_nodes s (linked_in s.nodes n next)
    → o ≡ record { room = t.room; looks = t.looks; nodes = t.nodes; heads = set t.heads h n; cache = t.cache } → o ≡ hashed s n
unfolding hashed
hashed-by s t o p n h next ep eh en et eo =
    eo
    ∙ ap (λ (u : State). record { room = u.room; looks = u.looks; nodes = u.nodes; heads = set u.heads h n; cache = u.cache }) et
    ∙ ap
    (λ (x : ℕ).
    record { room = s.room; looks = s.looks; nodes = linked_in s.nodes n x; heads = set s.heads h n; cache = s.cache })
    en
    ∙ ap (hashed_at s n) (eh ∙ ap (λ (v : Vertex). bucket_of (length s.heads) v.lo v.hi v.var) ep)

pub rehashed-more : (j : ℕ) (s : State) → hashed (rehashed j s) (j + 1) ≡ rehashed (j + 1) s
unfolding rehashed
rehashed-more j s = ap (hashed (rehashed j s)) (add-one j) ∙ sym (ap (λ (k : ℕ). rehashed k s) (add-one j))

pub rehashed-none : (s : State) → s ≡ rehashed 0 s
unfolding rehashed
rehashed-none s = refl

pub length-rehashed : (j : ℕ) (s : State) → (length (rehashed j s).nodes ≡ length s.nodes) × ((rehashed j s).room ≡ s.room)
unfolding rehashed hashed
length-rehashed zero s = (refl, refl)
length-rehashed (suc j) s =
    let t = rehashed j s in
    let n = node_at t.nodes (suc j) in
    let r = length-rehashed j s in
    (length-linked t.nodes (suc j) (get_or t.heads (list_of t n.var n.lo n.hi) 0) ∙ r.0, r.1)

pub inside-same : (s t : State) → t ≡ s → length s.nodes ≤ s.room → length t.nodes ≤ t.room
inside-same s t e h = subst (λ (u : State). length u.nodes ≤ u.room) (sym e) h

-- ---- the whole

pub gathered-by : (s a b c d e : State) (roots new : List ℕ) (n k : ℕ) (r : Bool) → n ≡ length s.nodes → a ≡ with_nodes s
    (marked_in roots s.nodes)
    → b ≡ with_nodes a (packed_in (n - 1) a.nodes).nodes → k ≡ (packed_in (n - 1) a.nodes).count → new ≡ map (renamed_in b.nodes) roots
    → c ≡ trimmed b k → d ≡ rehashed (k - 1) c → e ≡ paid d (k / 2) → r ≡ is_paid d (k / 2) → collection e new r ≡ gathered s roots
unfolding gathered gathered_by settled
gathered-by s a b c d e roots new n k r en ea eb ek enew ec ed ee er =
    let ms = marked_in roots s.nodes in
    let p = packed_in (length s.nodes - 1) ms in
    let fa : a.nodes ≡ ms = ap (λ (u : State). u.nodes) ea in
    let fp : packed_in (n - 1) a.nodes ≡ p = ap₂ (λ (m : ℕ) (ns : List Vertex). packed_in (m - 1) ns) en fa in
    let fb : b ≡ with_nodes s p.nodes = eb ∙ ap₂ (λ (u : State) (q : Packed). with_nodes u q.nodes) ea fp in
    let fk : k ≡ p.count = ek ∙ ap (λ (q : Packed). q.count) fp in
    let fd : d ≡ settled s p = ed ∙ ap₂ (λ (m : ℕ) (u : State). rehashed (m - 1) u) fk (ec ∙ ap₂ trimmed fb fk) in
    (λ i. collection (ee i) (enew i) (er i))
    ∙ (λ i. collection (paid (fd i) (fk i / 2)) (map (renamed_in (fb i).nodes) roots) (is_paid (fd i) (fk i / 2)))

module _ (s : State) (roots : List ℕ) (n : ℕ) (en : n ≡ length s.nodes) where
  pub collected-no-node : n ≡ 0 → collection s roots false ≡ collected s roots
  unfolding collected
  collected-no-node z = sym (rw (eq-eqb (length s.nodes) 0 (sym en ∙ z)))

  module _ (some : n ≡ 0 → ⊥) where
    pub collected-no-room : s.room < n → collection s roots false ≡ collected s roots
    unfolding collected
    collected-no-room l = sym (rw (ne_eqb (length s.nodes) 0 (λ z. some (en ∙ z)), lt-ltb s.room (length s.nodes) (omega arith)))

    module _ (l : n ≤ s.room) (t : State) (et : t ≡ paid s (n / 4)) where
      pub collected-unpaid : is_paid s (n / 4) ≡ false → collection t roots false ≡ collected s roots
      unfolding collected
      collected-unpaid p =
          let q : is_paid s (length s.nodes / 4) ≡ false = ap (λ (m : ℕ). is_paid s (m / 4)) (sym en) ∙ p in
          ap (λ (u : State). collection u roots false) (et ∙ ap (λ (m : ℕ). paid s (m / 4)) en)
          ∙ sym (rw (ne_eqb (length s.nodes) 0 (λ z. some (en ∙ z)), le-ltb s.room (length s.nodes) (omega arith), q))

      pub collected-paid : (o : Collection) → is_paid s (n / 4) ≡ true → o ≡ gathered t roots → o ≡ collected s roots
      unfolding collected
      collected-paid o p h =
          let q : is_paid s (length s.nodes / 4) ≡ true = ap (λ (m : ℕ). is_paid s (m / 4)) (sym en) ∙ p in
          h ∙ ap (λ (u : State). gathered u roots) (et ∙ ap (λ (m : ℕ). paid s (m / 4)) en)
          ∙ sym (rw (ne_eqb (length s.nodes) 0 (λ z. some (en ∙ z)), le-ltb s.room (length s.nodes) (omega arith), q))

-- ---- what the calls of the whole require

pub trimmed-inside : (s t : State) (k : ℕ) → t ≡ trimmed s k → length s.nodes ≤ s.room → length t.nodes ≤ t.room
unfolding trimmed
trimmed-inside s t k e h =
    inside-same (trimmed s k) t e (omega (arith, length-take k s.nodes))

paid-room : (s : State) (n : ℕ) → (paid s n).room ≡ s.room
unfolding paid
paid-room s n = go (ltb s.looks n)
  where
    go : (b : Bool)
        → (cond b s (record { room = s.room; looks = s.looks - n; nodes = s.nodes; heads = s.heads; cache = s.cache })).room ≡ s.room
    go true = refl
    go false = refl

pub paid-inside : (s t : State) (n : ℕ) → t ≡ paid s n → length s.nodes ≤ s.room → 0 < length s.nodes
    → (length t.nodes ≤ t.room) × (0 < length t.nodes)
paid-inside s t n e h p =
    let a : length t.nodes ≡ length s.nodes = ap (λ (u : State). length u.nodes) e ∙ ap (λ (ns : List Vertex). length ns)
    (paid-nodes s n) in
    let b : t.room ≡ s.room = ap (λ (u : State). u.room) e ∙ paid-room s n in
    (omega arith, omega arith)
