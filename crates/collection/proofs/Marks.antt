-- The marks are closed: the nodes of the roots are marked, and so are those under a marked node. Edges and variables stay. Assumes nothing.
use mathlib.Core.Path.{◌≡◌, refl, sym, ap, ap₂, ◌∙◌, subst}
use mathlib.Core.Bool.{Bool, true, false, cond}
use mathlib.Core.List.{List, [], ◌∷◌}
use mathlib.Core.Logic.{◌⊎◌, inl, inr}
use Prim.Native.Nat.{ℕ, zero, suc, ◌+◌, ◌-◌, ◌*◌, ◌/◌, ◌≤◌, ◌<◌}
use native.Mathlib.Decide.{ℕ_discrete}
use native.Mathlib.Omega.{arith}
use borrow.Author.Tests.{ltb-true, ltb-false, eqb-true, eqb-false}
use lib.Dec.{eqb, ltb}
use lib.ListN.{length, get_or, set, length-set, get_or-eq_default}
use lib.Seq.{get_or-set_same, get_or-set_other, set_out}
use Rattle.diagrams.specs.declared.Vertex.{Vertex}
use Rattle.diagrams.specs.Words.{no_vertex, false_vertex, node_at}
use Rattle.diagrams.specs.Meaning.{In, Above, Built}
use Rattle.collection.specs.Collecting.{linked_in, unmarked_in, rooted_in, edges_marked, swept_in, marked_in}
use Rattle.collection.proofs.Turns.{length-linked, length-unmarked, length-rooted, length-edges, length-swept}

-- ---- nodes with the same edges and variables

pub record Alike (ns ms : List Vertex) : Type 0 where
  pub long : length ms ≡ length ns
  pub lo : (k : ℕ) → (node_at ms k).lo ≡ (node_at ns k).lo
  pub hi : (k : ℕ) → (node_at ms k).hi ≡ (node_at ns k).hi
  pub var : (k : ℕ) → (node_at ms k).var ≡ (node_at ns k).var

pub alike_refl : (ns : List Vertex) → Alike ns ns
alike_refl ns = record { long = refl; lo = λ k. refl; hi = λ k. refl; var = λ k. refl }

pub alike_then : {ns ms ls : List Vertex} → Alike ns ms → Alike ms ls → Alike ns ls
alike_then p q =
    record {
      long = q.long ∙ p.long;
      lo = λ k. q.lo k ∙ p.lo k;
      hi = λ k. q.hi k ∙ p.hi k;
      var = λ k. q.var k ∙ p.var k;
    }

pub built_alike : {ns ms : List Vertex} → Alike ns ms → node_at ms 0 ≡ false_vertex → Built ns → Built ms
built_alike {ns} {ms} a first b =
    let l = a.long in
    record {
      some-node = omega (arith, b.some-node);
      first = first;
      lo = λ k p h. omega (arith, b.lo k p (omega arith), a.lo k);
      hi = λ k p h. omega (arith, b.hi k p (omega arith), a.hi k);
      apart = λ k p h e. b.apart k p (omega arith) (sym (a.lo k) ∙ e ∙ a.hi k);
      lo-above = λ k p h.
          let q = b.lo-above k p (omega arith) in
          let z : (node_at ms ((node_at ms k).lo / 2)).var ≡ (node_at ns ((node_at ns k).lo / 2)).var =
          a.var ((node_at ms k).lo / 2) ∙ ap (λ (e : ℕ). (node_at ns (e / 2)).var) (a.lo k) in
          omega (arith, a.var k);
      hi-above = λ k p h.
          let q = b.hi-above k p (omega arith) in
          let z : (node_at ms ((node_at ms k).hi / 2)).var ≡ (node_at ns ((node_at ns k).hi / 2)).var =
          a.var ((node_at ms k).hi / 2) ∙ ap (λ (e : ℕ). (node_at ns (e / 2)).var) (a.hi k) in
          omega (arith, a.var k);
    }

-- ---- one store of `next`

abbrev pub with_next : Vertex → ℕ → Vertex
with_next n x = record { lo = n.lo; hi = n.hi; var = n.var; next = x }

pub linked-other : (ns : List Vertex) (k x j : ℕ) → (j ≡ k → ⊥) → node_at (linked_in ns k x) j ≡ node_at ns j
unfolding linked_in
linked-other ns k x j n = get_or-set_other ns k j (with_next (node_at ns k) x) no_vertex n

linked-here : (ns : List Vertex) (k x : ℕ) → k < length ns → node_at (linked_in ns k x) k ≡ with_next (node_at ns k) x
unfolding linked_in
linked-here ns k x h = get_or-set_same ns k (with_next (node_at ns k) x) no_vertex h

pub linked-next : (ns : List Vertex) (k x : ℕ) → k < length ns → (node_at (linked_in ns k x) k).next ≡ x
linked-next ns k x h = ap (λ (n : Vertex). n.next) (linked-here ns k x h)

linked-past : (ns : List Vertex) (k x : ℕ) → length ns ≤ k → linked_in ns k x ≡ ns
unfolding linked_in
linked-past ns k x h = set_out ns k (with_next (node_at ns k) x) h

-- a part of a node that is not `next`
pub linked-part : (f : Vertex → ℕ) → ((n : Vertex) (x : ℕ) → f (with_next n x) ≡ f n) → (ns : List Vertex) (k x j : ℕ)
    → f (node_at (linked_in ns k x) j) ≡ f (node_at ns j)
linked-part f same ns k x j = go (ℕ_discrete j k) (ltb k (length ns)) refl
  where
    go : Dec (j ≡ k) → (b : Bool) → ltb k (length ns) ≡ b → f (node_at (linked_in ns k x) j) ≡ f (node_at ns j)
    go (no n) b e = ap f (linked-other ns k x j n)
    go (yes z) true e =
        ap (λ (i : ℕ). f (node_at (linked_in ns k x) i)) z ∙ ap f (linked-here ns k x (ltb-true k (length ns) e)) ∙ same (node_at ns k) x
        ∙ ap (λ (i : ℕ). f (node_at ns i)) (sym z)
    go (yes z) false e = ap (λ (l : List Vertex). f (node_at l j)) (linked-past ns k x (ltb-false k (length ns) e))

pub linked-alike : (ns : List Vertex) (k x : ℕ) → Alike ns (linked_in ns k x)
linked-alike ns k x =
    record {
      long = length-linked ns k x;
      lo = linked-part (λ n. n.lo) (λ n y. refl) ns k x;
      hi = linked-part (λ n. n.hi) (λ n y. refl) ns k x;
      var = linked-part (λ n. n.var) (λ n y. refl) ns k x;
    }

-- ---- marks

-- node k has a mark
abbrev pub Marked : List Vertex → ℕ → Type 0
Marked ns k = 0 < (node_at ns k).next

marked-in : (ns : List Vertex) (k : ℕ) → Marked ns k → k < length ns
marked-in ns k h = go (ltb k (length ns)) refl
  where
    go : (b : Bool) → ltb k (length ns) ≡ b → k < length ns
    go true e = ltb-true k (length ns) e
    go false e =
        let d : node_at ns k ≡ no_vertex = get_or-eq_default ns no_vertex (ltb-false k (length ns) e) in
        absurd (let z = ap (λ (n : Vertex). n.next) d in omega arith)

-- a new mark takes none away
marks_stay : (ns : List Vertex) (k j : ℕ) → Marked ns j → Marked (linked_in ns k 1) j
marks_stay ns k j h = go (ℕ_discrete j k)
  where
    go : Dec (j ≡ k) → Marked (linked_in ns k 1) j
    go (no n) = subst (λ (v : Vertex). 0 < v.next) (sym (linked-other ns k 1 j n)) h
    go (yes z) =
        subst (λ (i : ℕ). Marked (linked_in ns k 1) i) (sym z)
        (let q = linked-next ns k 1 (subst (λ (i : ℕ). i < length ns) z (marked-in ns j h)) in omega arith)

mark-here : (ns : List Vertex) (k : ℕ) → k < length ns → Marked (linked_in ns k 1) k
mark-here ns k h = let q = linked-next ns k 1 h in omega arith

-- ---- the roots

unmarked-alike : (i : ℕ) (ns : List Vertex) → Alike ns (unmarked_in i ns)
unfolding unmarked_in
unmarked-alike zero ns = alike_refl ns
unmarked-alike (suc i) ns = alike_then (unmarked-alike i ns) (linked-alike (unmarked_in i ns) i 0)

rooted-alike : (roots : List ℕ) (i : ℕ) (ns : List Vertex) → Alike ns (rooted_in roots i ns)
unfolding rooted_in
rooted-alike roots zero ns = alike_refl ns
rooted-alike roots (suc i) ns = alike_then (rooted-alike roots i ns) (linked-alike (rooted_in roots i ns) (get_or roots i 0 / 2) 1)

rooted-marks : (roots : List ℕ) (i : ℕ) (ns : List Vertex) (j : ℕ) → j < i → get_or roots j 0 / 2 < length ns
    → Marked (rooted_in roots i ns) (get_or roots j 0 / 2)
unfolding rooted_in
rooted-marks roots zero ns j l h = absurd (omega arith)
rooted-marks roots (suc i) ns j l h = go (rooted-marks roots i ns j) (ℕ_discrete j i)
  where
    k : ℕ
    k = get_or roots i 0 / 2

    go : (j < i → get_or roots j 0 / 2 < length ns → Marked (rooted_in roots i ns) (get_or roots j 0 / 2)) → Dec (j ≡ i)
        → Marked (linked_in (rooted_in roots i ns) (get_or roots i 0 / 2) 1) (get_or roots j 0 / 2)
    go f (no n) = marks_stay (rooted_in roots i ns) (get_or roots i 0 / 2) (get_or roots j 0 / 2) (f (omega arith) h)
    go f (yes z) =
        subst (λ (m : ℕ). Marked (linked_in (rooted_in roots i ns) (get_or roots i 0 / 2) 1) (get_or roots m 0 / 2)) (sym z)
        (mark-here (rooted_in roots i ns) (get_or roots i 0 / 2)
        (subst (λ (m : ℕ). get_or roots i 0 / 2 < m) (sym (length-rooted roots i ns))
        (subst (λ (m : ℕ). get_or roots m 0 / 2 < length ns) z h)))

-- ---- the sweep

-- the nodes under a marked node are marked, for the nodes from n on
abbrev Closed : List Vertex → ℕ → Type 0
Closed ns n = (k : ℕ) → n ≤ k → Marked ns k → Marked ns ((node_at ns k).lo / 2) × Marked ns ((node_at ns k).hi / 2)

-- what one step of the sweep does
record Step (ns ms : List Vertex) (n : ℕ) : Type 0 where
  alike : Alike ns ms
  stay : (j : ℕ) → Marked ns j → Marked ms j
  above : (k : ℕ) → n ≤ k → (node_at ms k).next ≡ (node_at ns k).next
  here : Marked ns n → Marked ms ((node_at ns n).lo / 2) × Marked ms ((node_at ns n).hi / 2)

step_of : (ns : List Vertex) (n : ℕ) → n < length ns → (node_at ns n).lo / 2 < n → (node_at ns n).hi / 2 < n → Step ns (edges_marked ns n) n
unfolding edges_marked
step_of ns n h p q = go (eqb (node_at ns n).next 0) refl
  where
    a : ℕ
    a = (node_at ns n).lo / 2

    go : (b : Bool) → eqb (node_at ns n).next 0 ≡ b
        → Step ns (cond b ns (linked_in (linked_in ns ((node_at ns n).lo / 2) 1) ((node_at ns n).hi / 2) 1)) n
    go true e =
        record {
          alike = alike_refl ns;
          stay = λ j m. m;
          above = λ k l. refl;
          here = λ m. absurd (omega (arith, eqb-true (node_at ns n).next 0 e));
        }
    go false e =
        let lo = (node_at ns n).lo / 2 in
        let hi = (node_at ns n).hi / 2 in
        let one = linked_in ns lo 1 in
        let l = length-linked ns lo 1 in
        record {
          alike = alike_then (linked-alike ns lo 1) (linked-alike one hi 1);
          stay = λ j m. marks_stay one hi j (marks_stay ns lo j m);
          above = λ k g.
              ap (λ (v : Vertex). v.next) (linked-other one hi 1 k (λ z. omega arith) ∙ linked-other ns lo 1 k (λ z. omega arith));
          here = λ m. (marks_stay one hi lo (mark-here ns lo (omega arith)), mark-here one hi (omega arith));
        }

closed-step : (ns ms : List Vertex) (n : ℕ) → Step ns ms n → Closed ns (n + 1) → Closed ms n
closed-step ns ms n s c k l m = go (ℕ_discrete k n)
  where
    before : Marked ns k
    before = subst (λ (x : ℕ). 0 < x) (s.above k l) m

    to : Marked ms ((node_at ns k).lo / 2) × Marked ms ((node_at ns k).hi / 2) → Marked ms ((node_at ms k).lo / 2) × Marked ms
        ((node_at ms k).hi / 2)
    to p = (
      subst (λ (e : ℕ). Marked ms (e / 2)) (sym (s.alike.lo k)) p.0,
      subst (λ (e : ℕ). Marked ms (e / 2)) (sym (s.alike.hi k))
          p.1,
    )

    go : Dec (k ≡ n) → Marked ms ((node_at ms k).lo / 2) × Marked ms ((node_at ms k).hi / 2)
    go (yes z) =
        to (subst (λ (i : ℕ). Marked ms ((node_at ns i).lo / 2) × Marked ms ((node_at ns i).hi / 2)) (sym z)
        (s.here (subst (λ (i : ℕ). Marked ns i) z before)))
    go (no n) = let p = c k (omega arith) before in to (s.stay ((node_at ns k).lo / 2) p.0, s.stay ((node_at ns k).hi / 2) p.1)

-- after j steps from the last node down
record Swept (last j : ℕ) (ns ms : List Vertex) : Type 0 where
  alike : Alike ns ms
  stay : (k : ℕ) → Marked ns k → Marked ms k
  closed : Closed ms (last - j + 1)

swept-by : (ns : List Vertex) → ((k : ℕ) → 0 < k → k < length ns → (node_at ns k).lo / 2 < k)
    → ((k : ℕ) → 0 < k → k < length ns → (node_at ns k).hi / 2 < k) → (last : ℕ) → last + 1 ≡ length ns → (j : ℕ) → j ≤ last
    → Swept last j ns (swept_in last j ns)
unfolding swept_in
swept-by ns lo hi last e zero l =
    record {
      alike = alike_refl ns;
      stay = λ k m. m;
      closed = λ k g m. absurd (let q = marked-in ns k m in omega arith);
    }
swept-by ns lo hi last e (suc j) l =
    let ms = swept_in last j ns in
    let r = swept-by ns lo hi last e j (omega arith) in
    let n = last - j in
    let s = step_of ms n (omega (arith, r.alike.long)) (omega (arith, r.alike.lo n, lo n (omega arith) (omega arith)))
    (omega (arith, r.alike.hi n, hi n (omega arith) (omega arith))) in
    let z : last - suc j + 1 ≡ n = omega arith in
    record {
      alike = alike_then r.alike s.alike;
      stay = λ k m. s.stay k (r.stay k m);
      closed = subst (λ (i : ℕ). Closed (edges_marked ms n) i) (sym z) (closed-step ms (edges_marked ms n) n s r.closed);
    }

-- ---- the whole

-- node k is node 0, or has a mark
abbrev pub Live : List Vertex → ℕ → Type 0
Live ns k = (k ≡ 0) ⊎ Marked ns k

-- nodes with marks that are closed: node 0 has none
pub record Ready (ns ms : List Vertex) : Type 0 where
  pub alike : Alike ns ms
  pub first : node_at ms 0 ≡ false_vertex
  pub lo-live : (k : ℕ) → 0 < k → Marked ms k → Live ms ((node_at ms k).lo / 2)
  pub hi-live : (k : ℕ) → 0 < k → Marked ms k → Live ms ((node_at ms k).hi / 2)

module _ (roots : List ℕ) (ns : List Vertex) (b : Built ns) where
  unmarked : List Vertex
  unmarked = unmarked_in (length ns) ns

  rooted : List Vertex
  rooted = rooted_in roots (length roots) unmarked

  swept : List Vertex
  swept = swept_in (length ns - 1) (length ns - 1) rooted

  rooted-from : Alike ns rooted
  unfolding rooted unmarked
  rooted-from = alike_then (unmarked-alike (length ns) ns) (rooted-alike roots (length roots) (unmarked_in (length ns) ns))

  swept-from : Swept (length ns - 1) (length ns - 1) rooted swept
  unfolding swept
  swept-from =
      let a = rooted-from in
      swept-by rooted (λ k p h. omega (arith, a.long, a.lo k, b.lo k p (omega (arith, a.long))))
      (λ k p h. omega (arith, a.long, a.hi k, b.hi k p (omega (arith, a.long))))
      (length ns - 1) (omega (arith, a.long, b.some-node)) (length ns - 1) (omega arith)

  -- a mark is not lost but at node 0
  live-after : (k : ℕ) → Marked swept k → Live (linked_in swept 0 0) k
  live-after zero m = inl refl
  live-after (suc k) m = inr (subst (λ (v : Vertex). 0 < v.next) (sym (linked-other swept 0 0 (suc k) (λ z. omega arith))) m)

  pub marked-ready : Ready ns (marked_in roots ns)
  unfolding marked_in swept rooted unmarked
  marked-ready =
      let s = swept-from in
      let a = alike_then rooted-from s.alike in
      let l = linked-alike swept 0 0 in
      let w = alike_then a l in
      let z = linked-next swept 0 0 (omega (arith, a.long, b.some-node)) in
      let f = b.first in
      record {
        alike = w;
        first = (λ i. record {
          lo = (w.lo 0 ∙ ap (λ (v : Vertex). v.lo) f) i;
          hi = (w.hi 0 ∙ ap (λ (v : Vertex). v.hi) f) i;
          var =
              (w.var 0 ∙ ap (λ (v : Vertex). v.var) f) i;
          next = z i;
        });
        lo-live = λ k p m.
            let q : Marked swept k = subst (λ (v : Vertex). 0 < v.next) (linked-other swept 0 0 k (λ e. omega arith)) m in
            subst (λ (e : ℕ). Live (linked_in swept 0 0) (e / 2)) (sym (l.lo k))
            (live-after ((node_at swept k).lo / 2) (s.closed k (omega arith) q).0);
        hi-live = λ k p m.
            let q : Marked swept k = subst (λ (v : Vertex). 0 < v.next) (linked-other swept 0 0 k (λ e. omega arith)) m in
            subst (λ (e : ℕ). Live (linked_in swept 0 0) (e / 2)) (sym (l.hi k))
            (live-after ((node_at swept k).hi / 2) (s.closed k (omega arith) q).1);
      }

  -- the nodes of the roots are live
  pub roots-live : (j : ℕ) → j < length roots → In ns (get_or roots j 0) → Live (marked_in roots ns) (get_or roots j 0 / 2)
  unfolding marked_in swept rooted unmarked
  roots-live j h i =
      live-after (get_or roots j 0 / 2)
      (swept-from.stay (get_or roots j 0 / 2) (rooted-marks roots (length roots) (unmarked_in (length ns) ns) j h
      (omega (arith, length-unmarked (length ns) ns))))
