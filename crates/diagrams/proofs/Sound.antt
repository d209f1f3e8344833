-- What is asked of edges stays where nodes are added; steps that leave a good state and a right answer compose; a node that is made goes
-- along its edges; looks at the cache and kept results are right. Assumes nothing.
use mathlib.Core.Path.{◌≡◌, refl, sym, ap, ap₂, ◌∙◌, subst}
use mathlib.Core.Bool.{Bool, true, false, not, cond, ◌&&◌, ◌||◌}
use mathlib.Core.List.{List, [], ◌∷◌, ◌++◌}
use mathlib.Core.Option.{Option, none, some}
use mathlib.Core.Logic.{◌⊎◌, inl, inr}
use Prim.Native.Nat.{ℕ, zero, suc, ◌+◌, ◌-◌, ◌*◌, ◌/◌, ◌%◌, ◌≤◌, ◌<◌}
use native.Mathlib.Decide.{ℕ_discrete}
use native.Mathlib.Omega.{arith}
use borrow.Author.Tests.{ltb-true, ltb-false, eqb-true, eqb-false}
use lib.Dec.{ltb, leb, eqb, lit<}
use lib.ListN.{length, get_or, set, length-set, length-append, get_or-append, get_or-eq_default}
use lib.Seq.{get_or_at}
use Rattle.diagrams.specs.declared.Vertex.{Vertex}
use Rattle.std.specs.Prelude as code
use Rattle.std.specs.Prelude.{Ok, Err}
use Rattle.diagrams.specs.Words.{no_vertex, node_at, bucket_of, flip, edge_to, is_node}
use Rattle.diagrams.specs.States.{State, Outcome, outcome, on_edge, and_then, found, is_above, added, appended, or_appended, list_of, found_or_appended, made, paid, is_paid, entry_at, place_of, entry_of, Hint, Seen, looked_up, on_hint, or_else, stored, keeping, remembered, finished}
use Rattle.diagrams.specs.Meaning.{Assignment, value, In, Above, Built, Front, if_else, Branch, Both, Either, Choice, Shadow, after, Composed, Terms, vector_of, with_vector, VectorsIn, Entry, empty, both, shadow, composed, Entries, Good, Answer, no_edge, is-edge, Right}
use Rattle.diagrams.proofs.Values.{flip_is, flip-node, flip-in, value-flip, signed, value-new, value-node, value-edge, same-either, lo-in, hi-in, front_same, front-more, front_length, front-in, front-value, front-node}
use Rattle.diagrams.proofs.View.{four_set, length-four, four-other, four-first, four-second, four-third, four-fourth}

-- ---- answers

-- what is asked, from something else that is
pub right-as : {terms : Terms} {s : State} {p q : List Vertex → ℕ → Type 0} {o : Outcome}
    → ((e : ℕ) → p o.state.nodes e → q o.state.nodes e) → Right terms s p o → Right terms s q o
right-as {terms} {s} {p} {q} {o} h r = record { good = r.good; grows = r.grows; answer = go r.answer }
  where
    go : {x : Option ℕ} → Answer (p o.state.nodes) x → Answer (q o.state.nodes) x
    go no_edge = no_edge
    go (is-edge {e} w) = is-edge (h e w)

-- nothing is changed
pub right-here : {terms : Terms} {s : State} {p : List Vertex → ℕ → Type 0} → Good terms s → (x : Option ℕ) → Answer (p s.nodes) x
    → Right terms s p (outcome s x)
right-here {terms} {s} g x r = record { good = g; grows = front_same s.nodes; answer = r }

-- one step after the other
pub right-then : {terms : Terms} {s : State} {p q : List Vertex → ℕ → Type 0} (o : Outcome) (k : State → ℕ → Outcome) → Right terms s p o
    → ((e : ℕ) → p o.state.nodes e → Right terms o.state q (k o.state e))
    → Right terms s q (and_then o k)
right-then {terms} {s} {p} {q} o k r f = go r.answer
  where
    go : {x : Option ℕ} → Answer (p o.state.nodes) x → Right terms s q (on_edge x o.state k)
    go no_edge = record { good = r.good; grows = r.grows; answer = no_edge }
    go (is-edge {e} w) = let t = f e w in record { good = t.good; grows = front-more r.grows t.grows; answer = t.answer }

-- both ways of a test
pub right-if : {terms : Terms} {s : State} {p : List Vertex → ℕ → Type 0} (b : Bool) (o u : Outcome) → (b ≡ true → Right terms s p o)
    → (b ≡ false → Right terms s p u) → Right terms s p (cond b o u)
right-if true o u f g = f refl
right-if false o u f g = g refl

-- the same nodes before
pub right-from : {terms : Terms} {s t : State} {p : List Vertex → ℕ → Type 0} {o : Outcome} → t.nodes ≡ s.nodes → Right terms t p o
    → Right terms s p o
right-from {terms} {s} {t} {p} {o} e r =
    record { good = r.good; grows = subst (λ (ns : List Vertex). Front ns o.state.nodes) e r.grows; answer = r.answer }

-- ---- order

pub front_above : {ns ms : List Vertex} → Front ns ms → (v e : ℕ) → In ns e → Above ns v e → Above ms v e
front_above t v e i h = subst (λ (n : Vertex). v < n.var) (sym (front-node t (e / 2) i)) h

-- ---- what is asked stays where nodes are added

pub branch-front : {v lo hi : ℕ} {ns ms : List Vertex} {r : ℕ} → Front ns ms → In ns lo → In ns hi → Branch v lo hi ns r
    → Branch v lo hi ms r
branch-front {v} {lo} {hi} {ns} {ms} {r} t i j b =
    record {
      r-in = front-in t r b.r-in;
      same = λ x.
          front-value t x r b.r-in ∙ b.same x
          ∙ sym (ap₂ (λ (y z : Bool). cond (x v) y z) (front-value t x hi j) (front-value t x lo i));
    }

pub both-front : {f g : ℕ} {ns ms : List Vertex} {r : ℕ} → Front ns ms → Both f g ns r → Both f g ms r
both-front {f} {g} {ns} {ms} {r} t b =
    record {
      f-in = front-in t f b.f-in;
      g-in = front-in t g b.g-in;
      r-in = front-in t r b.r-in;
      same = λ x.
          front-value t x r b.r-in ∙ b.same x
          ∙ sym (ap₂ (λ (y z : Bool). y && z) (front-value t x f b.f-in) (front-value t x g b.g-in));
    }

pub either-front : {f g : ℕ} {ns ms : List Vertex} {r : ℕ} → Front ns ms → Either f g ns r → Either f g ms r
either-front {f} {g} {ns} {ms} {r} t b =
    record {
      f-in = front-in t f b.f-in;
      g-in = front-in t g b.g-in;
      r-in = front-in t r b.r-in;
      same = λ x.
          front-value t x r b.r-in ∙ b.same x
          ∙ sym (ap₂ (λ (y z : Bool). y || z) (front-value t x f b.f-in) (front-value t x g b.g-in));
    }

pub choice-front : {f g h : ℕ} {ns ms : List Vertex} {r : ℕ} → Front ns ms → Choice f g h ns r → Choice f g h ms r
choice-front {f} {g} {h} {ns} {ms} {r} t b =
    record {
      f-in = front-in t f b.f-in;
      g-in = front-in t g b.g-in;
      h-in = front-in t h b.h-in;
      r-in = front-in t r b.r-in;
      same = λ x.
          let p = sym (front-value t x f b.f-in) in
          let q = sym (front-value t x g b.g-in) in
          let u = sym (front-value t x h b.h-in) in
          front-value t x r b.r-in ∙ b.same x ∙ (λ i. cond (p i) (q i) (u i));
    }

pub shadow-front : {level e : ℕ} {ns ms : List Vertex} {r : ℕ} → Front ns ms → Shadow level e ns r → Shadow level e ms r
shadow-front {level} {e} {ns} {ms} {r} t b =
    record {
      e-in = front-in t e b.e-in;
      r-in = front-in t r b.r-in;
      sound = λ x h.
          let w = b.sound x (sym (front-value t x r b.r-in) ∙ h) in
          record { there = w.there; agrees = w.agrees; holds = front-value t w.there e b.e-in ∙ w.holds };
      complete = λ x w.
          front-value t x r b.r-in
          ∙ b.complete x
          (record { there = w.there; agrees = w.agrees; holds = sym (front-value t w.there e b.e-in) ∙ w.holds });
    }

-- an assignment by a vector is the same where nodes are added
pub after_front : {ns ms : List Vertex} (vector : List ℕ) → ((v : ℕ) → In ns (get_or vector v 0)) → Front ns ms → (x : Assignment)
    → after ms vector x ≡ after ns vector x
unfolding after
after_front vector i t x = λ j v. front-value t x (get_or vector v 0) (i v) j

pub composed-front : {vector : List ℕ} {e : ℕ} {ns ms : List Vertex} {r : ℕ} → ((v : ℕ) → In ns (get_or vector v 0)) → Front ns ms
    → Composed vector e ns r → Composed vector e ms r
composed-front {vector} {e} {ns} {ms} {r} i t b =
    record {
      e-in = front-in t e b.e-in;
      r-in = front-in t r b.r-in;
      same = λ x.
          front-value t x r b.r-in ∙ b.same x
          ∙ sym (front-value t (after ms vector x) e b.e-in ∙ ap (λ (y : Assignment). value ns y e) (after_front vector i t x));
    }

pub entry-front : {terms : Terms} {ns ms : List Vertex} {f g h r : ℕ} → VectorsIn terms ns → Front ns ms → Entry terms ns f g h r
    → Entry terms ms f g h r
entry-front i t (empty z) = empty z
entry-front i t (both p b) = both p (both-front t b)
entry-front i t (shadow p q b) = shadow p q (shadow-front t b)
entry-front i t (composed tag p q l b) = composed tag p q l (composed-front (i tag) t b)

-- what the entry of operands that are no edge 0 says
pub entry-both : {terms : Terms} {ns : List Vertex} {f g r : ℕ} → (f ≡ 0 → ⊥) → Entry terms ns f g 0 r → Both f g ns r
entry-both n (empty z) = absurd (n z)
entry-both n (both p b) = b
entry-both n (shadow p q b) = absurd (omega arith)
entry-both n (composed tag p q l b) = absurd (omega arith)

pub entry-shadow : {terms : Terms} {ns : List Vertex} {f r : ℕ} → (f ≡ 0 → ⊥) → Entry terms ns f 0 1 r → Shadow terms.level f ns r
entry-shadow n (empty z) = absurd (n z)
entry-shadow n (both p b) = absurd (omega arith)
entry-shadow n (shadow p q b) = b
entry-shadow n (composed tag p q l b) = absurd (omega arith)

pub entry-composed : {terms : Terms} {ns : List Vertex} {f r : ℕ} (tag : ℕ) → (f ≡ 0 → ⊥) → Entry terms ns f (tag + 1) 1 r
    → Composed (vector_of terms tag) f ns r
entry-composed tag n (empty z) = absurd (n z)
entry-composed tag n (both p b) = absurd (omega arith)
entry-composed tag n (shadow p q b) = absurd (omega arith)
entry-composed {terms} {ns} {f} {r} tag n (composed other p q l b) =
    let z : other ≡ tag = omega arith in subst (λ (t : ℕ). Composed (vector_of terms t) f ns r) z b

-- ---- one vector more

module _ {terms : Terms} {s : State} (vector : List ℕ) (i : (v : ℕ) → In s.nodes (get_or vector v 0)) (g : Good terms s) where
  before-vector : (tag : ℕ) → tag < length terms.vectors → vector_of (with_vector terms vector) tag ≡ vector_of terms tag
  before-vector tag l = get_or-append terms.vectors (vector ∷ []) [] tag l

  -- the new vector's tag is the number of vectors before
  pub new-vector : vector_of (with_vector terms vector) (length terms.vectors) ≡ vector
  new-vector = get_or_at terms.vectors vector [] [] (length terms.vectors) refl

  more-entry : {f h k r : ℕ} → Entry terms s.nodes f h k r → Entry (with_vector terms vector) s.nodes f h k r
  more-entry (empty z) = empty z
  more-entry (both p b) = both p b
  more-entry (shadow p q b) = shadow p q b
  more-entry {f} {h} {k} {r} (composed tag p q l b) =
      composed tag p q (omega (arith, length-append terms.vectors (vector ∷ [])))
      (subst (λ (v : List ℕ). Composed v f s.nodes r) (sym (before-vector tag l)) b)

  vectors-more : VectorsIn (with_vector terms vector) s.nodes
  vectors-more tag v = go (ltb tag (length terms.vectors)) (ℕ_discrete tag (length terms.vectors)) refl
    where
      go : (b : Bool) → Dec (tag ≡ length terms.vectors) → ltb tag (length terms.vectors) ≡ b
          → In s.nodes (get_or (vector_of (with_vector terms vector) tag) v 0)
      go true d e =
          subst (λ (l : List ℕ). In s.nodes (get_or l v 0)) (sym (before-vector tag (ltb-true tag (length terms.vectors) e)))
          (g.vectors-in tag v)
      go false (yes z) e =
          subst (λ (l : List ℕ). In s.nodes (get_or l v 0))
          (sym (ap (vector_of (with_vector terms vector)) z ∙ new-vector)) (i v)
      go false (no n) e =
          let l = ltb-false tag (length terms.vectors) e in
          let d : vector_of (with_vector terms vector) tag ≡ [] =
          get_or-eq_default (with_vector terms vector).vectors [] (omega (arith, length-append terms.vectors (vector ∷ []))) in
          subst (λ (l : List ℕ). In s.nodes (get_or l v 0)) (sym d) (omega (arith, g.built.some-node))

  pub vector-more : Good (with_vector terms vector) s
  vector-more =
      record {
        built = g.built;
        small = g.small;
        fits = g.fits;
        vectors-in = vectors-more;
        entries = λ j l. more-entry (g.entries j l);
      }

-- ---- a new node

edge-is : (k : ℕ) → k ≤ 1073741824 → edge_to k ≡ 2 * k
unfolding edge_to
edge-is k h = omega arith

-- variable v stands above edge e of the diagram, where the test says so
above-is : (ns : List Vertex) (v e : ℕ) → is_above ns v e ≡ true → Above ns v e
unfolding is_above
above-is ns v e h = ltb-true v (node_at ns (e / 2)).var h

module _ (ns : List Vertex) (n : Vertex) (b : Built ns) (lo-of : In ns n.lo) (hi_of : In ns n.hi)
    (lo-above : Above ns n.var n.lo)
    (hi-above : Above ns n.var n.hi) (differ : n.lo ≡ n.hi → ⊥) where
  added-front : Front ns (ns ++ (n ∷ []))
  added-front = record { more = n ∷ []; same = refl }

  -- what holds of every node and of the new one
  each : (p : ℕ → Vertex → Type 0) → ((k : ℕ) → 0 < k → k < length ns → p k (node_at ns k)) → p (length ns) n
      → (k : ℕ) → 0 < k → k < length (ns ++ (n ∷ [])) → p k (node_at (ns ++ (n ∷ [])) k)
  each p f i k l h = go (ℕ_discrete k (length ns))
    where
      go : Dec (k ≡ length ns) → p k (node_at (ns ++ (n ∷ [])) k)
      go (yes e) = subst (λ (x : Vertex). p k x) (sym (get_or_at ns n [] no_vertex k (sym e))) (subst (λ (j : ℕ). p j n) (sym e) i)
      go (no e) =
          let u : k < length ns = omega (arith, length-append ns (n ∷ [])) in
          subst (λ (x : Vertex). p k x) (sym (get_or-append ns (n ∷ []) no_vertex k u)) (f k l u)

  pub built-more : Built (ns ++ (n ∷ []))
  built-more =
      let t = added-front in
      record {
        some-node = omega (arith, length-append ns (n ∷ []), b.some-node);
        first = get_or-append ns (n ∷ []) no_vertex 0 b.some-node ∙ b.first;
        lo = each (λ k x. x.lo / 2 < k) b.lo lo-of;
        hi = each (λ k x. x.hi / 2 < k) b.hi hi_of;
        apart = each (λ k x. x.lo ≡ x.hi → ⊥) b.apart differ;
        lo-above =
            each (λ k x. Above (ns ++ (n ∷ [])) x.var x.lo)
            (λ k p h. front_above t (node_at ns k).var (node_at ns k).lo (omega (arith, b.lo k p h)) (b.lo-above k p h))
            (front_above t n.var n.lo lo-of lo-above);
        hi-above =
            each (λ k x. Above (ns ++ (n ∷ [])) x.var x.hi)
            (λ k p h. front_above t (node_at ns k).var (node_at ns k).hi (omega (arith, b.hi k p h)) (b.hi-above k p h))
            (front_above t n.var n.hi hi_of hi-above);
      }

module _ (terms : Terms) (s : State) (g : Good terms s) (v lo hi : ℕ) (lo-of : In s.nodes lo) (hi_of : In s.nodes hi)
    (differ : lo ≡ hi → ⊥) where
  added-right : (h : ℕ) → length s.nodes < s.room → Above s.nodes v lo → Above s.nodes v hi
      → Right terms s (Branch v lo hi) (outcome (added s h v lo hi) (some (edge_to (length s.nodes))))
  unfolding added
  added-right h l la ha =
      let ns = s.nodes in
      let n : Vertex = record { lo = lo; hi = hi; var = v; next = get_or s.heads h 0 } in
      let t : Front ns (ns ++ (n ∷ [])) = record { more = n ∷ []; same = refl } in
      let m = length-append ns (n ∷ []) in
      let z : edge_to (length ns) ≡ 2 * length ns = edge-is (length ns) g.small in
      record {
        good =
            record {
              built = built-more ns n g.built lo-of hi_of la ha differ;
              small = omega (arith, g.fits);
              fits = g.fits;
              vectors-in = λ tag j. front-in t (get_or (vector_of terms tag) j 0) (g.vectors-in tag j);
              entries = λ i q. entry-front g.vectors-in t (g.entries i q);
            };
        grows = t;
        answer =
            is-edge {e = edge_to (length ns)}
            (record {
              r-in = omega arith;
              same = λ x.
                  ap (value (ns ++ (n ∷ [])) x) z ∙ value-new ns n x (length ns) refl
                  ∙ sym (ap₂ (λ (y u : Bool). cond (x v) y u) (front-value t x hi hi_of) (front-value t x lo lo-of));
            });
      }

  appended_right : (h : ℕ) → Right terms s (Branch v lo hi) (appended s h v lo hi)
  unfolding appended
  appended_right h =
      let ns = s.nodes in
      right-if (ltb (length ns) s.room) _ _
      (λ e.
      right-if (is_above ns v lo) _ _
      (λ p.
      right-if (is_above ns v hi) _ _
      (λ q. added-right h (ltb-true (length ns) s.room e) (above-is ns v lo p) (above-is ns v hi q))
      (λ q. right-here g none no_edge))
      (λ p. right-here g none no_edge))
      (λ e. right-here g none no_edge)

-- ---- a node that the hash lists have

and_left : (a b : Bool) → (a && b) ≡ true → a ≡ true
and_left true b h = refl
and_left false b h = h

and_right : (a b : Bool) → (a && b) ≡ true → b ≡ true
and_right true b h = h
and_right false b h = absurd (let z : ◌≡◌ {A = ℕ} 0 1 = cc in omega arith)

record NodeIs (n : Vertex) (v lo hi : ℕ) : Type 0 where
  lo-is : n.lo ≡ lo
  hi-is : n.hi ≡ hi
  var-is : n.var ≡ v

node-is : (n : Vertex) (v lo hi : ℕ) → is_node n v lo hi ≡ true → NodeIs n v lo hi
unfolding is_node
node-is n v lo hi h =
    let p = and_left (eqb n.lo lo && eqb n.hi hi) (eqb n.var v) h in
    record {
      lo-is = eqb-true n.lo lo (and_left (eqb n.lo lo) (eqb n.hi hi) p);
      hi-is = eqb-true n.hi hi (and_right (eqb n.lo lo) (eqb n.hi hi) p);
      var-is = eqb-true n.var v (and_right (eqb n.lo lo && eqb n.hi hi) (eqb n.var v) h);
    }

-- what the walk finds is the node that was looked for
found-is : (ns : List Vertex) (v lo hi n at : ℕ) → 0 < found ns v lo hi n at → NodeIs (node_at ns (found ns v lo hi n at)) v lo hi
unfolding found
found-is ns v lo hi zero at h = absurd (omega arith)
found-is ns v lo hi (suc n) at h =
    go (eqb at 0) (is_node (node_at ns at) v lo hi) refl (found ns v lo hi n (node_at ns at).next)
    (found-is ns v lo hi n (node_at ns at).next) h
  where
    go : (p q : Bool) → is_node (node_at ns at) v lo hi ≡ q → (r : ℕ) → (0 < r → NodeIs (node_at ns r) v lo hi)
        → 0 < cond p 0 (cond q at r) → NodeIs (node_at ns (cond p 0 (cond q at r))) v lo hi
    go true q e r f l = absurd (omega arith)
    go false true e r f l = node-is (node_at ns at) v lo hi e
    go false false e r f l = f l

module _ (terms : Terms) (s : State) (g : Good terms s) (v lo hi : ℕ) (lo-of : In s.nodes lo) (hi_of : In s.nodes hi)
    (differ : lo ≡ hi → ⊥) where
  found_right : (k : ℕ) → NodeIs (node_at s.nodes k) v lo hi → Right terms s (Branch v lo hi) (outcome s (some (edge_to k)))
  found_right k t = go (ltb k (length s.nodes)) refl
    where
      go : (b : Bool) → ltb k (length s.nodes) ≡ b → Right terms s (Branch v lo hi) (outcome s (some (edge_to k)))
      go true e =
          let u = ltb-true k (length s.nodes) e in
          let z : edge_to k ≡ 2 * k = edge-is k (omega (arith, g.small)) in
          right-here g (some (edge_to k))
          (is-edge
          (record {
            r-in = omega arith;
            same = λ x.
                ap (value s.nodes x) z ∙ value-node s.nodes g.built x k u
                ∙ (λ i. if_else s.nodes (t.var-is i) (t.lo-is i) (t.hi-is i) x);
          }))
      go false e =
          let d : node_at s.nodes k ≡ no_vertex = get_or-eq_default s.nodes no_vertex (ltb-false k (length s.nodes) e) in
          absurd (differ (sym t.lo-is ∙ ap (λ (x : Vertex). x.lo) d ∙ sym (ap (λ (x : Vertex). x.hi) d) ∙ t.hi-is))

  found-or-appended-right : Right terms s (Branch v lo hi) (found_or_appended s v lo hi)
  unfolding found_or_appended
  found-or-appended-right =
      let h = list_of s v lo hi in
      let k = found s.nodes v lo hi (length s.nodes) (get_or s.heads h 0) in
      right-if (ltb 0 k) _ _
      (λ e. found_right k (found-is s.nodes v lo hi (length s.nodes) (get_or s.heads h 0) (ltb-true 0 k e)))
      (λ e. appended_right terms s g v lo hi lo-of hi_of differ h)

signed-twice : (c : ℕ) (p y z : Bool) → signed c (cond p (signed c y) (signed c z)) ≡ cond p y z
signed-twice c p y z = go (eqb (c % 2) 0) p y z
  where
    go : (b p y z : Bool)
        → cond b (cond p (cond b y (not y)) (cond b z (not z))) (not (cond p (cond b y (not y)) (cond b z (not z)))) ≡ cond p y z
    go true p y z = refl
    go false true true z = refl
    go false true false z = refl
    go false false y true = refl
    go false false y false = refl

-- the edge that is made is hi where the variable is true, and lo where it is false
pub made-right : (terms : Terms) (s : State) → Good terms s → (v lo hi : ℕ) → In s.nodes lo → In s.nodes hi
    → Right terms s (Branch v lo hi) (made s v lo hi)
unfolding made
made-right terms s g v lo hi lo-of hi_of =
    let ns = s.nodes in
    let p = flip lo lo in
    let q = flip hi lo in
    right-if (eqb lo hi) _ _
    (λ e.
    let z : lo ≡ hi = eqb-true lo hi e in
    right-here g (some lo)
    (is-edge
    (record {
      r-in = lo-of;
      same = λ x. sym (same-either (x v) (value ns x lo)) ∙ ap (λ (d : ℕ). cond (x v) (value ns x d) (value ns x lo)) z;
    })))
    (λ e.
    let differ = eqb-false lo hi e in
    let o = found_or_appended s v p q in
    let ms = o.state.nodes in
    let r = found-or-appended-right terms s g v p q (flip-in ns lo lo lo-of) (flip-in ns hi lo hi_of)
    (λ z. differ (omega (arith, flip_is lo lo, flip_is hi lo, z))) in
    right-then o (λ t d. outcome t (some (flip d lo))) r
    (λ d b.
    right-here r.good (some (flip d lo))
    (is-edge
    (record {
      r-in = flip-in ms d lo b.r-in;
      same = λ x.
          value-flip ms x d lo
          ∙ ap (signed lo) (b.same x ∙ ap₂ (λ (y z : Bool). cond (x v) y z) (value-flip ms x hi lo) (value-flip ms x lo lo))
          ∙ signed-twice lo (x v) (value ms x hi) (value ms x lo);
    }))))

-- ---- cofactors

-- where an edge leads for the two values of a variable
pub record Cofactors (ns : List Vertex) (v e lo hi : ℕ) : Type 0 where
  pub lo-in : In ns lo
  pub hi-in : In ns hi
  pub same : (x : Assignment) → value ns x e ≡ if_else ns v lo hi x

-- an edge goes along those of its node
pub edge-cofactors : (ns : List Vertex) → Built ns → (e : ℕ) → In ns e → (n : Vertex) → n ≡ node_at ns (e / 2)
    → Cofactors ns n.var e (flip n.lo e) (flip n.hi e)
edge-cofactors ns b e h n q =
    record {
      lo-in = flip-in ns n.lo e (subst (λ (m : Vertex). In ns m.lo) (sym q) (lo-in ns b (e / 2) h));
      hi-in = flip-in ns n.hi e (subst (λ (m : Vertex). In ns m.hi) (sym q) (hi-in ns b (e / 2) h));
      same = λ x. value-edge ns b x e h n q;
    }

pub cofactors-front : {ns ms : List Vertex} {v e lo hi : ℕ} → Front ns ms → In ns e → Cofactors ns v e lo hi → Cofactors ms v e lo hi
cofactors-front {ns} {ms} {v} {e} {lo} {hi} t i p =
    record {
      lo-in = front-in t lo p.lo-in;
      hi-in = front-in t hi p.hi-in;
      same = λ x.
          front-value t x e i ∙ p.same x
          ∙ sym (ap₂ (λ (y z : Bool). cond (x v) y z) (front-value t x hi p.hi-in) (front-value t x lo p.lo-in));
    }

-- ---- looks and the cache

pub paid-nodes : (s : State) (n : ℕ) → (paid s n).nodes ≡ s.nodes
unfolding paid
paid-nodes s n = go (ltb s.looks n)
  where
    go : (b : Bool)
        → (cond b s (record { room = s.room; looks = s.looks - n; nodes = s.nodes; heads = s.heads; cache = s.cache })).nodes ≡ s.nodes
    go true = refl
    go false = refl

pub paid-cache : (s : State) (n : ℕ) → (paid s n).cache ≡ s.cache
unfolding paid
paid-cache s n = go (ltb s.looks n)
  where
    go : (b : Bool)
        → (cond b s (record { room = s.room; looks = s.looks - n; nodes = s.nodes; heads = s.heads; cache = s.cache })).cache ≡ s.cache
    go true = refl
    go false = refl

pub paid-good : {terms : Terms} (s : State) (n : ℕ) → Good terms s → Good terms (paid s n)
unfolding paid
paid-good {terms} s n g = go (ltb s.looks n)
  where
    go : (b : Bool)
        → Good terms (cond b s (record { room = s.room; looks = s.looks - n; nodes = s.nodes; heads = s.heads; cache = s.cache }))
    go true = g
    go false = record { built = g.built; small = g.small; fits = g.fits; vectors-in = g.vectors-in; entries = g.entries }

-- what a look told: nothing, that no look is left, or an edge of which holds what is asked
pub data Told (asked : ℕ → Type 0) : Hint → Type 0 where
  told-edge : {e : ℕ} → asked e → Told asked (Ok (code.Some e))
  told-nothing : Told asked (Ok code.None)
  told-full : Told asked (Err (record {}))

-- the state after a look is good, with the same nodes
pub record RightSeen (terms : Terms) (s : State) (asked : ℕ → Type 0) (x : Seen) : Type 0 where
  pub good : Good terms x.state
  pub same : x.state.nodes ≡ s.nodes
  pub told : Told asked x.hint

pub told-if : {p : ℕ → Type 0} {A : Type 0} (tells : A → Hint) (b : Bool) (x y : A) → (b ≡ true → Told p (tells x))
    → (b ≡ false → Told p (tells y)) → Told p (tells (cond b x y))
told-if tells true x y f g = f refl
told-if tells false x y f g = g refl

-- both ways of a test before a look
pub seen_if : {terms : Terms} {s : State} {p : ℕ → Type 0} (b : Bool) (x y : Seen) → (b ≡ true → RightSeen terms s p x)
    → (b ≡ false → RightSeen terms s p y) → RightSeen terms s p (cond b x y)
seen_if true x y f g = f refl
seen_if false x y f g = g refl

-- an edge that is known without a look
pub seen_here : {terms : Terms} {s : State} {p : ℕ → Type 0} → Good terms s → (e : ℕ) → p e
    → RightSeen terms s p (record { state = s; hint = Ok (code.Some e) })
seen_here g e q = record { good = g; same = refl; told = told-edge q }

-- a look, and what is done where it tells nothing
pub right-else : {terms : Terms} {s : State} {p : List Vertex → ℕ → Type 0} (x : Seen) (k : State → Outcome) → RightSeen terms s
    (p s.nodes) x
    → ((t : State) → Good terms t → t.nodes ≡ s.nodes → Right terms t p (k t)) → Right terms s p (or_else x k)
right-else {terms} {s} {p} x k r f = go r.told
  where
    go : {y : Hint} → Told (p s.nodes) y → Right terms s p (on_hint y x.state k)
    go (told-edge {e} q) =
        right-from r.same
        (right-here r.good (some e) (is-edge (subst (λ (ns : List Vertex). p ns e) (sym r.same) q)))
    go told-nothing = right-from r.same (f x.state r.good r.same)
    go told-full = right-from r.same (right-here r.good none no_edge)

entry-as : (terms : Terms) (ns : List Vertex) {f g h r f' g' h' r' : ℕ} → f' ≡ f → g' ≡ g → h' ≡ h → r' ≡ r → Entry terms ns f g h r
    → Entry terms ns f' g' h' r'
entry-as terms ns {f} {g} {h} {r} {f'} {g'} {h'} {r'} p q t u e =
    subst (λ (x : ℕ). Entry terms ns f' g' h' x) (sym u)
    (subst (λ (x : ℕ). Entry terms ns f' g' x r) (sym t)
    (subst (λ (x : ℕ). Entry terms ns f' x h r) (sym q) (subst (λ (x : ℕ). Entry terms ns x g h r) (sym p) e)))

module _ (terms : Terms) (s : State) (g : Good terms s) (a b c : ℕ) (asked : ℕ → Type 0)
    (has : (r : ℕ) → Entry terms s.nodes a b c r → asked r) where
  entry-told : (i : ℕ) → Told asked (Ok (entry_at s.cache i a b c))
  unfolding entry_at
  entry-told i =
      let l = s.cache in
      let p = eqb (get_or l (4 * i) 0) a in
      let q = eqb (get_or l (4 * i + 1) 0) b in
      let t = eqb (get_or l (4 * i + 2) 0) c in
      told-if Ok (ltb i (length l / 4)) _ _
      (λ e.
      told-if Ok ((p && q) && t) _ _
      (λ d.
      let pq = and_left (p && q) t d in
      told-edge
      (has (get_or l (4 * i + 3) 0)
      (entry-as terms s.nodes (sym (eqb-true (get_or l (4 * i) 0) a (and_left p q pq)))
      (sym (eqb-true (get_or l (4 * i + 1) 0) b (and_right p q pq)))
      (sym (eqb-true (get_or l (4 * i + 2) 0) c (and_right (p && q) t d))) refl (g.entries i (ltb-true i (length l / 4) e)))))
      (λ d. told-nothing))
      (λ e. told-nothing)

  -- what a look for three operands tells is right, where a right entry for them is what is asked
  pub looked_up-right : RightSeen terms s asked (looked_up s a b c)
  unfolding looked_up entry_of
  looked_up-right =
      record {
        good = paid-good s 1 g;
        same = paid-nodes s 1;
        told = told-if (λ h. h) (is_paid s 1) _ _ (λ e. entry-told (place_of s.cache a b c)) (λ e. told-full);
      }

module _ (terms : Terms) (ns : List Vertex) (l : List ℕ) (a b c r : ℕ) (old : Entries terms ns l) (here : Entry terms ns a b c r) (i : ℕ)
    (fits : i < length l / 4) where
  four-right : Entries terms ns (four_set l (4 * i) a b c r)
  four-right j h = go (ℕ_discrete j i)
    where
      at : ℕ
      at = 4 * i

      new : List ℕ
      new = four_set l (4 * i) a b c r

      go : Dec (j ≡ i) → Entry terms ns (get_or new (4 * j) 0) (get_or new (4 * j + 1) 0) (get_or new (4 * j + 2) 0) (get_or new (4 * j + 3) 0)
      go (yes e) =
          let f : 4 * i + 3 < length l = omega arith in
          entry-as terms ns (ap (λ (k : ℕ). get_or new (4 * k) 0) e ∙ four-first l (4 * i) a b c r f)
          (ap (λ (k : ℕ). get_or new (4 * k + 1) 0) e ∙ four-second l (4 * i) a b c r f)
          (ap (λ (k : ℕ). get_or new (4 * k + 2) 0) e ∙ four-third l (4 * i) a b c r f)
          (ap (λ (k : ℕ). get_or new (4 * k + 3) 0) e ∙ four-fourth l (4 * i) a b c r f) here
      go (no e) =
          let n = length-four l (4 * i) a b c r in
          let other : (k : ℕ) → k < 4 → get_or new (4 * j + k) 0 ≡ get_or l (4 * j + k) 0 = λ k q. four-other l (4 * i) a b c r (4 * j + k)
          (away k q) in
          entry-as terms ns (four-other l (4 * i) a b c r (4 * j) first) (other 1 (lit< tt)) (other 2 (lit< tt)) (other 3 (lit< tt))
          (old j (omega arith))
        where
          away : (k : ℕ) → k < 4 → (4 * j + k < 4 * i) ⊎ (4 * i + 3 < 4 * j + k)
          away k q = side (ltb j i) refl
            where
              side : (t : Bool) → ltb j i ≡ t → (4 * j + k < 4 * i) ⊎ (4 * i + 3 < 4 * j + k)
              side true z = inl (omega (arith, ltb-true j i z))
              side false z = inr (let m = ltb-false j i z in let n : (j ≡ i → ⊥) = e in omega arith)

          first : (4 * j < 4 * i) ⊎ (4 * i + 3 < 4 * j)
          first = side (ltb j i) refl
            where
              side : (t : Bool) → ltb j i ≡ t → (4 * j < 4 * i) ⊎ (4 * i + 3 < 4 * j)
              side true z = inl (omega (arith, ltb-true j i z))
              side false z = inr (let m = ltb-false j i z in let n : (j ≡ i → ⊥) = e in omega arith)

stored-right : (terms : Terms) (ns : List Vertex) (l : List ℕ) (i a b c r : ℕ) → Entries terms ns l → Entry terms ns a b c r
    → Entries terms ns (stored l i a b c r)
unfolding stored
stored-right terms ns l i a b c r old here = go (ltb i (length l / 4)) refl
  where
    go : (t : Bool) → ltb i (length l / 4) ≡ t → Entries terms ns (cond t (four_set l (4 * i) a b c r) l)
    go true e = four-right terms ns l a b c r old here i (ltb-true i (length l / 4) e)
    go false e = old

-- a right result may be kept
pub keeping-good : {terms : Terms} (s : State) (a b c r : ℕ) → Good terms s → Entry terms s.nodes a b c r → Good terms
    (keeping s a b c r)
unfolding keeping
keeping-good {terms} s a b c r g e =
    record {
      built = g.built;
      small = g.small;
      fits = g.fits;
      vectors-in = g.vectors-in;
      entries = stored-right terms s.nodes s.cache (place_of s.cache a b c) a b c r g.entries e;
    }

-- the edge of a right outcome, kept
pub remembered-right : {terms : Terms} {s : State} {asked : List Vertex → ℕ → Type 0} (o : Outcome) (a b c : ℕ) → Right terms s asked o
    → ((ms : List Vertex) (r : ℕ) → asked ms r → Entry terms ms a b c r) → Right terms s asked (remembered o a b c)
unfolding remembered keeping
remembered-right {terms} {s} {asked} o a b c r so =
    right-then o (λ t e. outcome (keeping t a b c e) (some e)) r
    (λ e q.
    record {
      good = keeping-good o.state a b c e r.good (so o.state.nodes e q);
      grows = front_same o.state.nodes;
      answer = is-edge q;
    })

-- the node of two results, kept: what is asked follows from its being the branch, in any diagram with more nodes
pub finished-right : (terms : Terms) (s : State) → Good terms s → (v lo hi a b c : ℕ) → In s.nodes lo → In s.nodes hi
    → (asked : List Vertex → ℕ → Type 0)
    → ((ms : List Vertex) → Front s.nodes ms → (r : ℕ) → Branch v lo hi ms r → asked ms r)
    → ((ms : List Vertex) (r : ℕ) → asked ms r → Entry terms ms a b c r)
    → Right terms s asked (finished s v lo hi a b c)
unfolding finished
finished-right terms s good v lo hi a b c lo-of hi_of asked so kept-so =
    let o = made s v lo hi in
    let r = made-right terms s good v lo hi lo-of hi_of in
    remembered-right o a b c (right-as {p = Branch v lo hi} {q = asked} {o = o} (λ e q. so o.state.nodes r.grows e q) r) kept-so
