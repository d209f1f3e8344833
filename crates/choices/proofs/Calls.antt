-- Steps that end in a call, by the values that the call is given. Assumes nothing.
use mathlib.Core.Path.{◌≡◌, refl, sym, ap, ◌∙◌, subst}
use mathlib.Core.Bool.{Bool, true, false, cond}
use mathlib.Core.List.{List}
use Prim.Native.Nat.{ℕ, ◌+◌, ◌-◌, ◌*◌, ◌%◌, ◌≤◌, ◌<◌}
use borrow.Author.Tests.{eq-eqb, ne_eqb, lt-ltb, le-ltb}
use lib.Dec.{eqb, ltb}
use Rattle.memory.specs.Record.{opposite}
use Rattle.memory.specs.declared.Netlist.{Netlist}
use Rattle.memory.specs.declared.Draft.{Draft}
use Rattle.memory.specs.declared.Heap.{Heap}
use Rattle.analysis.specs.Analysis.{expanded_all}
use Rattle.floor.specs.declared.Refutation.{Refutation}
use Rattle.floor.specs.Place.{refuted}
use Rattle.trail.specs.Trail.{value}
use Rattle.heap.specs.Heap.{node_at, skimmed}
use Rattle.learning.specs.declared.Order.{Order}
use Rattle.learning.specs.declared.Search.{Search}
use Rattle.learning.specs.Learning.{with_heap, with_order, retreated}
use Rattle.choices.specs.Choices.{agreed, with_verdict, with_agreed, ended, explained, less, smaller, concluded, contradicted, contradicted_at_zero, taken, assumed, ordered, changed, modelled, decided_active, decided_next, chosen}

module _ (s : Search) where
  pub ended_by : (x : ℕ) {o : Order} {t : Search} → o ≡ with_verdict s.order x → t ≡ with_order s o → t ≡ ended s x
  ended_by x e f = f ∙ ap (with_order s) e

  pub agreed-by : (i : ℕ) {k m : ℕ} {o : Order} {t : Search} → k ≡ less i → m ≡ smaller s.order.agreed k → o ≡ with_agreed s.order m
      → t ≡ with_order s o → t ≡ with_order s (with_agreed s.order (smaller s.order.agreed (less i)))
  agreed-by i a b c e =
      e ∙ ap (with_order s) c ∙ ap (λ (v : ℕ). with_order s (with_agreed s.order v)) (b ∙ ap (smaller s.order.agreed) a)

module _ (w : List ℕ) (net : Netlist) (s : Search) where
  pub contradicted-by : (l : ℕ) {w1 w2 : List ℕ} {d : Draft} {i : Refutation} → w1 ≡ (explained w net s l).words → d ≡ (explained w net s l
      ).draft
      → w2 ≡ (refuted w1 net s.arena d).words → i ≡ (refuted w1 net s.arena d).says → concluded w2 net s i ≡ contradicted w net s l
  unfolding contradicted
  contradicted-by l a b c e = rw (e, c, b, a)

  pub zero-by : (r : ℕ) {w1 w2 : List ℕ} {d : Draft} {i : Refutation} → w1 ≡ (expanded_all w net s.arena r s.trail.length).words
      → d ≡ (expanded_all w net s.arena r s.trail.length).draft → w2 ≡ (refuted w1 net s.arena d).words
      → i ≡ (refuted w1 net s.arena d).says → concluded w2 net s i ≡ contradicted_at_zero w net s r
  unfolding contradicted_at_zero
  zero-by r a b c e = rw (e, c, b, a)

  pub changed-by : (sweep : Bool) (goal more : ℕ) {o : Order} {t : Search} → o ≡ ordered s.order sweep goal more → t ≡ with_order s o
      → retreated w net t 0 ≡ changed w net s sweep goal more
  unfolding changed
  changed-by sweep goal more e f = ap (λ (t : Search). retreated w net t 0) (f ∙ ap (with_order s) e)

  module _ {w1 : List ℕ} {g : Heap} {t : Search} (a : w1 ≡ (skimmed w net.nodes s.heap s.heap.size).words)
      (b : g ≡ (skimmed w net.nodes s.heap s.heap.size).heap) (f : t ≡ with_heap s g) where
    pub active-none : g.size ≡ 0 → modelled w1 net t ≡ decided_active w net s
    unfolding decided_active
    active-none e =
        let h = skimmed w net.nodes s.heap s.heap.size in
        let z : h.heap.size ≡ 0 = ap (λ (x : Heap). x.size) (sym b) ∙ e in
        rw (eq-eqb h.heap.size 0 z, f, b, a)

    pub active-some : {v : ℕ} → (g.size ≡ 0 → ⊥) → v ≡ node_at w1 net.nodes 0 → taken w1 net t (2 * (v % 65536) + 1) ≡ decided_active w net s
    unfolding decided_active
    active-some n e =
        let h = skimmed w net.nodes s.heap s.heap.size in
        let z : (h.heap.size ≡ 0 → ⊥) = λ y. n (ap (λ (x : Heap). x.size) b ∙ y) in
        rw (ne_eqb h.heap.size 0 z, e, f, b, a)

  module _ (end : ℕ) {k : ℕ} {o : Order} {t : Search} (a : k ≡ agreed w net.nodes s.order.agreed (end - s.order.agreed))
      (b : o ≡ with_agreed s.order k) (f : t ≡ with_order s o) where
    pub next-some : k < end → assumed w net t (k + 1) ≡ decided_next w net s end
    unfolding decided_next
    next-some l =
        let c = agreed w net.nodes s.order.agreed (end - s.order.agreed) in
        let z : c < end = subst (λ (x : ℕ). x < end) a l in
        rw (lt-ltb c end z, f, b, a)

    pub next-none : end ≤ k → decided_active w net t ≡ decided_next w net s end
    unfolding decided_next
    next-none l =
        let c = agreed w net.nodes s.order.agreed (end - s.order.agreed) in
        let z : end ≤ c = subst (λ (x : ℕ). end ≤ x) a l in
        rw (le-ltb c end z, f, b, a)

  module _ {x : ℕ} (a : x ≡ value w net.nodes net.root) (two : x ≡ 2 → ⊥) (zero : x ≡ 0 → ⊥) where
    chosen-next : chosen w net s ≡ cond s.order.sweep (decided_next w net s net.free) (decided_next w net s s.order.goal)
    unfolding chosen
    chosen-next =
        let y = value w net.nodes net.root in
        let rest = cond s.order.sweep (decided_next w net s net.free) (decided_next w net s s.order.goal) in
        let low = contradicted w net s (opposite net.root) in
        ap (λ (b : Bool). cond b (taken w net s net.root) (cond (eqb y 0) low rest)) (ne_eqb y 2 (λ e. two (a ∙ e)))
        ∙ ap (λ (b : Bool). cond b low rest) (ne_eqb y 0 (λ e. zero (a ∙ e)))

    pub chosen-sweep : s.order.sweep ≡ true → chosen w net s ≡ decided_next w net s net.free
    chosen-sweep e =
        chosen-next ∙ ap (λ (b : Bool). cond b (decided_next w net s net.free) (decided_next w net s s.order.goal)) e

    pub chosen-free : s.order.sweep ≡ false → chosen w net s ≡ decided_next w net s s.order.goal
    chosen-free e =
        chosen-next ∙ ap (λ (b : Bool). cond b (decided_next w net s net.free) (decided_next w net s s.order.goal)) e
