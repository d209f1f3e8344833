-- Steps that end in a call, by the values that the call is given. Assumes nothing.
use mathlib.Core.Path.{◌≡◌, sym, ap, ◌∙◌}
use mathlib.Core.Bool.{Bool, true, false, cond}
use mathlib.Core.List.{List}
use Prim.Native.Nat.{ℕ, ◌<◌}
use borrow.Author.Tests.{ne_eqb, lt-leb}
use Rattle.memory.specs.declared.Netlist.{Netlist}
use Rattle.memory.specs.declared.Heap.{Heap}
use Rattle.trail.specs.declared.State.{State}
use Rattle.heap.specs.Heap.{heap_of}
use Rattle.settling.specs.Settling.{propagated}
use Rattle.learning.specs.declared.Order.{Order}
use Rattle.learning.specs.declared.Search.{Search}
use Rattle.learning.specs.Learning.{searched, with_order, settled_level, learnt}
use Rattle.choices.specs.Choices.{changed, chosen}
use Rattle.conflicts.specs.declared.Verdict.{Verdict}
use Rattle.conflicts.specs.Conflicts.{prepared, filled, initial, sum, work_of, counted, followed, relieved, doubled, alternated, repaired, extended, steps, verdict_of, ran}

module _ (w : List ℕ) (net : Netlist) (s : Search) where
  pub followed-by : {w1 : List ℕ} {u : State} {n : ℕ} {o : Order} → w1 ≡ (propagated w net s.arena s.trail net.nodes).words
      → u ≡ (propagated w net s.arena s.trail net.nodes).state → n ≡ work_of s.trail.next u.next → o ≡ counted s.order n
      → searched w1 (record { trail = u; arena = s.arena; heap = s.heap; order = o }) ≡ followed w net s
  unfolding followed
  followed-by a b c e = rw (e, c, b, a)

  pub alternated-free : {d : Order} {t : Search} → s.order.slice < s.order.ticks → s.order.sweep ≡ true → d ≡ doubled s.order
      → t ≡ with_order s d → alternated w net s ≡ changed w net t false s.order.goal d.span
  unfolding alternated
  alternated-free {d} {t} l e f g =
      let x = sum s.order.span s.order.span in
      let a = changed w net (with_order s (doubled s.order)) false s.order.goal x in
      let b = changed w net s true s.order.goal (sum x x) in
      ap (λ (c : Bool). cond c (searched w s) (cond s.order.sweep a b)) (lt-leb s.order.ticks s.order.slice l)
      ∙ ap (λ (c : Bool). cond c a b) e
      ∙ ap (λ (y : Order). changed w net (with_order s y) false s.order.goal y.span) (sym f)
      ∙ ap (λ (y : Search). changed w net y false s.order.goal d.span) (sym g)

  pub alternated-sweep : {x y z : ℕ} → s.order.slice < s.order.ticks → s.order.sweep ≡ false → x ≡ sum s.order.span s.order.span
      → y ≡ sum s.order.span s.order.span → z ≡ sum x y → alternated w net s ≡ changed w net s true s.order.goal z
  unfolding alternated
  alternated-sweep {x} {y} {z} l e f g h =
      let v = sum s.order.span s.order.span in
      let a = changed w net (with_order s (doubled s.order)) false s.order.goal v in
      let b = changed w net s true s.order.goal (sum v v) in
      ap (λ (c : Bool). cond c (searched w s) (cond s.order.sweep a b)) (lt-leb s.order.ticks s.order.slice l)
      ∙ ap (λ (c : Bool). cond c a b) e
      ∙ ap (λ (k : ℕ). changed w net s true s.order.goal (sum k v)) (sym f)
      ∙ ap (λ (k : ℕ). changed w net s true s.order.goal (sum x k)) (sym g)
      ∙ ap (changed w net s true s.order.goal) (sym h)

  pub repaired-by : {w1 w2 : List ℕ} {u v : Search} → (s.trail.level ≡ 0 → ⊥) → w1 ≡ (learnt w net s s.trail.clash).words
      → u ≡ (learnt w net s s.trail.clash).search → w2 ≡ (relieved w1 net u).words → v ≡ (relieved w1 net u).search
      → alternated w2 net v ≡ repaired w net s
  unfolding repaired
  repaired-by n a b c e = rw (ne_eqb s.trail.level 0 n, e, c, b, a)

  pub extended-by : {w1 : List ℕ} {u : Search} → w1 ≡ (settled_level w net s).words → u ≡ (settled_level w net s).search
      → chosen w1 net u ≡ extended w net s
  unfolding extended
  extended-by a b = rw (b, a)

pub ran-by : (w : List ℕ) (net : Netlist) (effort : ℕ) {w1 w2 w3 : List ℕ} {h : Heap} {s t : Search} {v : Verdict} → w1 ≡ prepared w net
    → w2 ≡ (filled w1 net (heap_of 0 1024) 1 net.free).words → h ≡ (filled w1 net (heap_of 0 1024) 1 net.free).heap → s ≡ initial h
    → w3 ≡ (steps w2 net s effort effort).words → t ≡ (steps w2 net s effort effort).search → v ≡ verdict_of t.order.verdict t.order.ticks
    → record { words = w3; verdict = v } ≡ ran w net effort
unfolding ran
ran-by w net effort a b c d e f g = rw (g, f, e, d, c, b, a)
