-- Steps that end in a call, by the values that the call is given. Assumes nothing.
use mathlib.Core.Path.{◌≡◌, refl, ap, ◌∙◌}
use mathlib.Core.Bool.{Bool, true, cond}
use mathlib.Core.List.{List}
use Prim.Native.Nat.{ℕ, ◌<◌}
use borrow.Author.Tests.{eq-eqb, ne_eqb, lt-ltb}
use lib.Dec.{eqb, ltb}
use Rattle.memory.specs.declared.Netlist.{Netlist}
use Rattle.memory.specs.declared.Arena.{Arena}
use Rattle.memory.specs.declared.Draft.{Draft}
use Rattle.memory.specs.declared.Heap.{Heap}
use Rattle.analysis.specs.Analysis.{analysed}
use Rattle.kept.specs.Kept.{kept}
use Rattle.heap.specs.Heap.{cooled}
use Rattle.learning.specs.declared.Search.{Search}
use Rattle.learning.specs.declared.TopTwo.{TopTwo}
use Rattle.learning.specs.Learning.{with_arena, with_heap, retreated, forgotten, highest, target, installed, kept_by, kept_clause}
use Rattle.learning.specs.Learning.{kept_literal, stored_clause, trail_of, learnt}

module _ (w : List ℕ) (net : Netlist) (s : Search) where
  pub learnt-by : (r : ℕ) {w1 w2 : List ℕ} {g : Heap} {d : Draft} {t : Search} → w1 ≡ (cooled w net.nodes s.heap).words
      → g ≡ (cooled w net.nodes s.heap).heap → w2 ≡ (analysed w1 net s.arena (trail_of s.trail) r g.step).words
      → d ≡ (analysed w1 net s.arena (trail_of s.trail) r g.step).draft → t ≡ with_heap s g → stored_clause w2 net t d ≡ learnt w net s r
  unfolding learnt
  learnt-by r a b c e f = rw (f, e, c, b, a)

  pub kept_by_lem : (d : Draft) {h : TopTwo} {to : ℕ} {b : Arena} {w1 w2 : List ℕ} {t u : Search} → h ≡ highest w net s.arena d.length
      → to ≡ target w net.nodes h.second s.trail.level → w1 ≡ (kept w net s.arena d 0).words
      → b ≡ (kept w net s.arena d 0).arena → t ≡ with_arena s b → w2 ≡ (retreated w1 net t to).words → u ≡ (retreated w1 net t to).search
      → installed w2 net u h.first h.second s.arena.count ≡ kept_clause w net s d
  unfolding kept_clause kept_by
  kept_by_lem d e1 e3 e4 e5 e6 e7 e8 = rw (e8, e7, e6, e5, e4, e3, e1)

  pub store-literal : (d : Draft) → d.whole ≡ true → d.length ≡ 1 → stored_clause w net s d ≡ kept_literal w net s d
  unfolding stored_clause
  store-literal d e f =
      let c = cond (ltb 1 d.length) (kept_clause w net s d) (forgotten w net s) in
      ap (λ (b : Bool). cond b (cond (eqb d.length 1) (kept_literal w net s d) c) (forgotten w net s)) e
      ∙ ap (λ (b : Bool). cond b (kept_literal w net s d) c) (eq-eqb d.length 1 f)

  pub store-clause : (d : Draft) → d.whole ≡ true → (d.length ≡ 1 → ⊥) → 1 < d.length → stored_clause w net s d ≡ kept_clause w net s d
  unfolding stored_clause
  store-clause d e f g =
      let c = cond (ltb 1 d.length) (kept_clause w net s d) (forgotten w net s) in
      ap (λ (b : Bool). cond b (cond (eqb d.length 1) (kept_literal w net s d) c) (forgotten w net s)) e
      ∙ ap (λ (b : Bool). cond b (kept_literal w net s d) c) (ne_eqb d.length 1 f)
      ∙ ap (λ (b : Bool). cond b (kept_clause w net s d) (forgotten w net s)) (lt-ltb 1 d.length g)
