-- What a search knows stays known through each step of learning: the clause that is kept, or the literal that is fixed, holds in every hit,
-- whatever trail, levels, reasons and heap say. Assumes nothing.
use mathlib.Core.Path.{◌≡◌, refl}
use mathlib.Core.Bool.{Bool, true, false, cond}
use mathlib.Core.List.{List}
use Prim.Native.Nat.{ℕ, zero, suc, ◌+◌, ◌-◌, ◌*◌, ◌≤◌, ◌<◌}
use native.Mathlib.Omega.{arith}
use borrow.Author.Tests.{eqb-false}
use lib.Dec.{eqb, leb, ltb}
use lib.ListN.{length}
use Rattle.memory.specs.Record.{undef}
use Rattle.memory.specs.declared.Netlist.{Netlist}
use Rattle.memory.specs.declared.Arena.{Arena}
use Rattle.memory.specs.declared.Draft.{Draft}
use Rattle.reasons.specs.Claims.{Same, Sound}
use Rattle.reasons.proofs.Valid.{same-trans}
use Rattle.resolve.specs.Draft.{started, draft_at}
use Rattle.resolve.proofs.Sound.{Drafting, start-sound}
use Rattle.analysis.specs.Analysis.{analysed}
use Rattle.analysis.proofs.Sound.{analyse-sound}
use Rattle.kept.specs.Kept.{arena_of, settled, kept, attached, detached}
use Rattle.kept.proofs.Sound.{settle-sound, keep-sound, drop-sound, attach-same, detach-same}
use Rattle.trail.specs.Trail.{assigned, backtracked}
use Rattle.trail.proofs.Frame.{assign-same, backtrack-same}
use Rattle.heap.specs.Heap.{restored, cooled}
use Rattle.heap.proofs.Frame.{restore_same, cool-same}
use Rattle.settling.specs.Settling.{reason_at, settled_one, settled_from}
use Rattle.settling.proofs.Sound.{settle-one-sound, settle-from-sound}
use Rattle.learning.specs.declared.Search.{Search}
use Rattle.learning.specs.Learning.{Searched, searched, with_arena, with_heap, with_order, all_settled, retreated, settled_level}
use Rattle.learning.specs.Learning.{forgotten, asserted, target, watched, installed, highest, kept_by, kept_clause, kept_literal}
use Rattle.learning.specs.Learning.{stored_clause, trail_of, learnt}
use Rattle.learning.proofs.Keeps.{Keeps, keeps-refl, keeps-trans, start-keeps, settle-keeps, keep-keeps, analyse-keeps}
use Rattle.learning.proofs.Standing.{Standing, stand-on, stand-same}

module _ (hit : (ℕ → Bool) → Type 0) (hits : ℕ → Type 0) (net : Netlist) (begun : List ℕ) where
  -- the search goes on, and knows what it knew
  abbrev pub Stands : Searched → Type 0
  Stands t = Standing hit hits net begun t.search.arena t.words × (t.search.order.verdict ≡ 0)

  pub either : (b : Bool) (s t : Searched) → Stands s → Stands t → Stands (cond b s t)
  either true s t p q = p
  either false s t p q = q

  pub retreat-stands : (w : List ℕ) (s : Search) (to : ℕ) → Stands (searched w s) → Stands (retreated w net s to)
  unfolding retreated
  retreat-stands w s to given =
      let room = given.0.sound.room in
      let b = backtracked w net s.trail to in (
        stand-same hit hits net begun given.0
            (same-trans (backtrack-same net s.arena room w s.trail to)
            (restore_same net s.arena room b.words s.heap b.state.length s.trail.length)),
        given.1,
      )

  settle-one-keeps : (arena : Arena) (w : List ℕ) (t : ℕ) → Sound hit net arena w → Keeps net w (settled_one w net arena t)
  unfolding settled_one
  settle-one-keeps arena w t sound =
      let r = reason_at w net.nodes t in
      let s = started w net arena r in
      let after = (start-sound hit net arena w r sound).sound in
      keeps-trans net (start-keeps net arena w r)
      (settle-keeps net s.words (omega (arith, after.room, after.within)) arena s.draft)

  settle-from-keeps : (arena : Arena) (w : List ℕ) (t k : ℕ) → Sound hit net arena w → Keeps net w (settled_from w net arena t k)
  unfolding settled_from
  settle-from-keeps arena w t zero sound = keeps-refl net w
  settle-from-keeps arena w t (suc k) sound =
      keeps-trans net (settle-one-keeps arena w t sound)
      (settle-from-keeps arena (settled_one w net arena t) (t + 1) k (settle-one-sound hit net arena w t sound))

  pub settle-level-stands : (w : List ℕ) (s : Search) → Stands (searched w s) → Stands (settled_level w net s)
  unfolding settled_level
  settle-level-stands w s given =
      let from = s.order.settled in
      let k = s.trail.length - from in
      either (eqb s.trail.level 0)
      (searched (settled_from w net s.arena from k) (with_order s (all_settled s.order s.trail.length))) (searched w s) (
        stand-on hit hits net begun given.0 (settle-from-keeps s.arena w from k given.0.sound)
            (settle-from-sound hit net s.arena w from k given.0.sound),
        given.1,
      )
      given

  pub forget-stands : (w : List ℕ) (s : Search) → Stands (searched w s) → Stands (forgotten w net s)
  unfolding forgotten
  forget-stands w s given =
      let a = retreated w net s 0 in
      let b = settled_level a.words net a.search in
      let c = settle-level-stands a.words a.search (retreat-stands w s 0 given) in
      let d = drop-sound hit net b.search.arena b.words c.0.sound in (
        stand-same hit hits net begun (stand-on hit hits net begun c.0 (keeps-refl net b.words) d)
            (detach-same net (arena_of 0 0) d.room b.words net.nodes),
        c.1,
      )

  pub assert-stands : (w : List ℕ) (s : Search) (l why : ℕ) → Stands (searched w s) → Stands (asserted w net s l why)
  unfolding asserted
  assert-stands w s l why given =
      (stand-same hit hits net begun given.0 (assign-same net s.arena given.0.sound.room w s.trail l why), given.1)

  watch-stands : (w : List ℕ) (s : Search) (l o : ℕ) → Stands (searched w s) → Stands (watched w net s l o)
  unfolding watched
  watch-stands w s l o given = go (eqb s.arena.count 0) refl (leb 1073741823 s.arena.count)
    where
      go : (a : Bool) → eqb s.arena.count 0 ≡ a → (b : Bool)
          → Stands
          (cond a (searched w s)
          (cond b (searched w s)
          (asserted (attached (attached w net (s.arena.count - 1) 0 l) net (s.arena.count - 1) 1 o) net s l (4 * (s.arena.count - 1) + 3))))
      go true e b = given
      go false e true = given
      go false e false =
          let n = eqb-false s.arena.count 0 e in
          let c = s.arena.count - 1 in
          let small : c < s.arena.count = last s.arena.count n in
          let room = given.0.sound.room in
          let u = attached w net c 0 l in
          assert-stands (attached u net c 1 o) s l (4 * c + 3) (
            stand-same hit hits net begun given.0
                (same-trans (attach-same net s.arena room w c 0 l small (omega arith)) (attach-same net s.arena room u c 1 o small (omega arith))),
            given.1,
          )
        where
          last : (k : ℕ) → (k ≡ 0 → ⊥) → k - 1 < k
          last k n = omega arith

  install-stands : (w : List ℕ) (s : Search) (l o old : ℕ) → Stands (searched w s) → Stands (installed w net s l o old)
  unfolding installed
  install-stands w s l o old given =
      either (eqb s.arena.count old) (forgotten w net s) (watched w net s l o) (forget-stands w s given) (watch-stands w s l o given)

  module _ (w : List ℕ) (s : Search) (d : Draft) (draft : Drafting hit net s.arena w d) (given : Stands (searched w s)) where
    keep-clause-stands : Stands (kept_clause w net s d)
    unfolding kept_clause kept_by
    keep-clause-stands =
        let h = highest w net s.arena d.length in
        let k = kept w net s.arena d 0 in
        let to = target w net.nodes h.second s.trail.level in
        let u = retreated k.words net (with_arena s k.arena) to in
        install-stands u.words u.search h.first h.second s.arena.count
        (retreat-stands k.words (with_arena s k.arena) to
        (stand-on hit hits net begun given.0 (keep-keeps net s.arena w d 0) (keep-sound hit net s.arena w d 0 draft), given.1))

    keep-literal-stands : Stands (kept_literal w net s d)
    unfolding kept_literal
    keep-literal-stands =
        let u = settled w net s.arena d in
        let r = retreated u net s 0 in
        let long : 14 * net.nodes ≤ length w = omega (arith, given.0.sound.room, given.0.sound.within) in
        assert-stands r.words r.search (draft_at w net s.arena 0) undef
        (retreat-stands u s 0
        (stand-on hit hits net begun given.0 (settle-keeps net w long s.arena d) (settle-sound hit net s.arena w d draft), given.1))

    store-stands : Stands (stored_clause w net s d)
    unfolding stored_clause
    store-stands =
        let f = forgotten w net s in
        let g = forget-stands w s given in
        let c = kept_clause w net s d in
        let l = kept_literal w net s d in
        either d.whole (cond (eqb d.length 1) l (cond (ltb 1 d.length) c f)) f
        (either (eqb d.length 1) l (cond (ltb 1 d.length) c f) keep-literal-stands (either (ltb 1 d.length) c f keep-clause-stands g)) g

  pub learn-stands : (w : List ℕ) (s : Search) (r : ℕ) → Stands (searched w s) → Stands (learnt w net s r)
  unfolding learnt
  learn-stands w s r given =
      let h = cooled w net.nodes s.heap in
      let t = trail_of s.trail in
      let a = analysed h.words net s.arena t r h.heap.step in
      let one = stand-same hit hits net begun given.0 (cool-same net s.arena given.0.sound.room w s.heap) in
      let draft = analyse-sound hit net s.arena h.words t r h.heap.step one.sound in
      store-stands a.words (with_heap s h.heap) a.draft draft
      (stand-on hit hits net begun one (analyse-keeps net s.arena h.words t r h.heap.step) draft.sound, given.1)
