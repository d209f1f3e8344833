-- Visits leave the claimed words as they are. Assumes nothing.
use mathlib.Core.Bool.{Bool, true, false, cond}
use mathlib.Core.List.{List}
use Prim.Native.Nat.{ℕ, zero, suc, ◌+◌, ◌-◌, ◌*◌, ◌/◌, ◌%◌, ◌≤◌, ◌<◌}
use mathlib.Core.Path.{◌≡◌, refl}
use native.Mathlib.Omega.{arith}
use borrow.Author.Tests.{ltb-true, leb-false}
use lib.Dec.{eqb, leb, ltb}
use Rattle.memory.specs.Record.{undef, head, stored, headed}
use Rattle.memory.specs.declared.Netlist.{Netlist}
use Rattle.memory.specs.declared.Arena.{Arena}
use Rattle.reasons.specs.Claims.{Same}
use Rattle.reasons.proofs.Valid.{same_refl, same-trans, same_cond}
use Rattle.reasons.proofs.Frame.{stored_same, headed-same}
use Rattle.kept.proofs.Sound.{attach-same}
use Rattle.trail.specs.declared.State.{State}
use Rattle.trail.specs.Trail.{Stood, stood, value, assigned}
use Rattle.trail.proofs.Frame.{same_step, assign-same}
use Rattle.watches.proofs.Turns.{side-two}
use Rattle.std.specs.Prelude.{Option, Some, None}
use Rattle.watches.specs.Watch.{side, partner, following, found, linked, at, passed, rewatched, clashed, closed, chosen, turned_by, turned, stepped, walked, first, visited}

module _ (net : Netlist) (arena : Arena) (room : 14 * net.nodes + arena.used + 6 * arena.count ≤ net.words) where
  link-same : (w : List ℕ) (f from x : ℕ) → Same net arena w (linked w net arena f from x)
  unfolding linked
  link-same w f from x = go (ltb (from / 2) arena.count) refl
    where
      go : (b : Bool) → ltb (from / 2) arena.count ≡ b
          → Same net arena w
          (cond b (cond (eqb (from % 2) 0) (headed w net.words (from / 2) 2 x) (headed w net.words (from / 2) 3 x))
          (cond (eqb (f % 2) 0) (stored w net.nodes (f / 2) 7 x) (stored w net.nodes (f / 2) 8 x)))
      go true e =
          let l = ltb-true (from / 2) arena.count e in
          same_cond w (headed w net.words (from / 2) 2 x) (headed w net.words (from / 2) 3 x) (eqb (from % 2) 0)
          (headed-same net arena w room (from / 2) 2 x l (omega arith) (omega arith)) (headed-same net arena w room (from / 2) 3 x l (omega arith) (omega arith))
      go false e =
          same_cond w (stored w net.nodes (f / 2) 7 x) (stored w net.nodes (f / 2) 8 x) (eqb (f % 2) 0)
          (stored_same net arena w room (f / 2) 7 x (omega arith) (omega arith)) (stored_same net arena w room (f / 2) 8 x (omega arith) (omega arith))

  close-same : (w : List ℕ) (t : State) (o s : ℕ) → Same net arena w (closed w net t o s).words
  unfolding closed
  close-same w t o s =
      same_step net arena room w (eqb (value w net.nodes o) 0) (stood w (clashed t (4 * t.clause + 3)))
      (assigned w net (passed w net.words t s) o (4 * t.clause + 3)) (same_refl net arena w)
      (assign-same net arena room w (passed w net.words t s) o (4 * t.clause + 3))

  rewatch-same : (w : List ℕ) (t : State) (f s x : ℕ) → t.clause < arena.count → s < 2 → Same net arena w (rewatched w net arena t f s x).words
  unfolding rewatched
  rewatch-same w t f s x l h =
      let next = following w net.words t.clause s in
      same-trans (link-same w f t.link next) (attach-same net arena room (linked w net arena f t.link next) t.clause s x l h)

  turn-same : (w : List ℕ) (t : State) (f s : ℕ) → t.clause < arena.count → s < 2 → Same net arena w (turned w net arena t f s).words
  unfolding turned turned_by chosen
  turn-same w t f s l h =
      let o = partner w net.words t.clause s in
      let x = found w net t.clause o (head w net.words t.clause 1 % 1048576) in
      same_step net arena room w (eqb (value w net.nodes o) 1) (stood w (passed w net.words t s)) (chosen w net arena t f s o x)
      (same_refl net arena w) (go o x)
    where
      go : (o : ℕ) (x : Option ℕ) → Same net arena w (chosen w net arena t f s o x).words
      go o (Some x) = rewatch-same w t f s x l h
      go o None = close-same w t o s

  step_same : (w : List ℕ) (t : State) (f : ℕ) → Same net arena w (stepped w net arena t f).words
  unfolding stepped
  step_same w t f = go (leb arena.count t.clause) refl (leb 1073741823 t.clause) (eqb t.clash undef)
    where
      go : (a : Bool) → leb arena.count t.clause ≡ a → (b c : Bool)
          → Same net arena w
          (cond a (stood w t) (cond b (stood w t) (cond c (turned w net arena t f (side w net.words t.clause f)) (stood w t)))).words
      go true e b c = same_refl net arena w
      go false e true c = same_refl net arena w
      go false e false false = same_refl net arena w
      go false e false true =
          turn-same w t f (side w net.words t.clause f) (leb-false arena.count t.clause e) (side-two w net.words t.clause f)

  walk_same : (w : List ℕ) (t : State) (f n : ℕ) → Same net arena w (walked w net arena t f n).words
  unfolding walked
  walk_same w t f zero = same_refl net arena w
  walk_same w t f (suc n) =
      let s = stepped w net arena t f in
      same_step net arena room w (leb arena.count t.clause) (stood w t) (walked s.words net arena s.state f n) (same_refl net arena w)
      (same-trans (step_same w t f) (walk_same s.words s.state f n))

  pub visit-same : (w : List ℕ) (t : State) (f : ℕ) → Same net arena w (visited w net arena t f).words
  unfolding visited
  visit-same w t f = walk_same w (at t (first w net.nodes f) undef) f arena.count
