-- Propagation leaves the claimed words as they are, and what is settled is true in every hit. Assumes nothing.
use mathlib.Core.Bool.{Bool, cond}
use mathlib.Core.List.{List}
use Prim.Native.Nat.{ℕ, zero, suc, ◌+◌, ◌*◌, ◌/◌, ◌≤◌}
use lib.Dec.{eqb, leb}
use Rattle.memory.specs.Record.{undef, field, first_fan, opposite}
use Rattle.memory.specs.declared.Netlist.{Netlist}
use Rattle.memory.specs.declared.Arena.{Arena}
use Rattle.reasons.specs.Claims.{Same, Sound}
use Rattle.reasons.proofs.Valid.{same_refl, same-trans}
use Rattle.resolve.specs.Draft.{started}
use Rattle.resolve.proofs.Sound.{start-sound}
use Rattle.kept.proofs.Sound.{settle-sound}
use Rattle.trail.specs.declared.State.{State}
use Rattle.trail.specs.Trail.{Stood, stood}
use Rattle.trail.proofs.Frame.{same_step}
use Rattle.propagation.specs.Gates.{looked, looked_up}
use Rattle.propagation.proofs.Frame.{look-same, look-up-same}
use Rattle.watches.specs.Watch.{visited}
use Rattle.watches.proofs.Frame.{visit-same}
use Rattle.settling.specs.Settling.{through_gates, through, beyond, followed, propagated, reason_at, settled_one, settled_from}

module _ (net : Netlist) (arena : Arena) (room : 14 * net.nodes + arena.used + 6 * arena.count ≤ net.words) where
  gates-same : (w : List ℕ) (s : State) (l : ℕ) → Same net arena w (through_gates w net s l).words
  unfolding through_gates
  gates-same w s l =
      let t = looked w net s (l / 2) in
      same-trans (look-same net arena room w s (l / 2))
      (look-up-same net arena room t.words t.state (first_fan (field t.words net.nodes (l / 2) 2)) net.nodes)

  through_same : (w : List ℕ) (s : State) (l : ℕ) → Same net arena w (through w net arena s l).words
  unfolding through
  through_same w s l =
      let t = through_gates w net s l in
      let new = visited t.words net arena t.state (opposite l) in
      same_step net arena room w (eqb t.state.clash undef) new t
      (same-trans (gates-same w s l) (visit-same net arena room t.words t.state (opposite l))) (gates-same w s l)

  follow-same : (w : List ℕ) (s : State) → Same net arena w (followed w net arena s).words
  unfolding followed
  follow-same w s = through_same w (beyond s) (field w net.nodes s.next 9)

  pub propagate-same : (w : List ℕ) (s : State) (n : ℕ) → Same net arena w (propagated w net arena s n).words
  unfolding propagated
  propagate-same w s zero = same_refl net arena w
  propagate-same w s (suc n) =
      let t = followed w net arena s in
      let more = propagated t.words net arena t.state n in
      same_step net arena room w (leb s.length s.next) (stood w s) (cond (eqb s.clash undef) more (stood w s)) (same_refl net
      arena w)
      (same_step net arena room w (eqb s.clash undef) more (stood w s)
      (same-trans (follow-same w s) (propagate-same t.words t.state n)) (same_refl net arena w))

module _ (hit : (ℕ → Bool) → Type 0) (net : Netlist) (arena : Arena) where
  pub settle-one-sound : (w : List ℕ) (t : ℕ) → Sound hit net arena w → Sound hit net arena (settled_one w net arena t)
  unfolding settled_one
  settle-one-sound w t sound =
      let s = started w net arena (reason_at w net.nodes t) in
      settle-sound hit net arena s.words s.draft (start-sound hit net arena w (reason_at w net.nodes t) sound)

  pub settle-from-sound : (w : List ℕ) (t k : ℕ) → Sound hit net arena w → Sound hit net arena (settled_from w net arena t k)
  unfolding settled_from
  settle-from-sound w t zero sound = sound
  settle-from-sound w t (suc k) sound = settle-from-sound (settled_one w net arena t) (t + 1) k (settle-one-sound w t sound)
