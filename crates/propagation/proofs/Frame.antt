-- Propagation leaves the claimed words as they are. Assumes nothing.
use mathlib.Core.Bool.{Bool, cond}
use mathlib.Core.List.{List}
use Prim.Native.Nat.{ℕ, zero, suc, ◌+◌, ◌-◌, ◌*◌, ◌/◌, ◌≤◌}
use lib.Dec.{eqb, leb}
use Rattle.memory.specs.Record.{undef, field, opposite}
use Rattle.memory.specs.declared.Netlist.{Netlist}
use Rattle.memory.specs.declared.Arena.{Arena}
use Rattle.reasons.specs.Claims.{Same}
use Rattle.reasons.proofs.Valid.{same_refl, same-trans}
use Rattle.std.specs.Prelude.{Option, Some, None}
use Rattle.propagation.specs.declared.Consequence.{Consequence}
use Rattle.propagation.specs.declared.Consequence.TheVariants.{LeftViolated, RightViolated, BothViolated, LeftTrue, RightTrue, RightFalse, LeftFalse, FalseByLeft, FalseByRight, True}
use Rattle.trail.specs.declared.State.{State}
use Rattle.trail.specs.Trail.{stood, value, assigned}
use Rattle.trail.proofs.Frame.{same_step, assign-same}
use Rattle.propagation.specs.Gates.{rule, applied, followed, looked, next_fan, looked_up}

module _ (net : Netlist) (arena : Arena) (room : 14 * net.nodes + arena.used + 6 * arena.count ≤ net.words) where
  apply-same : (w : List ℕ) (s : State) (g : ℕ) (r : Consequence) → Same net arena w (applied w net s g r).words
  unfolding applied
  apply-same w s g LeftViolated = same_refl net arena w
  apply-same w s g RightViolated = same_refl net arena w
  apply-same w s g BothViolated = same_refl net arena w
  apply-same w s g LeftTrue = assign-same net arena room w s (field w net.nodes g 0) (4 * g)
  apply-same w s g RightTrue = assign-same net arena room w s (field w net.nodes g 1) (4 * g + 1)
  apply-same w s g RightFalse = assign-same net arena room w s (opposite (field w net.nodes g 1)) (4 * g + 2)
  apply-same w s g LeftFalse = assign-same net arena room w s (opposite (field w net.nodes g 0)) (4 * g + 2)
  apply-same w s g FalseByLeft = assign-same net arena room w s (2 * g + 1) (4 * g)
  apply-same w s g FalseByRight = assign-same net arena room w s (2 * g + 1) (4 * g + 1)
  apply-same w s g True = assign-same net arena room w s (2 * g) (4 * g + 2)

  follow-same : (w : List ℕ) (s : State) (g : ℕ) (r : Option Consequence) → Same net arena w (followed w net s g r).words
  unfolding followed
  follow-same w s g None = same_refl net arena w
  follow-same w s g (Some r) = apply-same w s g r

  pub look-same : (w : List ℕ) (s : State) (g : ℕ) → Same net arena w (looked w net s g).words
  unfolding looked
  look-same w s g =
      let r =
      rule (value w net.nodes (2 * g)) (value w net.nodes (field w net.nodes g 0)) (value w net.nodes (field w net.nodes g 1)) in
      same_step net arena room w (leb 1073741823 g) (stood w s) (followed w net s g r) (same_refl net arena w) (follow-same w s g r)

  pub look-up-same : (w : List ℕ) (s : State) (e n : ℕ) → Same net arena w (looked_up w net s e n).words
  unfolding looked_up
  look-up-same w s e zero = same_refl net arena w
  look-up-same w s e (suc n) =
      let t = looked w net s (e / 2) in
      let more = looked_up t.words net t.state (next_fan w net.nodes e) n in
      same_step net arena room w (eqb e 0) (stood w s) (cond (eqb s.clash undef) more (stood w s)) (same_refl net arena w)
      (same_step net arena room w (eqb s.clash undef) more (stood w s)
      (same-trans (look-same w s (e / 2)) (look-up-same t.words t.state (next_fan w net.nodes e) n)) (same_refl net arena w))
