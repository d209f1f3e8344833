-- Steps of the trail leave the claimed words as they are. Assumes nothing.
use mathlib.Core.Bool.{Bool, true, false, cond}
use mathlib.Core.List.{List}
use Prim.Native.Nat.{ℕ, zero, suc, ◌+◌, ◌-◌, ◌*◌, ◌/◌, ◌%◌, ◌≤◌}
use native.Mathlib.Omega.{arith}
use lib.Dec.{leb}
use Rattle.memory.specs.Record.{counted, undef, field, stored}
use Rattle.memory.specs.declared.Netlist.{Netlist}
use Rattle.memory.specs.declared.Arena.{Arena}
use Rattle.reasons.specs.Claims.{Same}
use Rattle.reasons.proofs.Valid.{same_refl, same-trans}
use Rattle.reasons.proofs.Frame.{stored_same}
use Rattle.trail.specs.declared.State.{State}
use Rattle.trail.specs.Trail.{Stood, stood, noted, longer, deeper, assigned, decided, entry, taken_back, backtracked}

module _ (net : Netlist) (arena : Arena) (room : 14 * net.nodes + arena.used + 6 * arena.count ≤ net.words) where
  pub same_step : (w : List ℕ) (b : Bool) (s t : Stood) → Same net arena w s.words → Same net arena w t.words → Same net arena w (cond b s t).words
  same_step w true s t p q = p
  same_step w false s t p q = q

  noted-same : (w : List ℕ) (l level why : ℕ) → Same net arena w (noted w net.nodes l level why)
  unfolding noted
  noted-same w l level why =
      let u = stored w net.nodes (l / 2) 5 (1 - l % 2) in
      let v = stored u net.nodes (l / 2) 6 level in
      same-trans (stored_same net arena w room (l / 2) 5 (1 - l % 2) (omega arith) (omega arith))
      (same-trans (stored_same net arena u room (l / 2) 6 level (omega arith) (omega arith))
      (stored_same net arena v room (l / 2) 4 why (omega arith) (omega arith)))

  pub assign-same : (w : List ℕ) (s : State) (l why : ℕ) → Same net arena w (assigned w net s l why).words
  unfolding assigned
  assign-same w s l why =
      let u = noted w net.nodes l s.level why in
      same_step w (leb net.nodes s.length) (stood w s) (stood (stored u net.nodes s.length 9 l) (longer s)) (same_refl net arena w)
      (same-trans (noted-same w l s.level why) (stored_same net arena u room s.length 9 l (omega arith) (omega arith)))

  pub decide-same : (w : List ℕ) (s : State) (l : ℕ) → Same net arena w (decided w net s l).words
  unfolding decided
  decide-same w s l =
      same_step w (leb net.nodes s.level) (stood w s) (assigned w net (deeper s) l undef) (same_refl net arena w)
      (assign-same w (deeper s) l undef)

  taken-same : (w : List ℕ) (to t : ℕ) → Same net arena w (taken_back w net.nodes to t).words
  unfolding taken_back
  taken-same w to zero = same_refl net arena w
  taken-same w to (suc t) =
      go (leb (field w net.nodes (entry w net.nodes t) 6) to)
      (same-trans (stored_same net arena w room (entry w net.nodes t) 5 2 (omega arith) (omega arith))
      (taken-same (stored w net.nodes (entry w net.nodes t) 5 2) to t))
    where
      go : (b : Bool) → Same net arena w (taken_back (stored w net.nodes (entry w net.nodes t) 5 2) net.nodes to t).words
          → Same net arena w
          (cond b (counted w (suc t)) (taken_back (stored w net.nodes (entry w net.nodes t) 5 2) net.nodes to t)).words
      go true r = same_refl net arena w
      go false r = r

  pub backtrack-same : (w : List ℕ) (s : State) (to : ℕ) → Same net arena w (backtracked w net s to).words
  unfolding backtracked
  backtrack-same w s to = taken-same w to s.length
