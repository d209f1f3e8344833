-- The heap's steps leave the claimed words as they are. Assumes nothing.
use mathlib.Core.Bool.{Bool, true, false, cond}
use mathlib.Core.List.{List}
use Prim.Native.Nat.{ℕ, zero, suc, ◌+◌, ◌-◌, ◌*◌, ◌/◌, ◌%◌, ◌≤◌}
use native.Mathlib.Omega.{arith}
use lib.Dec.{eqb, leb, ltb}
use Rattle.memory.specs.Record.{field, stored}
use Rattle.memory.specs.declared.Netlist.{Netlist}
use Rattle.memory.specs.declared.Arena.{Arena}
use Rattle.memory.specs.declared.Heap.{Heap}
use Rattle.reasons.specs.Claims.{Same}
use Rattle.reasons.proofs.Valid.{same_refl, same-trans, same_cond}
use Rattle.reasons.proofs.Frame.{stored_same}
use Rattle.heap.specs.Heap.{Heaped, heaped, heap_of, node_at, place_of, active, with_node, seated, is_seated, parent, is_above, lowered, upped, child, larger, is_below, lifted, downed, risen, dropped, skimmed, scaled, cooled, is_wanted, admitted, entry, restored}

module _ (net : Netlist) (arena : Arena) (room : 14 * net.nodes + arena.used + 6 * arena.count ≤ net.words) where
  either : (w : List ℕ) (b : Bool) (s t : Heaped) → Same net arena w s.words → Same net arena w t.words → Same net arena w (cond b s t).words
  either w true s t p q = p
  either w false s t p q = q

  seat-same : (w : List ℕ) (i v : ℕ) → Same net arena w (seated w net.nodes i v)
  unfolding seated
  seat-same w i v =
      let x = field w net.nodes i 10 - field w net.nodes i 10 % 65536 + v % 65536 in
      let u = stored w net.nodes i 10 x in
      let y = field u net.nodes v 10 % 65536 + 65536 * (i % 65536) in
      same-trans (stored_same net arena w room i 10 x (omega arith) (omega arith)) (stored_same net arena u room v 10 y (omega arith) (omega arith))

  up_same : (w : List ℕ) (v i n : ℕ) → Same net arena w (upped w net.nodes v i n)
  unfolding upped lowered
  up_same w v i zero = seat-same w i v
  up_same w v i (suc n) =
      let u = seated w net.nodes i (node_at w net.nodes (parent i)) in
      same_cond w (upped u net.nodes v (parent i) n) (seated w net.nodes i v) (is_above w net.nodes i v)
      (same-trans (seat-same w i (node_at w net.nodes (parent i))) (up_same u v (parent i) n)) (seat-same w i v)

  down-same : (w : List ℕ) (size v i n : ℕ) → Same net arena w (downed w net.nodes size v i n)
  unfolding downed lifted
  down-same w size v i zero = seat-same w i v
  down-same w size v i (suc n) =
      let c = larger w net.nodes size (child i) in
      let u = seated w net.nodes i (node_at w net.nodes c) in
      same_cond w (downed u net.nodes size v c n) (seated w net.nodes i v) (is_below w net.nodes size c v)
      (same-trans (seat-same w i (node_at w net.nodes c)) (down-same u size v c n)) (seat-same w i v)

  pub rise-same : (w : List ℕ) (h : Heap) (v : ℕ) → Same net arena w (risen w net.nodes h v).words
  unfolding risen
  rise-same w h v =
      let old = heaped (upped w net.nodes v (place_of w net.nodes v) 32) h in
      let new = heaped (upped w net.nodes v h.size 32) (heap_of (h.size + 1) h.step) in
      either w (is_seated w net.nodes h.size v) old (cond (leb net.nodes h.size) (heaped w h) new)
      (up_same w v (place_of w net.nodes v) 32)
      (either w (leb net.nodes h.size) (heaped w h) new (same_refl net arena w) (up_same w v h.size 32))

  drop-same : (w : List ℕ) (h : Heap) → Same net arena w (dropped w net.nodes h).words
  unfolding dropped
  drop-same w h =
      let x = node_at w net.nodes (h.size - 1) in
      either w (leb h.size 1) (heaped w (heap_of 0 h.step))
      (heaped (downed w net.nodes (h.size - 1) x 0 32) (heap_of (h.size - 1) h.step)) (same_refl net arena w) (down-same w (h.size - 1) x 0 32)

  pub skim-same : (w : List ℕ) (h : Heap) (n : ℕ) → Same net arena w (skimmed w net.nodes h n).words
  unfolding skimmed
  skim-same w h zero = same_refl net arena w
  skim-same w h (suc n) =
      let s = dropped w net.nodes h in
      either w (eqb (field w net.nodes (node_at w net.nodes 0) 5) 2) (heaped w h) (skimmed s.words net.nodes s.heap n)
      (same_refl net arena w) (same-trans (drop-same w h) (skim-same s.words s.heap n))

  scale_same : (w : List ℕ) (n : ℕ) → Same net arena w (scaled w net.nodes n)
  unfolding scaled
  scale_same w zero = same_refl net arena w
  scale_same w (suc n) =
      let x = active w net.nodes n / 1048576 in
      same-trans (stored_same net arena w room n 11 x (omega arith) (omega arith)) (scale_same (stored w net.nodes n 11 x) n)

  pub cool-same : (w : List ℕ) (h : Heap) → Same net arena w (cooled w net.nodes h).words
  unfolding cooled
  cool-same w h =
      either w (ltb h.step 268435456) (heaped w (heap_of h.size (h.step + h.step / 10 + 1)))
      (heaped (scaled w net.nodes net.nodes) (heap_of h.size (h.step / 1048576 + 1))) (same_refl net arena w) (scale_same w net.nodes)

  pub admit-same : (w : List ℕ) (h : Heap) (v : ℕ) → Same net arena w (admitted w net h v).words
  unfolding admitted
  admit-same w h v = either w (is_wanted w net v) (risen w net.nodes h v) (heaped w h) (rise-same w h v) (same_refl net arena w)

  pub restore_same : (w : List ℕ) (h : Heap) (from n : ℕ) → Same net arena w (restored w net h from n).words
  unfolding restored
  restore_same w h from zero = same_refl net arena w
  restore_same w h from (suc n) =
      let s = admitted w net h (entry w net.nodes n) in
      either w (leb (suc n) from) (heaped w h) (restored s.words net s.heap from n) (same_refl net arena w)
      (same-trans (admit-same w h (entry w net.nodes n)) (restore_same s.words s.heap from n))
