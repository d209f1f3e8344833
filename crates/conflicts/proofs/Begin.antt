-- What a search knows before its first decision. Assumes nothing.
use mathlib.Core.Path.{◌≡◌, refl}
use mathlib.Core.Bool.{Bool}
use mathlib.Core.List.{List}
use Prim.Native.Nat.{ℕ, zero, suc, ◌+◌, ◌-◌, ◌*◌, ◌/◌, ◌≤◌, ◌<◌}
use native.Mathlib.Omega.{arith}
use lib.ListN.{set, length-set}
use Rattle.memory.specs.Record.{undef, successor, stored}
use Rattle.memory.specs.declared.Netlist.{Netlist}
use Rattle.memory.specs.declared.Heap.{Heap}
use Rattle.reasons.specs.Claims.{Same, Sound}
use Rattle.reasons.proofs.Valid.{same_refl, same-trans}
use Rattle.reasons.proofs.Frame.{field-other, stored_same}
use Rattle.kept.specs.Kept.{arena_of}
use Rattle.heap.specs.Heap.{admitted}
use Rattle.heap.proofs.Frame.{admit-same}
use Rattle.learning.proofs.Standing.{Standing, stand-same}
use Rattle.choices.specs.Begun.{Begun}
use Rattle.conflicts.specs.Conflicts.{reset, reset_rest, reset_all, wiped, prepared, filled}

module _ (net : Netlist) (room : 14 * net.nodes ≤ net.words) where
  still : (w : List ℕ) (v f x : ℕ) → 3 ≤ f → f < 14 → Same net (arena_of 0 0) w (stored w net.nodes v f x)
  still w v f x low high = stored_same net (arena_of 0 0) w (omega arith) v f x low high

  reset-same : (w : List ℕ) (v value : ℕ) → Same net (arena_of 0 0) w (reset w net.nodes v value)
  unfolding reset
  reset-same w v value =
      let n = net.nodes in
      let a = stored w n v 3 0 in
      let b = stored a n v 4 undef in
      let c = stored b n v 5 value in
      let d = stored c n v 6 0 in
      same-trans (still w v 3 0 (omega arith) (omega arith))
      (same-trans (still a v 4 undef (omega arith) (omega arith))
      (same-trans (still b v 5 value (omega arith) (omega arith))
      (same-trans (still c v 6 0 (omega arith) (omega arith)) (still d v 7 undef (omega arith) (omega arith)))))

  rest-same : (w : List ℕ) (v : ℕ) → Same net (arena_of 0 0) w (reset_rest w net.nodes v)
  unfolding reset_rest
  rest-same w v =
      let n = net.nodes in
      let a = stored w n v 8 undef in
      let b = stored a n v 9 0 in
      let c = stored b n v 10 0 in
      same-trans (still w v 8 undef (omega arith) (omega arith))
      (same-trans (still a v 9 0 (omega arith) (omega arith))
      (same-trans (still b v 10 0 (omega arith) (omega arith)) (still c v 11 0 (omega arith) (omega arith))))

  reset-all-same : (w : List ℕ) (n : ℕ) → Same net (arena_of 0 0) w (reset_all w net.nodes n)
  unfolding reset_all
  reset-all-same w zero = same_refl net (arena_of 0 0) w
  reset-all-same w (suc n) =
      let a = reset w net.nodes n 2 in
      same-trans (reset-same w n 2) (same-trans (rest-same a n) (reset-all-same (reset_rest a net.nodes n) n))

  set_same : (w : List ℕ) (i x : ℕ) → 14 * net.nodes ≤ i → Same net (arena_of 0 0) w (set w i x)
  set_same w i x past =
      record {
        long = length-set w i x;
        node = λ v f h. field-other w net.nodes v f i x (λ s z. omega arith);
        clause = λ p h. absurd (omega arith);
        head = λ c f h k. absurd (omega arith);
      }

  wipe-same : (w : List ℕ) (i k : ℕ) → 14 * net.nodes ≤ i → Same net (arena_of 0 0) w (wiped w i k)
  unfolding wiped
  wipe-same w i zero past = same_refl net (arena_of 0 0) w
  wipe-same w i (suc k) past = same-trans (set_same w i 0 past) (wipe-same (set w i 0) (i + 1) k (omega arith))

  pub prepare-same : (w : List ℕ) → Same net (arena_of 0 0) w (prepared w net)
  unfolding prepared
  prepare-same w =
      let a = reset_all w net.nodes net.nodes in
      let b = stored a net.nodes 0 5 0 in
      same-trans (reset-all-same w net.nodes)
      (same-trans (still a 0 5 0 (omega arith) (omega arith)) (wipe-same b (14 * net.nodes) (net.words - 14 * net.nodes) (omega arith)))

  pub fill-same : (w : List ℕ) (h : Heap) (v k : ℕ) → Same net (arena_of 0 0) w (filled w net h v k).words
  unfolding filled
  fill-same w h v zero = same_refl net (arena_of 0 0) w
  fill-same w h v (suc k) =
      let s = admitted w net h v in
      same-trans (admit-same net (arena_of 0 0) (omega arith) w h v) (fill-same s.words s.heap (successor v) k)

module _ (hit : (ℕ → Bool) → Type 0) (hits : ℕ → Type 0) (val : ℕ → ℕ → Bool) (net : Netlist) (w : List ℕ) (begin : Begun hit hits val net w) where
  first-sound : Sound hit net (arena_of 0 0) w
  first-sound =
      record {
        room = omega (arith, begin.room);
        within = begin.within;
        gate = begin.gate;
        zero = begin.never;
        fixed = λ l e. absurd (omega (arith, begin.unfixed (l / 2), e));
        inside = λ c h. absurd (omega arith);
        valid = λ c h. absurd (omega arith);
      }

  first-standing : Standing hit hits net w (arena_of 0 0) w
  first-standing =
      record {
        sound = first-sound;
        operand = λ v f h. refl;
        clean = begin.clean;
        floor = begin.low;
        from = omega arith;
      }

  pub begin-standing : (h : Heap) → Standing hit hits net w (arena_of 0 0) (filled (prepared w net) net h 1 net.free).words
  begin-standing h =
      stand-same hit hits net w first-standing
      (same-trans (prepare-same net begin.room w) (fill-same net begin.room (prepared w net) h 1 net.free))
