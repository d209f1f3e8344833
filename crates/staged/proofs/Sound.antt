-- Every stage of the rounds says what is so. Assumes nothing.
use mathlib.Core.Path.{◌≡◌, refl, sym, subst}
use mathlib.Core.Bool.{Bool, true, false, cond, ◌&&◌}
use Prim.Native.Nat.{ℕ, ◌≤◌, ◌<◌}
use native.Mathlib.Omega.{arith}
use borrow.Author.Tests.{leb-true}
use lib.Dec.{T, leb}
use lib.ListN.{length}
use Rattle.aiger.specs.Circuit.{Circuit, literals_right, acyclic}
use Rattle.aiger.specs.Search.{question}
use Rattle.aiger.proofs.Tests.{T_true, true-T, and_left, and_right}
use Rattle.machine.specs.Layers.{Layered, layered}
use Rattle.machine.proofs.Theorems.{Quiet, QuietBefore, Says, layered-says}
use Rattle.influence.specs.Cone.{part_of}
use Rattle.influence.proofs.Cone.{part-closed}
use Rattle.transitions.specs.Transitions.{machine_of}
use Rattle.transitions.proofs.Bridge.{fair, reaches_of, prefixes-of}
use Rattle.reachable.specs.Quota.{quota}
use Rattle.stages.specs.Endings.{Ending, NoHit, NoneBefore, EndsRight, Sound, AllSound}
use Rattle.stages.specs.Layers.{of_layers}
use Rattle.stages.specs.Choice.{limit_in}
use Rattle.stages.proofs.Lists.{any-budget, rounds-sound}
use Rattle.stages.proofs.Layers.{layers-sound}
use Rattle.set_attempt.specs.Stage.{stage_ending}
use Rattle.set_attempt.proofs.Stage.{stage-sound}
use Rattle.attempts.proofs.Sound.{conflict-sound}
use Rattle.staged.specs.Schedule.{flat, layers_stage, is_proper, sets_once, gone_on, is_far, sets_stage, share_in, later_of, round_of, stages_of}
use Rattle.staged.proofs.Onward.{on-right}

module _ (c : Circuit) (b : ℕ) where
  -- a frame of the machine without a hit is one of the circuit without a hit
  none-at : (t : ℕ) → Quiet (machine_of (part_of c b) b) t → NoHit (question c b) t
  none-at t q x h r =
      q x (subst (λ (n : ℕ). x < n) (sym (prefixes-of (part_of c b) b t)) h) (subst T (reaches_of (part_of c b) b (part-closed c b) t x) r)

  none_before : (t : ℕ) → QuietBefore (machine_of (part_of c b) b) t → NoneBefore (question c b) t
  none_before t q u l = none-at u (q u l)

  -- what the layers say of the machine is so of the circuit
  layers-right : (o : Layered) → Says (machine_of (part_of c b) b) (fair (part_of c b) b) 256 o → EndsRight (question c b) 0 (of_layers o)
  layers-right (Layered.hit t x) (l, q, f) = (
    omega arith,
    omega arith,
    none_before t q,
    record {
      fits = subst (λ (n : ℕ). x < n) (prefixes-of (part_of c b) b t) f.fits;
      hits = subst T (sym (reaches_of (part_of c b) b (part-closed c b) t x)) f.hits;
      first = λ y h r. f.first y h (subst T (reaches_of (part_of c b) b (part-closed c b) t y) r);
    },
  )
  layers-right Layered.clear q = none_before 256 q
  layers-right (Layered.never t) (l, q) = (omega arith, omega arith, λ u. none-at u (q u))
  layers-right (Layered.gave_up t) (l, q) = (omega arith, l, none_before t q)

  pub layer-sound : (limit : ℕ) → Sound (question c b) (layers_stage c b limit)
  unfolding layers_stage
  layer-sound limit =
      let m = machine_of (part_of c b) b in
      layers-sound (question c b) m (λ first. quota (part_of c b) first (flat limit))
      (λ first. layers-right (layered m (quota (part_of c b) first (flat limit)) 256)
      (layered-says m (fair (part_of c b) b) (quota (part_of c b) first (flat limit)) 256))

  -- the sets of states say what is so, where the circuit is one that memory can hold
  sets-right : (share first : ℕ) → first ≤ 256 → NoneBefore (question c b) first → (p : Bool) → is_proper c ≡ p
      → EndsRight (question c b) first (cond p (stage_ending (part_of c b) b share first) (Ending.gave_up first))
  unfolding is_proper
  sets-right share first l n false e = (omega arith, l, n)
  sets-right share first l n true e =
      let right = literals_right c in
      let order = acyclic c in
      let gates = leb (length c.gates) 3072 in
      let latches = leb (length c.latches) 4096 in
      let t = T_true e in
      let u = and_right right (order && (gates && latches)) t in
      let v = and_right order (gates && latches) u in
      (stage-sound (part_of c b) (and_left right (order && (gates && latches)) t) (and_left order (gates && latches) u) b (part-closed c b)
      (leb-true (length c.gates) 3072 (true-T gates (and_left gates latches v)))
      (leb-true (length c.latches) 4096 (true-T latches (and_right gates latches v))) share).right first 0 l n

  pub once-right : (share first : ℕ) → first ≤ 256 → NoneBefore (question c b) first → EndsRight (question c b) first (sets_once c b share first)
  unfolding sets_once
  once-right share first l n = sets-right share first l n (is_proper c) refl

  pub sets-sound : (share : ℕ) → Sound (question c b) (sets_stage c b share)
  unfolding sets_stage
  sets-sound share =
      any-budget (question c b) (gone_on (is_far c) (sets_once c b share) 12)
      (on-right (question c b) (is_far c) (sets_once c b share) (once-right share) 12)

  pub later-sound : (r : ℕ) → AllSound (question c b) (later_of c b r)
  later-sound r = (sets-sound (share_in r), (conflict-sound c b (limit_in 6000 r), tt))

  pub round-sound : (r : ℕ) → AllSound (question c b) (round_of c b r)
  round-sound r = (layer-sound (limit_in 300000 r), later-sound r)

  pub stages-sound : AllSound (question c b) (stages_of c b)
  unfolding stages_of
  stages-sound = rounds-sound (question c b) (round_of c b) round-sound 0 8
