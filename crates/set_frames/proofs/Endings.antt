-- What the frames reach is the ending of the attempt. Assumes nothing.
use mathlib.Core.Path.{◌≡◌, refl}
use mathlib.Core.Bool.{Bool, true, false, cond}
use mathlib.Core.List.{List}
use Prim.Native.Nat.{ℕ, zero, suc}
use lib.Dec.{eqb, ltb}
use lib.ListN.{get_or}
use Rattle.aiger.specs.Search.{Question}
use Rattle.state_sets.specs.Sets.{Sets, advanced}
use Rattle.set_walk.specs.declared.Start.{Start}
use Rattle.set_walk.specs.declared.Start.TheVariants as starts
use Rattle.stages.specs.Endings.{Ending}
use Rattle.set_attempt.specs.Attempt.{Setup, start_again, on_start, after_start, on_tried, frames_from}
use Rattle.set_frames.specs.Frames.{Ran, ran, of_seen, reached_by, on_made, where_clear, frame_run, frames_run, ending_of}
use Rattle.set_frames.specs.declared.Reached.TheVariants as variants

module _ (q : Question) (p : Setup) (first : ℕ) where
  -- what comes later, as an ending and as frames
  abbrev Ends : (Sets → Ending) → (List ℕ → Sets → Ran) → Type 0
  Ends later next = (bits : List ℕ) (z : Sets) → later z ≡ ending_of q (next bits z).reached

  module _ (t : ℕ) (later : Sets → Ending) (next : List ℕ → Sets → Ran) (h : Ends later next) where
    start-ends : (z : Sets) (bits : List ℕ) (f : Start)
        → on_start q t f z later ≡ ending_of q (where_clear (ran z bits (reached_by t f)) next).reached
    start-ends z bits starts.Least = refl
    start-ends z bits starts.Nowhere = h bits z
    start-ends z bits starts.Full = refl

    tried-ends : (bits : List ℕ) (d : Bool) (z : Sets)
        → on_tried q p first t d z later ≡ ending_of q (where_clear (on_made p first t bits d z) next).reached
    tried-ends bits false z = refl
    tried-ends bits true z = go (eqb (get_or z.table t 0) 0) (ltb t first)
      where
        go : (e l : Bool) → cond e (ending_of q (variants.Never t)) (cond l (later z) (after_start q t (start_again p t z) later))
            ≡ ending_of q
            (where_clear
            (cond e (ran z bits (variants.Never t)) (cond l (ran z bits variants.Clear) (of_seen t (start_again p t z)))) next).reached
        go true l = refl
        go false true = h bits z
        go false false = start-ends (start_again p t z).sets (start_again p t z).bits (start_again p t z).found

  pub run_ends : (n t : ℕ) (bits : List ℕ) (z : Sets) → frames_from q p first n t z ≡ ending_of q (frames_run p first n t bits z).reached
  unfolding frames_from frames_run frame_run
  run_ends zero t bits z = refl
  run_ends (suc n) t bits z =
      let o = advanced p.vars p.rows t z in
      tried-ends t (frames_from q p first n (suc t)) (frames_run p first n (suc t)) (λ b y. run_ends n (suc t) b y) bits o.done o.sets
