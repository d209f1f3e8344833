-- The sets of states stand in the table frame by frame, and at a hit the walk can begin. Assumes nothing.
use mathlib.Core.Path.{◌≡◌, refl, sym, subst}
use mathlib.Core.Bool.{Bool, true, false, cond}
use mathlib.Core.List.{List}
use Prim.Native.Nat.{ℕ, zero, suc, ◌+◌, ◌≤◌, ◌<◌}
use native.Mathlib.Decide.{ℕ_discrete}
use native.Mathlib.Omega.{arith}
use borrow.Author.Tests.{ltb-true}
use lib.Dec.{eqb, ltb}
use lib.ListN.{length, get_or}
use Rattle.aiger.specs.Frames.{free_bit}
use Rattle.machine.specs.Machine.{Machine}
use Rattle.machine.proofs.Theorems.{Quiet, QuietBefore}
use Rattle.backward.specs.Sets.{Inside}
use Rattle.backward.specs.Walk.{Walking}
use Rattle.diagrams.specs.Meaning.{Assignment}
use Rattle.diagrams.proofs.Values.{front-in}
use Rattle.collection.specs.Collecting.{collected}
use Rattle.state_sets.specs.Sets.{Sets, advanced}
use Rattle.state_sets.specs.Meaning.{Coded, Standing, Held}
use Rattle.state_sets.proofs.Sound.{values-front, collected_of, collected-held, advanced-right}
use Rattle.set_walk.specs.declared.Start.{Start}
use Rattle.set_walk.specs.declared.Start.TheVariants as starts
use Rattle.set_walk.specs.Walk.{bits_of}
use Rattle.set_walk.specs.Start.{seek, StartsOf}
use Rattle.set_walk.proofs.Found.{seek-right, nowhere-quiet, least-walks}
use Rattle.set_attempt.specs.Attempt.{Setup, start_seen, on_collected, or_once_more, start_again}
use Rattle.set_frames.specs.Frames.{Ran, ran, of_seen, of_set, reached_by, on_made, on_reached, frame_run, frames_run}
use Rattle.set_frames.specs.declared.Reached.{Reached}
use Rattle.set_frames.specs.declared.Reached.TheVariants as variants

module _ (level : ℕ) (m : Machine) (n : ℕ) (inside : Inside m n) (at : ℕ → Assignment) (p : Setup) (coded : Coded at p.vars)
    (few : p.rows ≤ 16) (begins : StartsOf m at p.vars p.frees p.base) where
  -- the sets before `next` stand
  abbrev pub Stand : ℕ → Sets → Type 0
  Stand next z = Held level m n at p.vars p.rows next 0 z

  -- the walk to the first hit of frame t begins at the state in bits
  abbrev pub Leaves : ℕ → List ℕ → Type 0
  Leaves t bits =
      (y : ℕ) × Walking m t 0 0 y (m.start y) × (bits_of bits ≡ at (m.start y))
      × ((u : ℕ) → u < length p.frees → free_bit (length p.frees) y u ≡ bits_of bits (get_or p.frees u 0))

  -- ---- the start states of a set

  -- what was found of set t
  abbrev SeenIs : ℕ → Start → Sets → List ℕ → Type 0
  SeenIs t starts.Least z bits = Stand (suc t) z × (QuietBefore m t → Leaves t bits)
  SeenIs t starts.Nowhere z bits = Stand (suc t) z × (QuietBefore m t → Quiet m t)
  SeenIs t starts.Full z bits = Unit {0}

  module _ (t : ℕ) where
    pub seen-stand : (z : Sets) → Stand (suc t) z → Stand (suc t) (start_seen p t z).sets
    unfolding start_seen
    seen-stand z h =
        let s = (seek p.vars p.rows t p.frees z.table p.base z.state).state in
        let g = (seek-right level m n inside at p.vars p.rows coded few p.frees p.base begins (suc t) z h t (omega arith)).grown in
        record {
          room = h.room;
          tabled = record { good = g.good; edges = λ i. front-in g.grows (get_or z.table i 0) (h.tabled.edges i) };
          standing =
              subst (Standing m n at p.vars p.rows (suc t) 0) (sym (values-front g.grows z.table h.tabled.edges)) h.standing;
        }

    seen-is : (z : Sets) → Stand (suc t) z → (f : Start) → (start_seen p t z).found ≡ f
        → SeenIs t f (start_seen p t z).sets (start_seen p t z).bits
    unfolding start_seen
    seen-is z h starts.Least e = (
      seen-stand z h,
      λ quiet. least-walks level m n inside at p.vars p.rows coded few p.frees p.base begins (suc t) z h t (omega arith) quiet e,
    )
    seen-is z h starts.Nowhere e = (
      seen-stand z h,
      λ quiet. nowhere-quiet level m n inside at p.vars p.rows coded few p.frees p.base begins (suc t) z h t (omega arith) quiet e,
    )
    seen-is z h starts.Full e = tt

    -- after a collection
    pub collected-stand : (z : Sets) → Stand (suc t) z → (collected z.state z.table).kept ≡ true → Stand (suc t) (collected_of z)
    collected-stand z h e = collected-held level m n inside at p.vars p.rows coded few (suc t) 0 z h e

    collected-is : (y : Sets) (bits : List ℕ) → Stand (suc t) y → (b : Bool) → (collected y.state y.table).kept ≡ b
        → (let o = on_collected b (collected_of y) bits (start_seen p t) in SeenIs t o.found o.sets o.bits)
    collected-is y bits h true e = seen-is (collected_of y) (collected-stand y h e) (start_seen p t (collected_of y)).found refl
    collected-is y bits h false e = tt

    again-is : (z : Sets) → Stand (suc t) z → SeenIs t (start_again p t z).found (start_again p t z).sets (start_again p t z).bits
    unfolding start_again
    again-is z h = go (start_seen p t z).found refl
      where
        go : (f : Start) → (start_seen p t z).found ≡ f
            → (let o = or_once_more f (start_seen p t z) (start_seen p t) in SeenIs t o.found o.sets o.bits)
        go starts.Least e = seen-is z h (start_seen p t z).found refl
        go starts.Nowhere e = seen-is z h (start_seen p t z).found refl
        go starts.Full e =
            collected-is (start_seen p t z).sets (start_seen p t z).bits (seen-stand z h)
            (collected (start_seen p t z).sets.state (start_seen p t z).sets.table).kept refl

  -- ---- one frame

  module _ (first : ℕ) where
    -- what frame t leaves
    abbrev FrameIs : ℕ → Reached → Sets → List ℕ → Type 0
    FrameIs t variants.Clear z bits = Stand (suc t) z × (QuietBefore m first → QuietBefore m t → Quiet m t)
    FrameIs t (variants.Hit u) z bits = (u ≡ t) × Stand (suc t) z × (QuietBefore m t → Leaves t bits)
    FrameIs t (variants.Never u) z bits = Unit {0}
    FrameIs t (variants.GaveUp u) z bits = Unit {0}

    frame-seen : (t : ℕ) (f : Start) (z : Sets) (bits : List ℕ) → SeenIs t f z bits → FrameIs t (reached_by t f) z bits
    frame-seen t starts.Least z bits h = (refl, h.0, h.1)
    frame-seen t starts.Nowhere z bits h = (h.0, λ a b. h.1 b)
    frame-seen t starts.Full z bits h = tt

    frame-set : (t : ℕ) (bits : List ℕ) (z : Sets) → Stand (suc t) z
        → (let o = of_set p first t bits z in FrameIs t o.reached o.sets o.bits)
    frame-set t bits z h = go (eqb (get_or z.table t 0) 0) (ltb t first) refl
      where
        go : (e l : Bool) → ltb t first ≡ l
            → (let o = cond e (ran z bits (variants.Never t)) (cond l (ran z bits variants.Clear) (of_seen t (start_again p t z))) in
            FrameIs t o.reached o.sets o.bits)
        go true l d = tt
        go false true d = (h, λ a b. a t (ltb-true t first d))
        go false false d = frame-seen t (start_again p t z).found (start_again p t z).sets (start_again p t z).bits (again-is t z h)

    pub frame_is : (t : ℕ) (bits : List ℕ) (z : Sets) → t < 256 → Stand t z
        → (let o = frame_run p first t bits z in FrameIs t o.reached o.sets o.bits)
    unfolding frame_run
    frame_is t bits z l h =
        go (advanced p.vars p.rows t z).done refl
        (λ d. advanced-right level m n inside at p.vars p.rows coded few t l z h d)
      where
        go : (d : Bool) → (advanced p.vars p.rows t z).done ≡ d
            → ((advanced p.vars p.rows t z).done ≡ true → Stand (suc t) (advanced p.vars p.rows t z).sets)
            → (let o = on_made p first t bits d (advanced p.vars p.rows t z).sets in FrameIs t o.reached o.sets o.bits)
        go true d k = frame-set t bits (advanced p.vars p.rows t z).sets (k d)
        go false d k = tt

    -- a frame that is clear leaves the sets of one frame more
    pub clear-stand : (t : ℕ) (bits : List ℕ) (z y : Sets) (after : List ℕ) → t < 256 → Stand t z
        → ran y after variants.Clear ≡ frame_run p first t bits z → Stand (suc t) y
    clear-stand t bits z y after l h e =
        (subst (λ (o : Ran). FrameIs t o.reached o.sets o.bits) (sym e) (frame_is t bits z l h)).0

    -- ---- the frames

    -- what frames before `end` leave
    abbrev pub RunIs : ℕ → Reached → Sets → List ℕ → Type 0
    RunIs end variants.Clear z bits = Unit {0}
    RunIs end (variants.Hit u) z bits = (u < end) × Stand (suc u) z × (QuietBefore m first → QuietBefore m u × Leaves u bits)
    RunIs end (variants.Never u) z bits = Unit {0}
    RunIs end (variants.GaveUp u) z bits = Unit {0}

    quiet-more : (t : ℕ) → QuietBefore m t → Quiet m t → QuietBefore m (suc t)
    quiet-more t b h u l = elim (ℕ_discrete u t) [ yes e ↦ subst (Quiet m) (sym e) h | no e ↦ b u (omega arith) ]

    -- n frames from t on, where the sets before t stand
    pub run_is : (k t : ℕ) (bits : List ℕ) (z : Sets) → t + k ≤ 256 → Stand t z → (QuietBefore m first → QuietBefore m t)
        → (let o = frames_run p first k t bits z in RunIs (t + k) o.reached o.sets o.bits)
    unfolding frames_run
    run_is zero t bits z l h quiet = tt
    run_is (suc k) t bits z l h quiet =
        let o = frame_run p first t bits z in
        go o.reached o.sets o.bits (frame_is t bits z (omega arith) h)
        (λ b y s q.
        let e : suc t + k ≡ t + suc k = omega arith in
        let x = frames_run p first k (suc t) b y in
        subst (λ (i : ℕ). RunIs i x.reached x.sets x.bits) e (run_is k (suc t) b y (omega arith) s q))
      where
        go : (r : Reached) (y : Sets) (b : List ℕ) → FrameIs t r y b
            → ((b : List ℕ) (y : Sets) → Stand (suc t) y → (QuietBefore m first → QuietBefore m (suc t))
            → (let o = frames_run p first k (suc t) b y in RunIs (t + suc k) o.reached o.sets o.bits))
            → (let o = on_reached r y b (frames_run p first k (suc t)) in RunIs (t + suc k) o.reached o.sets o.bits)
        go variants.Clear y b f more = more b y f.0 (λ q. quiet-more t (quiet q) (f.1 q (quiet q)))
        go (variants.Hit u) y b f more = (
          omega (arith, f.0),
          subst (λ (i : ℕ). Stand (suc i) y) (sym f.0) f.1,
          λ q. (
            subst (QuietBefore m) (sym f.0) (quiet q),
            subst (λ (i : ℕ). Leaves i b) (sym f.0) (f.2 (quiet q)),
          ),
        )
        go (variants.Never u) y b f more = tt
        go (variants.GaveUp u) y b f more = tt
