-- What the code of the stages says, stage by stage and round by round. Assumes nothing.
use mathlib.Core.Path.{◌≡◌, refl, sym, ap, ◌∙◌, subst}
use mathlib.Core.Bool.{Bool, true, false, cond, ◌&&◌}
use mathlib.Core.List.{List, [], ◌∷◌, ◌++◌}
use Prim.Native.Nat.{ℕ, zero, suc, ◌+◌, ◌-◌, ◌*◌, ◌%◌, ◌^◌, ◌≤◌, ◌<◌, max}
use native.Mathlib.Nat.{pow-suc, pow-le-pow_right, mul-le-mul_right}
use native.Mathlib.Omega.{arith}
use borrow.Author.Tests.{le-leb, lt-leb, leb-false}
use lib.Dec.{leb}
use lib.ListN.{length}
use lib.Pow.{pow-add}
use Rattle.aiger.specs.Circuit.{Circuit, literals_right, acyclic}
use Rattle.aiger.specs.Frames.{free_bits, size}
use Rattle.aiger.specs.Search.{question}
use Rattle.aiger.proofs.Tests.{true-T}
use Rattle.layout.specs.Words.{circuit_in}
use Rattle.layout.specs.declared.Layout.{Layout}
use Rattle.frames.specs.Lanes.{Ready}
use Rattle.enumeration.specs.Frame.{FreeBits}
use Rattle.machine.specs.Layers as machine
use Rattle.influence.specs.Cone.{part_of}
use Rattle.transitions.specs.Transitions.{machine_of}
use Rattle.reachable.specs.Quota.{quota}
use Rattle.reachable.specs.Layers.{layered, LayersOf}
use Rattle.reachable.specs.declared.Layers.{Layers}
use Rattle.reachable.specs.declared.Layers.TheVariants as layers
use Rattle.reachable.proofs.More.{layered-more}
use Rattle.stages.specs.Endings.{Ending, Cut, Staged, Stage, cut_at, staged_at, NoneBefore, Sound, AllSound}
use Rattle.stages.specs.Layers.{of_layers, from_start, layers_ending}
use Rattle.stages.specs.Choice.{listed, rounds, limit_in}
use Rattle.stages.proofs.Layers.{layers-cut}
use Rattle.stages.proofs.Lists.{rounds-sound}
use Rattle.stages.proofs.Passing.{On, Passing, stage-passes, none_left, next-round}
use Rattle.set_attempt.specs.Stage.{stage_ending}
use Rattle.set_search.specs.Search.{SetsOf}
use Rattle.set_search.specs.declared.Searched.{Searched}
use Rattle.set_search.specs.declared.Searched.TheVariants as searched
use Rattle.set_search.proofs.Plans.{proper}
use Rattle.attempts.specs.Stage.{conflict_stage, Seen}
use Rattle.attempts.specs.declared.Staged as attempts
use Rattle.attempts.specs.declared.Staged.TheVariants as attempted
use Rattle.attempts.proofs.Sound.{conflict-sound}
use Rattle.staged.specs.declared.Passed.{Passed}
use Rattle.staged.specs.declared.Passed.TheVariants as passed
use Rattle.staged.specs.Schedule.{flat, layers_stage, is_proper, sets_once, gone_on, is_far, sets_stage, share_in, later_of, round_of, stages_of}
use Rattle.staged.specs.Answers.{Shows, Passes, LaterIs, RoundIs}
use Rattle.staged.proofs.Onward.{Over, cut-gave-up, on-over, on_none, on-more, on-stop, on-end}
use Rattle.staged.proofs.Sound.{layer-sound, once-right, sets-sound, round-sound}

-- ---- limits

powers : (r : ℕ) → 2 ^ (3 * r) ≡ 8 ^ r
powers zero = refl
powers (suc r) =
    let e : 3 * suc r ≡ 3 + 3 * r = omega arith in
    ap (λ (n : ℕ). 2 ^ n) e ∙ omega (arith, pow-add 2 3 (3 * r), pow-suc 8 r, powers r)

pub limit_is : (base r : ℕ) → base * 2 ^ (3 * r) ≡ limit_in base r
unfolding limit_in
limit_is base r = ap (λ (n : ℕ). base * n) (powers r)

pub power-most : (r : ℕ) → r ≤ 7 → 2 ^ (3 * r) ≤ 2097152
power-most r l =
    let most : 3 * r ≤ 21 = omega arith in
    let two : 1 ≤ 2 = omega arith in
    let p : 2 ^ (3 * r) ≤ 2 ^ 21 = pow-le-pow_right two most in
    omega arith

-- a limit by the shift that the code makes
pub scaled : (base r : ℕ) → r ≤ 7 → base * (1 * 2 ^ (3 * r) % 18446744073709551616) ≡ limit_in base r
scaled base r l =
    let e : 1 * 2 ^ (3 * r) % 18446744073709551616 ≡ 2 ^ (3 * r) = omega (arith, power-most r l) in
    ap (λ (n : ℕ). base * n) e ∙ limit_is base r

pub scaled-most : (base r : ℕ) → base ≤ 300000 → r ≤ 7 → base * (1 * 2 ^ (3 * r) % 18446744073709551616) ≤ 629145600000
scaled-most base r b l =
    let n = 1 * 2 ^ (3 * r) % 18446744073709551616 in
    let e : n ≤ 2097152 = omega (arith, power-most r l) in
    let m : base * n ≤ 300000 * n = mul-le-mul_right n b in
    omega arith

-- ---- a stage that gives up

pub given-up : (c : Circuit) (k u : ℕ) (work : List ℕ) → u ≤ k → Shows c k (Staged.ends (Ending.gave_up u)) work (passed.GaveUp u)
given-up c k u work l = ap (λ (p : Bool). cond p (Cut.gave_up u) Cut.none) (le-leb u k l)

pub given-past : (c : Circuit) (k u : ℕ) (work : List ℕ) → k < u → Shows c k (Staged.ends (Ending.gave_up u)) work passed.Nothing
given-past c k u work l = ap (λ (p : Bool). cond p (Cut.gave_up u) Cut.none) (lt-leb u k l)

-- ---- the layers of states

-- not the answer that no frame up to the bound has a hit
abbrev Other : machine.Layered → Type 0
Other (machine.Layered.hit t x) = Unit {0}
Other machine.Layered.clear = ⊥
Other (machine.Layered.never t) = Unit {0}
Other (machine.Layered.gave_up t) = Unit {0}

abbrev Empty : Cut → Type 0
Empty (Cut.hit t x) = Unit {0}
Empty Cut.never = Unit {0}
Empty Cut.none = ⊥
Empty (Cut.gave_up t) = Unit {0}
Empty (Cut.cut_off t) = Unit {0}

-- an ending that shows nothing shows nothing to a stage that begins later
start_none : (k : ℕ) (e : Ending) (first : ℕ) → cut_at k e ≡ Cut.none → cut_at k (from_start e first) ≡ Cut.none
start_none k (Ending.hit t x) first h = h
start_none k (Ending.never t) first h = go (leb t k) refl h
  where
    go : (p : Bool) → leb t k ≡ p → cond p Cut.never Cut.none ≡ Cut.none → cut_at k (Ending.never (max t first)) ≡ Cut.none
    go true e d = absurd (subst Empty d tt)
    go false e d =
        let l = leb-false t k e in ap (λ (p : Bool). cond p Cut.never Cut.none) (lt-leb (max t first) k (omega arith))
start_none k Ending.clear first h = refl
start_none k (Ending.gave_up t) first h = go (leb t k) refl h
  where
    go : (p : Bool) → leb t k ≡ p → cond p (Cut.gave_up t) Cut.none ≡ Cut.none → cut_at k (Ending.gave_up (max t first)) ≡ Cut.none
    go true e d = absurd (subst Empty d tt)
    go false e d =
        let l = leb-false t k e in ap (λ (p : Bool). cond p (Cut.gave_up (max t first)) Cut.none) (lt-leb (max t first) k (omega arith))

module _ (c : Circuit) (b k limit first D : ℕ) (small : k ≤ 255) where
  abbrev found : machine.Layered
  found = layered (part_of c b) b first (flat limit) k

  -- where the layers up to the bound do not say clear, all layers say the same
  all-is : (o : machine.Layered) → Other o → found ≡ o
      → layers_stage c b limit first D ≡ Staged.ends (from_start (of_layers o) first)
  unfolding layers_stage layers_ending layered
  all-is o d e =
      ap (λ (z : machine.Layered). Staged.ends (from_start (of_layers z) first))
      (layered-more (part_of c b) b first (flat limit) k 255 small (λ a. subst Other a d) e)

  module _ (work : List ℕ) (r : Layers) (h : LayersOf (part_of c b) b first (flat limit) k work r) where
    pub layers-hit : {t : ℕ} → r ≡ layers.Hit t → Shows c k (layers_stage c b limit first D) work (passed.Hit t)
    unfolding LayersOf
    layers-hit {t} e =
        let (x, s, l, f) = subst (LayersOf (part_of c b) b first (flat limit) k work) e h in (
          x,
          ap (staged_at k) (all-is (machine.Layered.hit t x) tt s) ∙ ap (λ (p : Bool). cond p (Cut.hit t x) Cut.none) (le-leb t k l),
          f,
        )

    pub layers-never : first ≤ k → r ≡ layers.Never → Shows c k (layers_stage c b limit first D) work passed.Never
    unfolding LayersOf
    layers-never within e =
        let (t, s, l) = subst (LayersOf (part_of c b) b first (flat limit) k work) e h in
        ap (staged_at k) (all-is (machine.Layered.never t) tt s)
        ∙ ap (λ (p : Bool). cond p Cut.never Cut.none) (le-leb (max t first) k (omega arith))

    pub layers-left : {t : ℕ} → r ≡ layers.GaveUp t → layers_stage c b limit first D ≡ Staged.ends (Ending.gave_up (max t first))
    unfolding LayersOf
    layers-left {t} e = all-is (machine.Layered.gave_up t) tt (subst (LayersOf (part_of c b) b first (flat limit) k work) e h)

    pub layers-clear : r ≡ layers.Clear → Shows c k (layers_stage c b limit first D) work passed.Nothing
    unfolding LayersOf layers_stage layers_ending layered
    layers-clear e =
        let m = machine_of (part_of c b) b in
        let n = quota (part_of c b) first (flat limit) in
        start_none k (of_layers (machine.layered m n 256)) first
        (layers-cut m n k small
        ∙ ap (λ (o : machine.Layered). cut_at k (of_layers o)) (subst (LayersOf (part_of c b) b first (flat limit) k work) e h))

-- ---- the sets of states

-- a circuit in memory
pub is-proper : {m : List ℕ} {layout : Layout} {order : List ℕ} {n : ℕ} → Ready m layout order n → is_proper (circuit_in m) ≡ true
unfolding is_proper
is-proper {m} r =
    let c = circuit_in m in
    let p = proper r in
    ap (λ (x : Bool). x && (acyclic c && (leb (length c.gates) 3072 && leb (length c.latches) 4096))) (true-T (literals_right c) p.right)
    ∙ ap (λ (x : Bool). x && (leb (length c.gates) 3072 && leb (length c.latches) 4096)) (true-T (acyclic c) p.no-cycle)
    ∙ ap (λ (x : Bool). x && leb (length c.latches) 4096) (le-leb (length c.gates) 3072 p.gates)
    ∙ le-leb (length c.latches) 4096 p.latches

module _ (c : Circuit) (b k share first : ℕ) (right : is_proper c ≡ true) (work : List ℕ) (r : Searched) (h : SetsOf c b first share k work r) where
  -- what is seen of the sets
  seen_of : cut_at k (sets_once c b share first) ≡ cut_at k (stage_ending (part_of c b) b share first)
  unfolding sets_once
  seen_of = ap (λ (p : Bool). cut_at k (cond p (stage_ending (part_of c b) b share first) (Ending.gave_up first))) right

  pub sets-hit : {t : ℕ} → r ≡ searched.Hit t → Shows c k (Staged.ends (sets_once c b share first)) work (passed.Hit t)
  sets-hit {t} e = let (x, q, f) = subst (SetsOf c b first share k work) e h in (x, seen_of ∙ q, f)

  pub sets-clear : r ≡ searched.Clear → Shows c k (Staged.ends (sets_once c b share first)) work passed.Nothing
  sets-clear e = seen_of ∙ subst (SetsOf c b first share k work) e h

  pub sets-never : r ≡ searched.Never → Shows c k (Staged.ends (sets_once c b share first)) work passed.Never
  sets-never e = seen_of ∙ subst (SetsOf c b first share k work) e h

  pub sets-gave-up : {t : ℕ} → r ≡ searched.GaveUp t → Shows c k (Staged.ends (sets_once c b share first)) work (passed.GaveUp t)
  sets-gave-up {t} e = seen_of ∙ subst (SetsOf c b first share k work) e h

-- ---- the sets of states, begun again

-- whether a frame is far enough, by the sizes that the code computes
pub far-is : (c : Circuit) (first t : ℕ) {x y : ℕ} {r : Bool} → x ≡ size c first → y ≡ size c t → r ≡ leb (3 * x) (2 * y) → is_far c first t ≡ r
far-is c first t a b e = sym (e ∙ (λ i. leb (3 * a i) (2 * b i)))

-- from frame `first` on, `left` times at most, the sets show what they show from frame `start` on
pub record Turn (c : Circuit) (b k share start first left : ℕ) : Type 0 where
  pub within : first ≤ k
  pub none : NoneBefore (question c b) first
  pub most : left ≤ 12
  pub same : cut_at k (gone_on (is_far c) (sets_once c b share) left first) ≡ cut_at k (gone_on (is_far c) (sets_once c b share) 12 start)

module _ (c : Circuit) (b k share start D : ℕ) (small : k ≤ 255) where
  pub turn-first : start ≤ k → NoneBefore (question c b) start → Turn c b k share start start 12
  turn-first l n = record { within = l; none = n; most = omega arith; same = refl }

  -- no turn is left
  pub turn_last : {first left : ℕ} → Turn c b k share start first left → left ≡ 0 → (work : List ℕ)
      → Shows c k (sets_stage c b share start D) work (passed.GaveUp first)
  unfolding sets_stage
  turn_last {first} {left} g e work =
      sym g.same ∙ ap (λ (n : ℕ). cut_at k (gone_on (is_far c) (sets_once c b share) n first)) e
      ∙ ap (cut_at k) (on-end (question c b) (is_far c) (sets_once c b share) (once-right c b share) first) ∙ given-up c k first work g.within

  module _ {first left : ℕ} (g : Turn c b k share start first left) (more : 0 < left) where
    all_seen : {x : Cut} → cut_at k (gone_on (is_far c) (sets_once c b share) (suc (left - 1)) first) ≡ x
        → staged_at k (sets_stage c b share start D) ≡ x
    unfolding sets_stage
    all_seen {x} e =
        let n : left ≡ suc (left - 1) = omega arith in
        sym g.same ∙ ap (λ (n : ℕ). cut_at k (gone_on (is_far c) (sets_once c b share) n first)) n ∙ e

    over-seen : {x : Cut} → Over x → cut_at k (sets_once c b share first) ≡ x → staged_at k (sets_stage c b share start D) ≡ x
    over-seen {x} o e =
        all_seen
        (on-over (question c b) (is_far c) (sets_once c b share) (once-right c b share) k (left - 1) first (omega (arith, g.within)) g.none
        (subst Over (sym e) o) ∙ e)

    module _ (work : List ℕ) {a : Passed} (h : Shows c k (Staged.ends (sets_once c b share first)) work a) where
      pub turn-hit : {t : ℕ} → a ≡ passed.Hit t → Shows c k (sets_stage c b share start D) work (passed.Hit t)
      turn-hit {t} e =
          let (x, q, f) = subst (Shows c k (Staged.ends (sets_once c b share first)) work) e h in (x, over-seen tt q, f)

      pub turn-nothing : a ≡ passed.Nothing → Shows c k (sets_stage c b share start D) work passed.Nothing
      turn-nothing e = over-seen tt (subst (Shows c k (Staged.ends (sets_once c b share first)) work) e h)

      pub turn-never : a ≡ passed.Never → Shows c k (sets_stage c b share start D) work passed.Never
      turn-never e = over-seen tt (subst (Shows c k (Staged.ends (sets_once c b share first)) work) e h)

      pub turn-cut-off : {t : ℕ} → a ≡ passed.CutOff t → Shows c k (sets_stage c b share start D) work (passed.CutOff t)
      turn-cut-off {t} e = over-seen tt (subst (Shows c k (Staged.ends (sets_once c b share first)) work) e h)

      module _ {t : ℕ} (e : a ≡ passed.GaveUp t) where
        seen_up : cut_at k (sets_once c b share first) ≡ Cut.gave_up t
        seen_up = subst (Shows c k (Staged.ends (sets_once c b share first)) work) e h

        pub turn-within : t ≤ k
        turn-within = (cut-gave-up k (sets_once c b share first) t seen_up).1

        pub turn-stop : is_far c first t ≡ false → Shows c k (sets_stage c b share start D) work (passed.GaveUp t)
        turn-stop f =
            all_seen
            (on-stop (question c b) (is_far c) (sets_once c b share) (once-right c b share) k (left - 1) first (omega (arith, g.within))
            g.none t seen_up f)

        pub turn_more : is_far c first t ≡ true → Turn c b k share start t (left - 1)
        turn_more f =
            let n : left ≡ suc (left - 1) = omega arith in
            record {
              within = turn-within;
              none =
                  on_none (question c b) (is_far c) (sets_once c b share) (once-right c b share) k (left - 1) first (omega (arith, g.within))
                  g.none t seen_up;
              most = omega (arith, g.most);
              same =
                  ap (cut_at k)
                  (sym (on-more (question c b) (is_far c) (sets_once c b share) (once-right c b share) k (left - 1) first
                  (omega (arith, g.within)) g.none t seen_up f))
                  ∙ ap (λ (n : ℕ). cut_at k (gone_on (is_far c) (sets_once c b share) n first)) (sym n) ∙ g.same;
            }

-- ---- a stage of the list

module _ (c : Circuit) (b k D : ℕ) (work : List ℕ) where
  pub shows-passes : (s : Stage) → Sound (question c b) s → (ss : List Stage) → AllSound (question c b) ss → (first : ℕ) → first ≤ 256
      → NoneBefore (question c b) first → (a : Passed) → Shows c k (s first D) work a → Passes c b k D ss (listed (s ∷ ss) first D) work a
  shows-passes s right ss sound first l n (passed.Hit t) (x, e, f) = (
    x,
    subst (Passing (question c b) ss k D (listed (s ∷ ss) first D)) e (stage-passes (question c b) ss sound k D s right first l n),
    f,
  )
  shows-passes s right ss sound first l n passed.Nothing e =
      subst (Passing (question c b) ss k D (listed (s ∷ ss) first D)) e (stage-passes (question c b) ss sound k D s right first l n)
  shows-passes s right ss sound first l n passed.Never e =
      subst (Passing (question c b) ss k D (listed (s ∷ ss) first D)) e (stage-passes (question c b) ss sound k D s right first l n)
  shows-passes s right ss sound first l n (passed.GaveUp t) e =
      let o : On (question c b) ss k D t (listed (s ∷ ss) first D) =
      subst (Passing (question c b) ss k D (listed (s ∷ ss) first D)) e (stage-passes (question c b) ss sound k D s right first l n) in
      (o.within, o.none, o.gives)
  shows-passes s right ss sound first l n (passed.CutOff t) e =
      subst (Passing (question c b) ss k D (listed (s ∷ ss) first D)) e (stage-passes (question c b) ss sound k D s right first l n)

  -- the layers of round r
  pub first-stage : (first r : ℕ) → first ≤ 256 → NoneBefore (question c b) first → {limit : ℕ} → limit ≡ limit_in 300000 r → {a x : Passed}
      → a ≡ x → Shows c k (layers_stage c b limit first D) work a → (ss : List Stage) → AllSound (question c b) ss
      → Passes c b k D (later_of c b r ++ ss) (listed (round_of c b r ++ ss) first D) work x
  first-stage first r l n {limit} q {a} {x} e h ss sound =
      shows-passes (layers_stage c b (limit_in 300000 r)) (layer-sound c b (limit_in 300000 r)) (later_of c b r ++ ss)
      (sets-sound c b (share_in r), (conflict-sound c b (limit_in 6000 r), sound)) first l n x
      (subst (Shows c k (layers_stage c b (limit_in 300000 r) first D) work) e
      (subst (λ (i : ℕ). Shows c k (layers_stage c b i first D) work a) q h))

  -- what comes after them, from where they give up
  pub later-stages : (r t : ℕ) (ss : List Stage) → AllSound (question c b) ss → (o : Staged)
      → ((t ≤ k) × NoneBefore (question c b) t × (o ≡ listed (later_of c b r ++ ss) t D)) → (a : Passed) → LaterIs c b k D t r work a
      → Passes c b k D ss o work a
  later-stages r t ss sound o (l, n, e) a h = subst (λ (z : Staged). Passes c b k D ss z work a) (sym e) (h ss sound)

  -- the sets of states of round r
  pub sets-stage : (first r : ℕ) → first ≤ 256 → NoneBefore (question c b) first → {share : ℕ} → share ≡ share_in r → {a x : Passed}
      → a ≡ x → Shows c k (sets_stage c b share first D) work a → (ss : List Stage) → AllSound (question c b) ss
      → Passes c b k D (conflict_stage c b (limit_in 6000 r) ∷ ss) (listed (later_of c b r ++ ss) first D) work x
  sets-stage first r l n {share} q {a} {x} e h ss sound =
      shows-passes (sets_stage c b (share_in r)) (sets-sound c b (share_in r)) (conflict_stage c b (limit_in 6000 r) ∷ ss)
      (conflict-sound c b (limit_in 6000 r), sound) first l n x
      (subst (Shows c k (sets_stage c b (share_in r) first D) work) e
      (subst (λ (i : ℕ). Shows c k (sets_stage c b i first D) work a) q h))

  -- its attempts, from where the sets give up
  pub second-stage : (r t : ℕ) (ss : List Stage) → AllSound (question c b) ss → (o : Staged) → k ≤ 255
      → ((t ≤ k) × NoneBefore (question c b) t × (o ≡ listed (conflict_stage c b (limit_in 6000 r) ∷ ss) t D)) → {limit : ℕ}
      → limit ≡ limit_in 6000 r → (a : Passed) → Shows c k (conflict_stage c b limit t D) work a → Passes c b k D ss o work a
  second-stage r t ss sound o small (l, n, e) {limit} q a h =
      subst (λ (z : Staged). Passes c b k D ss z work a) (sym e)
      (shows-passes (conflict_stage c b (limit_in 6000 r)) (conflict-sound c b (limit_in 6000 r)) ss sound t (omega arith) n a
      (subst (λ (i : ℕ). Shows c k (conflict_stage c b i t D) work a) q h))

-- ---- round by round

-- the list goes on with round r at a frame
pub record Ongoing (c : Circuit) (b k D r first : ℕ) : Type 0 where
  pub within : first ≤ k
  pub none : NoneBefore (question c b) first
  pub gives : listed (stages_of c b) 0 D ≡ listed (rounds (round_of c b) r (8 - r)) first D

module _ (c : Circuit) (b k D : ℕ) where
  pub begins : Ongoing c b k D 0 0
  unfolding stages_of
  begins = record { within = omega arith; none = λ u l x h r. omega arith; gives = refl }

  pub turn : {r first : ℕ} → Ongoing c b k D r first → r < 8 → (work : List ℕ) {a x : Passed} → a ≡ x → RoundIs c b k D first r work a
      → Passes c b k D (rounds (round_of c b) (r + 1) (8 - (r + 1))) (listed (stages_of c b) 0 D) work x
  turn {r} {first} g l work {a} {x} e h =
      let n = 8 - (r + 1) in
      let ss = rounds (round_of c b) (r + 1) n in
      let m : 8 - r ≡ suc n = omega arith in
      subst (λ (z : Staged). Passes c b k D ss z work x)
      (sym (g.gives ∙ ap (λ (i : ℕ). listed (rounds (round_of c b) r i) first D) m
      ∙ ap (λ (z : List Stage). listed z first D) (next-round (round_of c b) r n)))
      (subst (Passes c b k D ss (listed (round_of c b r ++ ss) first D) work) e
      (h ss (rounds-sound (question c b) (round_of c b) (round-sound c b) (r + 1) n)))

  pub goes_on : (r : ℕ) {t : ℕ} (work : List ℕ)
      → Passes c b k D (rounds (round_of c b) (r + 1) (8 - (r + 1))) (listed (stages_of c b) 0 D) work (passed.GaveUp t)
      → Ongoing c b k D (r + 1) t
  goes_on r work (l, n, e) = record { within = l; none = n; gives = e }

  pub rounds-end : {r first : ℕ} → Ongoing c b k D r first → 8 ≤ r → staged_at k (listed (stages_of c b) 0 D) ≡ Cut.cut_off first
  unfolding rounds
  rounds-end {r} {first} g l =
      let m : 8 - r ≡ 0 = omega arith in
      ap (staged_at k) (g.gives ∙ ap (λ (i : ℕ). listed (rounds (round_of c b) r i) first D) m) ∙ none_left k D first g.within
