-- What the list of stages and the decisions after it choose is permitted; and how a program comes to it stage by stage, with a bound.
-- Assumes nothing.
use mathlib.Core.Path.{◌≡◌, refl, sym, ap, ◌∙◌, subst}
use mathlib.Core.Bool.{Bool, true, false, cond}
use mathlib.Core.List.{List, [], ◌∷◌}
use Prim.Native.Nat.{ℕ, zero, suc, ◌+◌, ◌-◌, ◌≤◌, ◌<◌}
use native.Mathlib.Decide.{dec_lt}
use native.Mathlib.Numerals.{add-one}
use native.Mathlib.Omega.{arith}
use borrow.Author.Count.{below_more}
use borrow.Author.Tests.{leb-true, leb-false, le-leb, lt-leb}
use lib.Dec.{T, leb}
use Rattle.aiger.specs.Search.{Question, Decision, Outcome, permitted_of}
use Rattle.meaning.proofs.Decisions as decisions
use Rattle.meaning.proofs.Outcomes.{Clear, Quiet, found_in, none_in, spent-in}
use Rattle.stages.specs.Endings.{Ending, Cut, Staged, Stage, staged_at, NoHit, NoneBefore, FirstAt}
use Rattle.stages.specs.Endings.{StagedRight, FromOn, Sound, AllSound}
use Rattle.stages.specs.Choice.{followed, listed, outcome_of, chosen_from, on_from, seen, outcome_at}
use Rattle.stages.specs.Choice.{outcome_from, chosen_by, never_by, is_never}
use Rattle.stages.proofs.Lists.{from_first, listed-sound}

-- past the bound there is no frame
pub on-past : (f : ℕ → Decision) (k t : ℕ) → k < t → on_from f k t ≡ Outcome.none k
unfolding chosen_from
on-past f k t h = let e : k + 1 - t ≡ 0 = omega arith in ap (chosen_from f k t) e

-- where it is seen that no frame at all has a hit, this is known at a frame up to the bound
pub never-is : (k : ℕ) (s : Staged) → T (is_never (staged_at k s)) → (t : ℕ) × (t ≤ k) × (s ≡ Staged.ends (Ending.never t))
never-is k (Staged.ends (Ending.hit t x)) = go (leb t k)
  where
    go : (p : Bool) → T (is_never (cond p (Cut.hit t x) Cut.none)) → (u : ℕ) × (u ≤ k) × (Staged.ends (Ending.hit t x) ≡ Staged.ends (Ending.never u))
    go true h = absurd h
    go false h = absurd h
never-is k (Staged.ends (Ending.never t)) = λ h. elim (dec_lt k t) [
  | yes l ↦ absurd (subst (λ (p : Bool). T (is_never (cond p Cut.never Cut.none))) (lt-leb t _ (omega arith)) h)
  | no l ↦ (t, omega arith, refl)
]
never-is k (Staged.ends Ending.clear) = λ h. absurd h
never-is k (Staged.ends (Ending.gave_up t)) = go (leb t k)
  where
    go : (p : Bool) → T (is_never (cond p (Cut.gave_up t) Cut.none)) → (u : ℕ) × (u ≤ k) × (Staged.ends (Ending.gave_up t) ≡ Staged.ends (Ending.never u))
    go true h = absurd h
    go false h = absurd h
never-is k (Staged.cut_off t) = go (leb t k)
  where
    go : (p : Bool) → T (is_never (cond p (Cut.cut_off t) Cut.none)) → (u : ℕ) × (u ≤ k) × (Staged.cut_off t ≡ Staged.ends (Ending.never u))
    go true h = absurd h
    go false h = absurd h

module _ (q : Question) where
  pub quiet_of : (t : ℕ) → NoneBefore q t → Quiet q t
  quiet_of t n u l x a h r = n u l x h r

  pub none_of : (t : ℕ) → Quiet q t → NoneBefore q t
  none_of t n u l x h r = n u l x (omega arith) h r

  pub first-of : {t x : ℕ} → FirstAt q t x → decisions.FirstHit (q.hitting t) (q.places t) 0 x
  first-of f = record { from = omega arith; fits = f.fits; first = λ y a h r. f.first y h r; hit = f.hits }

  none-at-start : NoneBefore q 0
  none-at-start u l x h r = omega arith

  -- ---- frame by frame

  module _ (f : ℕ → Decision) (k D : ℕ) (right : (t : ℕ) → decisions.Says (q.hitting t) (q.places t) 0 D (f t)) where
    -- one frame, where the later ones give a permitted outcome
    step : (t : ℕ) → t ≤ k → Quiet q t → (later : Outcome) → (Quiet q (t + 1) → T (permitted_of q k D later)) → (d : Decision)
        → decisions.Says (q.hitting t) (q.places t) 0 D d → T (permitted_of q k D (outcome_of d t later))
    step t l h later r (Decision.hit x) s = found_in q k D t (record { within = l; quiet = h; place = x; first = s })
    step t l h later r Decision.clear s = r (below_more (λ u. Clear q u (q.places u)) t h s)
    step t l h later r Decision.spent s = spent-in q k D t (record { within = l; quiet = h; first = s })

    -- frames from t on, where none before it has a hit
    pub from : (n t : ℕ) → t + n ≡ k + 1 → Quiet q t → T (permitted_of q k D (chosen_from f k t n))
    unfolding chosen_from
    from zero t e h = none_in q k D k (record { bound = refl; quiet = subst (Quiet q) (omega arith) h })
    from (suc n) t e h =
        step t (omega arith) h (chosen_from f k (suc t) n) (λ r. from n (suc t) (omega arith) (subst (Quiet q) (add-one t) r)) (f t) (right t)

    none-up-to : (t : ℕ) → k < t → NoneBefore q t → T (permitted_of q k D (Outcome.none k))
    none-up-to t l n = none_in q k D k (record { bound = refl; quiet = quiet_of (k + 1) (λ u h. n u (omega arith)) })

    pub on-permitted : (t : ℕ) → NoneBefore q t → T (permitted_of q k D (on_from f k t))
    on-permitted t n = elim (dec_lt k t) [
      | yes h ↦ subst (λ (o : Outcome). T (permitted_of q k D o)) (sym (on-past f k t h)) (none-up-to t h n)
      | no h ↦ from (k + 1 - t) t (omega arith) (quiet_of t n)
    ]

    -- what a bound of at most 255 sees of a result that is right
    pub outcome-permitted : k ≤ 255 → (first : ℕ) (s : Staged) → StagedRight q first s → T (permitted_of q k D (outcome_at f k s))
    outcome-permitted small first (Staged.ends (Ending.hit t x)) (a, b, n, h) = go (leb t k) refl
      where
        go : (p : Bool) → leb t k ≡ p → T (permitted_of q k D (seen f k (cond p (Cut.hit t x) Cut.none)))
        go true e = found_in q k D t (record { within = leb-true t k e; quiet = quiet_of t n; place = x; first = first-of h })
        go false e = none-up-to t (leb-false t k e) n
    outcome-permitted small first (Staged.ends (Ending.never t)) (a, b, n) = go (leb t k)
      where
        go : (p : Bool) → T (permitted_of q k D (seen f k (cond p Cut.never Cut.none)))
        go true = none-up-to (k + 1) (omega arith) (λ u l. n u)
        go false = none-up-to (k + 1) (omega arith) (λ u l. n u)
    outcome-permitted small first (Staged.ends Ending.clear) h = none-up-to 256 (omega arith) h
    outcome-permitted small first (Staged.ends (Ending.gave_up t)) (a, b, n) = go (leb t k) refl
      where
        go : (p : Bool) → leb t k ≡ p → T (permitted_of q k D (seen f k (cond p (Cut.gave_up t) Cut.none)))
        go true e = on-permitted t n
        go false e = none-up-to t (leb-false t k e) n
    outcome-permitted small first (Staged.cut_off t) (a, b, n) = go (leb t k) refl
      where
        go : (p : Bool) → leb t k ≡ p → T (permitted_of q k D (seen f k (cond p (Cut.cut_off t) Cut.none)))
        go true e = on-permitted t n
        go false e = none-up-to t (leb-false t k e) n

  -- ---- the choice

  module _ (stages : List Stage) (sound : AllSound q stages) where
    pub list_right : (D : ℕ) → StagedRight q 0 (listed stages 0 D)
    list_right D = (listed-sound q stages sound).right 0 D (omega arith) none-at-start

    -- what is chosen is permitted, where the decision under a budget says what that budget permits
    pub chosen-permitted : (decide : ℕ → ℕ → Decision) (k D : ℕ) → k ≤ 255
        → ((t : ℕ) → decisions.Says (q.hitting t) (q.places t) 0 D (decide t D)) → T (permitted_of q k D (chosen_by stages decide k D))
    unfolding chosen_by
    chosen-permitted decide k D small right =
        outcome-permitted (λ t. decide t D) k D right small 0 (listed stages 0 D) (list_right D)

    -- the flag: no frame at all has a hit, and the search chooses none
    pub never-none : (k D : ℕ) → T (never_by stages k D) → (t : ℕ) → NoHit q t
    unfolding never_by
    never-none k D h = let (t, a, e) = never-is k (listed stages 0 D) h in (subst (StagedRight q 0) e (list_right D)).2

    pub never-chosen : (k D : ℕ) → T (never_by stages k D) → (decide : ℕ → ℕ → Decision) → chosen_by stages decide k D ≡ Outcome.none k
    unfolding never_by chosen_by
    never-chosen k D h decide = go (staged_at k (listed stages 0 D)) h
      where
        go : (c : Cut) → T (is_never c) → seen (λ t. decide t D) k c ≡ Outcome.none k
        go (Cut.hit t x) h = absurd h
        go Cut.never h = refl
        go Cut.none h = absurd h
        go (Cut.gave_up t) h = absurd h
        go (Cut.cut_off t) h = absurd h

-- ---- a program with bound k takes the stages one after the other

-- a stage that begins past the bound shows nothing
pub past_bound : (k t : ℕ) → k < t → (s : Staged) → FromOn t s → staged_at k s ≡ Cut.none
past_bound k t l (Staged.ends (Ending.hit u x)) h = ap (λ (p : Bool). cond p (Cut.hit u x) Cut.none) (lt-leb u k (omega arith))
past_bound k t l (Staged.ends (Ending.never u)) h = ap (λ (p : Bool). cond p Cut.never Cut.none) (lt-leb u k (omega arith))
past_bound k t l (Staged.ends Ending.clear) h = refl
past_bound k t l (Staged.ends (Ending.gave_up u)) h = ap (λ (p : Bool). cond p (Cut.gave_up u) Cut.none) (lt-leb u k (omega arith))
past_bound k t l (Staged.cut_off u) h = ap (λ (p : Bool). cond p (Cut.cut_off u) Cut.none) (lt-leb u k (omega arith))

-- where no stage is left each frame is decided by itself
pub no-stage : (decide : ℕ → ℕ → Decision) (k D first : ℕ) → first ≤ k → outcome_from [] decide k D first ≡ on_from (λ t. decide t D) k first
unfolding listed
no-stage decide k D first l = ap (λ (p : Bool). seen (λ t. decide t D) k (cond p (Cut.cut_off first) Cut.none)) (le-leb first k l)

-- what the next stages are asked, and what is so of the frame at which they begin
pub record Onward (q : Question) (ss : List Stage) (decide : ℕ → ℕ → Decision) (k D t : ℕ) (o : Outcome) : Type 0 where
  pub within : t ≤ k
  pub none : NoneBefore q t
  pub gives : o ≡ outcome_from ss decide k D t

-- what is seen of the first stage leads to
abbrev pub Leads : Question → List Stage → (ℕ → ℕ → Decision) → ℕ → ℕ → Outcome → Cut → Type 0
Leads q ss decide k D o (Cut.hit t x) = (t ≤ k) × (o ≡ Outcome.found t) × FirstAt q t x
Leads q ss decide k D o Cut.never = o ≡ Outcome.none k
Leads q ss decide k D o Cut.none = o ≡ Outcome.none k
Leads q ss decide k D o (Cut.gave_up t) = Onward q ss decide k D t o
Leads q ss decide k D o (Cut.cut_off t) = (t ≤ k) × (o ≡ on_from (λ t. decide t D) k t)

module _ (q : Question) (ss : List Stage) (sound : AllSound q ss) (decide : ℕ → ℕ → Decision) (k D : ℕ) where
  leads : (first : ℕ) (s : Staged) → StagedRight q first s
      → Leads q ss decide k D (outcome_at (λ t. decide t D) k (followed s (λ t. listed ss t D))) (staged_at k s)
  leads first (Staged.ends (Ending.hit t x)) (a, b, n, h) = go (leb t k) refl
    where
      go : (p : Bool) → leb t k ≡ p
          → Leads q ss decide k D (seen (λ t. decide t D) k (cond p (Cut.hit t x) Cut.none)) (cond p (Cut.hit t x) Cut.none)
      go true e = (leb-true t k e, refl, h)
      go false e = refl
  leads first (Staged.ends (Ending.never t)) h = go (leb t k)
    where
      go : (p : Bool) → Leads q ss decide k D (seen (λ t. decide t D) k (cond p Cut.never Cut.none)) (cond p Cut.never Cut.none)
      go true = refl
      go false = refl
  leads first (Staged.ends Ending.clear) h = refl
  leads first (Staged.ends (Ending.gave_up t)) (a, b, n) = go (leb t k) refl
    where
      go : (p : Bool) → leb t k ≡ p → Leads q ss decide k D (outcome_from ss decide k D t) (cond p (Cut.gave_up t) Cut.none)
      go true e = record { within = leb-true t k e; none = n; gives = refl }
      go false e =
          ap (seen (λ t. decide t D) k) (past_bound k t (leb-false t k e) (listed ss t D)
          (from_first q t (listed ss t D) ((listed-sound q ss sound).right t D b n)))
  leads first (Staged.cut_off t) h = go (leb t k) refl
    where
      go : (p : Bool) → leb t k ≡ p
          → Leads q ss decide k D (seen (λ t. decide t D) k (cond p (Cut.cut_off t) Cut.none)) (cond p (Cut.cut_off t) Cut.none)
      go true e = (leb-true t k e, refl)
      go false e = refl

  -- the list with a stage before it
  pub stage-leads : (s : Stage) → Sound q s → (first : ℕ) → first ≤ 256 → NoneBefore q first
      → Leads q ss decide k D (outcome_from (s ∷ ss) decide k D first) (staged_at k (s first D))
  unfolding listed
  stage-leads s right first l n = leads first (s first D) (right.right first D l n)
