-- Attempts with the orders of the latches in turn, and what a bound lets be seen of them. Assumes nothing.
use mathlib.Core.Path.{◌≡◌, refl, sym, ap, ◌∙◌, subst}
use mathlib.Core.Bool.{Bool, true, false, cond, ◌&&◌}
use mathlib.Core.List.{List, [], ◌∷◌}
use Prim.Native.Nat.{ℕ, zero, suc, ◌+◌, ◌*◌, ◌≤◌, ◌<◌, max}
use native.Mathlib.Omega.{arith}
use borrow.Author.Tests.{lt-ltb, le-ltb, le-leb, lt-leb}
use lib.Dec.{ltb, leb}
use lib.ListN.{length, get_or, drop}
use Rattle.aiger.specs.Circuit.{Circuit}
use Rattle.aiger.specs.Frames.{size}
use Rattle.influence.specs.Part.{Part}
use Rattle.influence.specs.Cone.{marks, part_of}
use Rattle.row_plans.specs.Plans.{inputs_of}
use Rattle.stages.specs.Endings.{Ending, Cut, cut_at}
use Rattle.set_attempt.specs.Attempt.{attempt_ending, or_later, in_turn, orders, sets_within}
use Rattle.set_attempt.specs.Stage.{plan_in, may_try, trial_of, stage_ending}
use Rattle.set_attempt.proofs.Bound.{sets-cut}
use Rattle.set_frames.specs.declared.Reached.{Reached}
use Rattle.set_frames.specs.declared.Reached.TheVariants as reached
use Rattle.set_search.specs.declared.Searched.TheVariants as searched
use Rattle.set_search.specs.Search.{Reaches, is_able, attempt_at, SetsOf}
use Rattle.set_search.proofs.Below.{Names, attempt-names}

-- ---- the orders, one after the other

order-at : (i : ℕ) → i < 4 → drop i orders ≡ get_or orders i 0 ∷ drop (suc i) orders
order-at zero l = refl
order-at (suc zero) l = refl
order-at (suc (suc zero)) l = refl
order-at (suc (suc (suc zero))) l = refl
order-at (suc (suc (suc (suc i)))) l = absurd (omega arith)

-- attempts that give up at frame 0 decide nothing
none-turn : (first : ℕ) (ws : List ℕ) → in_turn first (λ w. Ending.gave_up 0) ws ≡ Ending.gave_up first
unfolding in_turn
none-turn first [] = refl
none-turn first (w ∷ ws) =
    ap (λ (d : Bool). cond d (Ending.gave_up 0) (in_turn first (λ w. Ending.gave_up 0) ws)) (le-ltb first 0 (omega arith)) ∙ none-turn first ws

-- the last of them
pub last-order : (i : ℕ) → i < 4 → 3 ≤ i → ◌≡◌ {A = ℕ} 2 (get_or orders i 0)
last-order i l h = let e : i ≡ 3 = omega arith in ap (λ (j : ℕ). get_or orders j 0) (sym e)

-- what bound k lets be seen of the stage is what it lets be seen of the attempts from attempt i on
abbrev pub From : Part → (b share first k i : ℕ) → Type 0
From part b share first k i = cut_at k (stage_ending part b share first) ≡ cut_at k (in_turn first (attempt_at part b share first (k + 1)) (drop i orders))

module _ (part : Part) (b share first k : ℕ) (within : first ≤ k) (small : k ≤ 255) where
  abbrev c : Circuit
  c = part.circuit

  abbrev able : Bool
  able = is_able part b

  abbrev narrow : Bool
  narrow = leb (length (inputs_of part.circuit (marks part.circuit b))) 4

  gave-up : (t : ℕ) → t ≤ k → cut_at k (Ending.gave_up t) ≡ Cut.gave_up t
  gave-up t l = ap (λ (p : Bool). cond p (Cut.gave_up t) Cut.none) (le-leb t k l)

  -- ---- before the attempts

  within-is : (may : Bool) → may_try part b first ≡ may
      → sets_within part.circuit b (trial_of part b share) (k + 1) first
      ≡ cond may (in_turn first (λ w. attempt_ending part.circuit b (plan_in part b w) (16 * size part.circuit first) share first (k + 1)) orders)
      (Ending.gave_up first)
  unfolding sets_within
  within-is may e =
      ap (λ (d : Bool). cond d (in_turn first (λ w. attempt_ending c b (plan_in part b w) (16 * size c first) share first (k + 1)) orders)
      (Ending.gave_up first)) e

  stage_is : (may : Bool) → may_try part b first ≡ may
      → cut_at k (stage_ending part b share first)
      ≡ cut_at k (cond may (in_turn first (λ w. attempt_ending part.circuit b (plan_in part b w) (16 * size part.circuit first) share first (k + 1)) orders)
      (Ending.gave_up first))
  stage_is may e = sets-cut k first within small c b (trial_of part b share) ∙ ap (cut_at k) (within-is may e)

  attempts-are : (d : Bool) → is_able part b ≡ d
      → in_turn first (attempt_at part b share first (k + 1)) orders
      ≡ cond d (in_turn first (λ w. attempt_ending part.circuit b (plan_in part b w) (16 * size part.circuit first) share first (k + 1)) orders)
      (Ending.gave_up first)
  unfolding attempt_at
  attempts-are true e =
      λ i. in_turn first (λ w. cond (e i) (attempt_ending c b (plan_in part b w) (16 * size c first) share first (k + 1)) (Ending.gave_up 0)) orders
  attempts-are false e =
      (λ i. in_turn first (λ w. cond (e i) (attempt_ending c b (plan_in part b w) (16 * size c first) share first (k + 1)) (Ending.gave_up 0)) orders)
      ∙ none-turn first orders

  -- the first frame is large enough
  pub turns-start : 1024 ≤ size part.circuit first → From part b share first k 0
  turns-start large = go able refl
    where
      and-true : (x y : Bool) → (x && (y && true)) ≡ (x && y)
      and-true x true = refl
      and-true x false = refl

      may-is : may_try part b first ≡ is_able part b
      may-is =
          ap (λ (x : Bool). leb (length part.kept) 112 && (narrow && x)) (le-leb 1024 (size c first) large)
          ∙ and-true (leb (length part.kept) 112) narrow

      go : (d : Bool) → is_able part b ≡ d → From part b share first k 0
      go d e = stage_is d (may-is ∙ e) ∙ sym (ap (cut_at k) (attempts-are d e))

  -- else the stage gives up at once
  not-tried : may_try part b first ≡ false → cut_at k (stage_ending part b share first) ≡ Cut.gave_up first
  not-tried e = stage_is false e ∙ gave-up first within

  pub small-frame : size part.circuit first < 1024 → cut_at k (stage_ending part b share first) ≡ Cut.gave_up first
  small-frame l =
      not-tried (ap (λ (x : Bool). leb (length part.kept) 112 && (narrow && x)) (lt-leb 1024 (size c first) l) ∙ none (leb (length part.kept) 112) narrow)
    where
      none : (x y : Bool) → (x && (y && false)) ≡ false
      none true true = refl
      none true false = refl
      none false y = refl

  pub not-able : is_able part b ≡ false → cut_at k (stage_ending part b share first) ≡ Cut.gave_up first
  not-able e = not-tried (none (leb (length part.kept) 112) narrow (leb 1024 (size c first)) e)
    where
      none : (x y z : Bool) → (x && y) ≡ false → (x && (y && z)) ≡ false
      none true true z e = absurd (let z : ◌≡◌ {A = ℕ} 0 1 = cc in omega arith)
      none true false z e = refl
      none false y z e = refl

  -- ---- an attempt

  module _ (i : ℕ) (il : i < 4) (from : From part b share first k i) where
    abbrev e : Ending
    e = attempt_at part b share first (k + 1) (get_or orders i 0)

    abbrev later : Ending
    later = in_turn first (attempt_at part b share first (k + 1)) (drop (suc i) orders)

    next-is : cut_at k (stage_ending part b share first)
        ≡ cut_at k (or_later first (attempt_at part b share first (k + 1) (get_or orders i 0)) (in_turn first (attempt_at part b share first (k + 1)) (drop (suc i) orders)))
    unfolding in_turn
    next-is = from ∙ ap (λ (ws : List ℕ). cut_at k (in_turn first (attempt_at part b share first (k + 1)) ws)) (order-at i il)

    names : Names (k + 1) (attempt_at part b share first (k + 1) (get_or orders i 0))
    unfolding attempt_at
    names = go able
      where
        go : (d : Bool) → Names (k + 1)
            (cond d (attempt_ending part.circuit b (plan_in part b (get_or orders i 0)) (16 * size part.circuit first) share first (k + 1)) (Ending.gave_up 0))
        go true = attempt-names c b (plan_in part b (get_or orders i 0)) (16 * size c first) share first (k + 1) (omega arith)
        go false = omega arith

    -- with another ending that it is
    so : {x : Ending} → attempt_at part b share first (k + 1) (get_or orders i 0) ≡ x
        → cut_at k (stage_ending part b share first) ≡ cut_at k (or_later first x (in_turn first (attempt_at part b share first (k + 1)) (drop (suc i) orders)))
    so {x} q = next-is ∙ ap (λ (y : Ending). cut_at k (or_later first y later)) q

    pub ends-hit : (t x : ℕ) → attempt_at part b share first (k + 1) (get_or orders i 0) ≡ Ending.hit t x → t ≤ k
        → cut_at k (stage_ending part b share first) ≡ Cut.hit t x
    ends-hit t x q l = so q ∙ ap (λ (p : Bool). cond p (Cut.hit t x) Cut.none) (le-leb t k l)

    pub ends-never : (t : ℕ) → attempt_at part b share first (k + 1) (get_or orders i 0) ≡ Ending.never t
        → cut_at k (stage_ending part b share first) ≡ Cut.never
    ends-never t q =
        let l : t < k + 1 = subst (Names (k + 1)) q names in
        so q ∙ ap (λ (p : Bool). cond p Cut.never Cut.none) (le-leb (max t first) k (omega arith))

    pub ends-clear : attempt_at part b share first (k + 1) (get_or orders i 0) ≡ Ending.clear → cut_at k (stage_ending part b share first) ≡ Cut.none
    ends-clear q = so q

    pub ends-gave-up : (t : ℕ) → attempt_at part b share first (k + 1) (get_or orders i 0) ≡ Ending.gave_up t → first < t
        → cut_at k (stage_ending part b share first) ≡ Cut.gave_up t
    ends-gave-up t q d =
        let l : t < k + 1 = subst (Names (k + 1)) q names in
        so q ∙ ap (λ (p : Bool). cut_at k (cond p (Ending.gave_up t) later)) (lt-ltb first t d) ∙ gave-up t (omega arith)

    pub turns-on : (t : ℕ) → attempt_at part b share first (k + 1) (get_or orders i 0) ≡ Ending.gave_up t → t ≤ first → From part b share first k (i + 1)
    turns-on t q d =
        let n : suc i ≡ i + 1 = omega arith in
        so q ∙ ap (λ (p : Bool). cut_at k (cond p (Ending.gave_up t) later)) (le-ltb first t d)
        ∙ ap (λ (j : ℕ). cut_at k (in_turn first (attempt_at part b share first (k + 1)) (drop j orders))) n

  -- no attempt is left
  pub turns-end : From part b share first k 4 → cut_at k (stage_ending part b share first) ≡ Cut.gave_up first
  unfolding in_turn
  turns-end from = from ∙ gave-up first within

-- ---- what the code answers

module _ (c : Circuit) (b share first k : ℕ) (within : first ≤ k) (small : k ≤ 255) where
  -- attempt i reaches x
  abbrev Attempted : ℕ → List ℕ → Reached → Type 0
  Attempted w work r = Reaches c k (attempt_at (part_of c b) b share first (k + 1) w) work r

  module _ (i : ℕ) (il : i < 4) (from : From (part_of c b) b share first k i) (w : ℕ) (which : w ≡ get_or orders i 0) (work : List ℕ) (r : Reached)
      (h : Reaches c k (attempt_at (part_of c b) b share first (k + 1) w) work r) where
    is : {x : Reached} → r ≡ x → Reaches c k (attempt_at (part_of c b) b share first (k + 1) (get_or orders i 0)) work x
    is {x} e = subst (λ (v : ℕ). Attempted v work x) which (subst (Attempted w work) e h)

    pub hit-arm : {t : ℕ} → r ≡ reached.Hit t → SetsOf c b first share k work (searched.Hit t)
    hit-arm {t} e = let (x, q, l, f) = is e in (x, ends-hit (part_of c b) b share first k within small i il from t x q l, f)

    pub never-arm : {t : ℕ} → r ≡ reached.Never t → SetsOf c b first share k work searched.Never
    never-arm {t} e = ends-never (part_of c b) b share first k within small i il from t (is e)

    pub clear-arm : r ≡ reached.Clear → SetsOf c b first share k work searched.Clear
    clear-arm e = ends-clear (part_of c b) b share first k within small i il from (is e)

    pub gave-up-arm : {t : ℕ} → r ≡ reached.GaveUp t → first < t → SetsOf c b first share k work (searched.GaveUp t)
    gave-up-arm {t} e l = ends-gave-up (part_of c b) b share first k within small i il from t (is e) l

    pub next-arm : {t : ℕ} → r ≡ reached.GaveUp t → t ≤ first → From (part_of c b) b share first k (i + 1)
    next-arm {t} e l = turns-on (part_of c b) b share first k within small i il from t (is e) l

  -- no attempt is left
  pub end-arm : {i f : ℕ} → From (part_of c b) b share first k i → i ≡ 4 → f ≡ first → (work : List ℕ) → SetsOf c b first share k work (searched.GaveUp f)
  end-arm {i} {f} from e q work =
      turns-end (part_of c b) b share first k within small (subst (From (part_of c b) b share first k) e from) ∙ ap (λ (t : ℕ). Cut.gave_up t) (sym q)
