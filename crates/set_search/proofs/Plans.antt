-- An attempt with an order of the latches: its plan, and where it gives up at once. Assumes nothing.
use mathlib.Core.Path.{◌≡◌, refl, sym, ap, ◌∙◌, subst}
use mathlib.Core.Bool.{Bool, true, false, cond, ◌&&◌}
use mathlib.Core.List.{List}
use Prim.Native.Nat.{ℕ, ◌+◌, ◌-◌, ◌*◌, ◌≤◌, ◌<◌}
use native.Mathlib.Omega.{arith}
use borrow.Author.Tests.{leb-true, le-leb, lt-leb}
use lib.Dec.{T, leb}
use lib.ListN.{length, replicate, take, drop, length-drop}
use lib.Seq.{sets, length-take-le}
use Rattle.aiger.specs.Circuit.{Circuit, literals_right, acyclic}
use Rattle.aiger.specs.Frames.{size}
use Rattle.aiger.proofs.Tests.{T_true, true-T, and_left, and_right}
use Rattle.layout.specs.Words.{word, circuit_in}
use Rattle.layout.specs.declared.Layout.{Layout}
use Rattle.layout.specs.Order.{depth_first}
use Rattle.roundtrip.proofs.Holding.{held-valid}
use Rattle.frames.specs.Lanes.{Ready}
use Rattle.limits.proofs.Sizes.{limited, counts_of}
use Rattle.influence.specs.Part.{Part}
use Rattle.influence.specs.Cone.{marks, part_of}
use Rattle.influence.proofs.Cone.{part-closed}
use Rattle.diagram_rows.specs.Rows.{plan_of, plan_length}
use Rattle.row_plans.specs.Plans.{inputs_of, planned, plan_words, Planned}
use Rattle.row_plans.proofs.Read.{planned-inputs}
use Rattle.stages.specs.Endings.{Ending}
use Rattle.set_attempt.specs.Attempt.{is_distinct, attempt_ending}
use Rattle.set_attempt.specs.Stage.{plan_in}
use Rattle.set_attempt.specs.Fit.{Fit}
use Rattle.set_attempt.proofs.Stage.{May, plan-whole, plan-fit}
use Rattle.set_search.specs.Search.{is_able, attempt_at, PlanPut, plan_ending}

-- a circuit in memory is valid, and its counts are within their limits
pub record Proper (c : Circuit) : Type 0 where
  pub right : T (literals_right c)
  pub no-cycle : T (acyclic c)
  pub gates : length c.gates ≤ 3072
  pub latches : length c.latches ≤ 4096

pub proper : {m : List ℕ} {layout : Layout} {order : List ℕ} {n : ℕ} → Ready m layout order n → Proper (circuit_in m)
proper {m} {layout} r =
    let v = held-valid r.held in
    let l = limited r.held r.layout_of in
    let k = counts_of r.held r.layout_of in
    record {
      right = T_true v.literals;
      no-cycle = T_true v.order;
      gates = omega (arith, l.gates, k.gates);
      latches = omega (arith, l.latches, k.latches);
    }

-- the latches and the inputs of a plan that is there as a whole, counted
pub latches-counted : (plan : List ℕ) → plan_length plan ≤ length plan → length (plan_of plan).latches ≡ word plan 0
latches-counted plan l = length-take-le (word plan 0) (drop 3 plan) (omega (arith, length-drop 3 plan))

pub inputs-counted : (plan : List ℕ) → plan_length plan ≤ length plan → length (plan_of plan).inputs ≡ word plan 1
inputs-counted plan l = length-take-le (word plan 1) (drop (3 + word plan 0) plan) (omega (arith, length-drop (3 + word plan 0) plan))

-- the latches of a plan as a part of its words
pub latches-part : (plan : List ℕ) (n : ℕ) → n ≡ word plan 0 → take (3 + n - 3) (drop 3 plan) ≡ (plan_of plan).latches
latches-part plan n e = let z : 3 + n - 3 ≡ word plan 0 = omega arith in ap (λ (i : ℕ). take i (drop 3 plan)) z

-- what is tested of a circuit's part: few latches, and few inputs
pub able-when : (c : Circuit) (b : ℕ) → is_able (part_of c b) b ≡ true
    → (length (part_of c b).kept ≤ 112) × (length (inputs_of c (marks c b)) ≤ 4)
able-when c b e =
    let x = leb (length (part_of c b).kept) 112 in
    let y = leb (length (inputs_of c (marks c b))) 4 in
    let t : T (x && y) = T_true e in (
      leb-true (length (part_of c b).kept) 112 (true-T x (and_left x y t)),
      leb-true (length (inputs_of c (marks c b))) 4 (true-T y (and_right x y t)),
    )

-- too many latches are kept
pub many-kept : (c : Circuit) (b which : ℕ) (before after : List ℕ) → 112 < length (part_of c b).kept → PlanPut c b which before after false
many-kept c b which before after l =
    let e : is_able (part_of c b) b ≡ false =
    ap (λ (x : Bool). x && leb (length (inputs_of c (marks c b))) 4) (lt-leb (length (part_of c b).kept) 112 l) in
    record { able = sym e; words = λ d. clash d }
  where
    clash : {A : Type 0} → false ≡ true → A
    clash e = absurd (let z : ◌≡◌ {A = ℕ} 0 1 = cc in omega arith)

-- the plan of the latches that are kept
pub few-kept : (c : Circuit) (b which : ℕ) (before after kept : List ℕ) (r : Bool) → kept ≡ (part_of c b).kept → length kept ≤ 112
    → Planned (planned c (marks c b) (depth_first c) which kept) before after r → PlanPut c b which before after r
few-kept c b which before after kept r same l h =
    let x = leb (length (inputs_of c (marks c b))) 4 in
    record {
      able =
          h.few ∙ ap (λ (is : List ℕ). leb (length is) 4) (planned-inputs c (marks c b) (depth_first c) which kept)
          ∙ sym (ap (λ (y : Bool). y && x) (le-leb (length (part_of c b).kept) 112 (omega (arith, ap length same))));
      words = λ e. h.words ∙ ap (λ (js : List ℕ). sets before 0 (plan_words (planned c (marks c b) (depth_first c) which js))) same;
    }

module _ (c : Circuit) (b : ℕ) (given : Proper c) (share first n which : ℕ) (plan : List ℕ) (r : Bool) (h : PlanPut c b which (replicate 3191 0) plan r) where
  abbrev part : Part
  part = part_of c b

  -- too many latches or inputs
  pub wide-so : r ≡ false → attempt_at (part_of c b) b share first n which ≡ Ending.gave_up 0
  unfolding attempt_at
  wide-so e =
      ap (λ (d : Bool). cond d (attempt_ending c b (plan_in part b which) (16 * size c first) share first n) (Ending.gave_up 0)) (sym h.able ∙ e)

  module _ (large : 1024 ≤ size c first) (e : r ≡ true) where
    may : May part given.right given.no-cycle b (part-closed c b) given.gates given.latches first
    may = let a = able-when c b (sym h.able ∙ e) in record { vars = a.0; inputs = a.1; large = large }

    plan-in : plan ≡ plan_in (part_of c b) b which
    plan-in = h.words e

    pub whole : plan_length plan ≤ length plan
    whole =
        subst (λ (p : List ℕ). plan_length p ≤ length p) (sym plan-in)
        (plan-whole part given.right given.no-cycle b (part-closed c b) given.gates given.latches first may which)

    able-so : attempt_at (part_of c b) b share first n which ≡ attempt_ending c b (plan_in (part_of c b) b which) (16 * size c first) share first n
    unfolding attempt_at
    able-so =
        ap (λ (d : Bool). cond d (attempt_ending c b (plan_in part b which) (16 * size c first) share first n) (Ending.gave_up 0)) (sym h.able ∙ e)

    attempt-is : (d : Bool) → is_distinct (plan_of plan).latches ≡ d
        → attempt_ending c b (plan_in (part_of c b) b which) (16 * size c first) share first n ≡ cond d (plan_ending c b share first n plan) (Ending.gave_up 0)
    unfolding attempt_ending
    attempt-is d q =
        ap (λ (p : List ℕ). cond (is_distinct (plan_of p).latches) (plan_ending c b share first n p) (Ending.gave_up 0)) (sym plan-in)
        ∙ ap (λ (x : Bool). cond x (plan_ending c b share first n plan) (Ending.gave_up 0)) q

    -- a latch is there twice
    pub twice-so : is_distinct (plan_of plan).latches ≡ false → attempt_at (part_of c b) b share first n which ≡ Ending.gave_up 0
    twice-so q = able-so ∙ attempt-is false q

    -- else the attempt is that of the plan, which fits
    pub plan-so : is_distinct (plan_of plan).latches ≡ true → attempt_at (part_of c b) b share first n which ≡ plan_ending c b share first n plan
    plan-so q = able-so ∙ attempt-is true q

    pub fits-so : is_distinct (plan_of plan).latches ≡ true → Fit (part_of c b) plan
    fits-so q =
        subst (Fit part) (sym plan-in)
        (plan-fit part given.right given.no-cycle b (part-closed c b) given.gates given.latches first may which
        (subst (λ (p : List ℕ). is_distinct (plan_of p).latches ≡ true) plan-in q))

    pub vars-most : is_distinct (plan_of plan).latches ≡ true → word plan 0 ≤ 112
    vars-most q = omega (arith, latches-counted plan whole, (fits-so q).vars)
