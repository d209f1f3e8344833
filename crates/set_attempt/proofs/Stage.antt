-- The stage of a circuit is one that the list of stages may have. Assumes nothing.
use mathlib.Core.Path.{◌≡◌, refl, sym, ap, ◌∙◌, subst}
use mathlib.Core.Bool.{Bool, true, false, not, cond, ◌&&◌}
use mathlib.Core.List.{List, [], ◌∷◌, ◌++◌}
use Prim.Native.Nat.{ℕ, zero, suc, ◌+◌, ◌*◌, ◌≤◌, ◌<◌}
use native.Mathlib.Decide.{dec_lt}
use native.Mathlib.Omega.{arith}
use borrow.Author.Tests.{leb-true, eq-eqb}
use lib.Dec.{T, eqb, leb}
use lib.ListN.{length, get_or, replicate, length-append, length-replicate}
use Rattle.aiger.specs.Lists.{every_below}
use Rattle.aiger.specs.Circuit.{Circuit, literals_right, acyclic}
use Rattle.aiger.specs.Frames.{size}
use Rattle.aiger.specs.Search.{question}
use Rattle.aiger.proofs.Tests.{T_true, true-T, and_left, and_right, below_at}
use Rattle.layout.specs.Order.{depth_first}
use Rattle.meaning.specs.Frame.{input_at}
use Rattle.influence.specs.Part.{Part, Listed, Closed}
use Rattle.influence.specs.Cone.{marked, marks}
use Rattle.diagram_rows.specs.Rows.{Plan, plan_of, plan_length}
use Rattle.row_plans.specs.Plans.{inputs_of, gates_of, listed, planned, plan_words}
use Rattle.row_plans.proofs.Kept.{marks-small}
use Rattle.row_plans.proofs.Read.{plan-read, plan-fits, planned-inputs, planned-size, planned-kept}
use Rattle.set_stage.specs.Plans.{Among}
use Rattle.stages.specs.Endings.{any_budget, Sound}
use Rattle.set_attempt.specs.Attempt.{is_new, is_distinct}
use Rattle.set_attempt.specs.Stage.{plan_in, may_try, trial_of, stage_ending}
use Rattle.set_attempt.specs.Fit.{Fit}
use Rattle.set_attempt.proofs.Sound.{Fair, sets-sound}

-- words of which none is there twice
pub distinct : (xs : List ℕ) → is_distinct xs ≡ true → (u v : ℕ) → u < length xs → v < length xs → get_or xs u 0 ≡ get_or xs v 0 → u ≡ v
unfolding is_distinct
distinct xs e u v ul vl q = elim (dec_lt u v) [
  | yes l ↦ absurd (twice u v l vl q)
  | no l ↦ elim (dec_lt v u) [ yes k ↦ absurd (twice v u k ul (sym q)) | no k ↦ omega arith ]
]
  where
    twice : (i j : ℕ) → i < j → j < length xs → get_or xs i 0 ≡ get_or xs j 0 → ⊥
    twice i j l h z =
        let t = below_at (length xs) (is_new xs) (T_true e) j h in
        let d = below_at j (λ u. not (eqb (get_or xs u 0) (get_or xs j 0))) t i l in
        subst (λ (b : Bool). T (not b)) (eq-eqb (get_or xs i 0) (get_or xs j 0) z) d

listed-size : (p : ℕ → Bool) (f : ℕ → ℕ) (n : ℕ) → length (listed p f n) ≤ n
unfolding listed
listed-size p f zero = omega arith
listed-size p f (suc n) = go (p n) (listed-size p f n)
  where
    go : (b : Bool) → length (listed p f n) ≤ n → length (cond b (listed p f n ++ (f n ∷ [])) (listed p f n)) ≤ suc n
    go true h = omega (arith, length-append (listed p f n) (f n ∷ []))
    go false h = omega arith

planned-gates : (c : Circuit) (ms order : List ℕ) (which : ℕ) (js : List ℕ) → length (planned c ms order which js).gates ≤ length c.gates
unfolding planned
planned-gates c ms order which js = listed-size _ _ (length c.gates)

module _ (part : Part) (right : T (literals_right part.circuit)) (no-cycle : T (acyclic part.circuit)) (b : ℕ) (closed : Closed part b)
    (few-gates : length part.circuit.gates ≤ 3072) (few-latches : length part.circuit.latches ≤ 4096) where
  abbrev c : Circuit
  c = part.circuit

  abbrev plan_at : ℕ → Plan
  plan_at w = planned c (marks c b) (depth_first c) w part.kept

  -- what is tested before the stage tries
  pub record May (first : ℕ) : Type 0 where
    pub vars : length part.kept ≤ 112
    pub inputs : length (inputs_of part.circuit (marks part.circuit b)) ≤ 4
    pub large : 1024 ≤ size part.circuit first

  may-try : (first : ℕ) → may_try part b first ≡ true → May first
  may-try first e =
      let x = leb (length part.kept) 112 in
      let y = leb (length (inputs_of c (marks c b))) 4 in
      let z = leb 1024 (size c first) in
      let t : T (x && (y && z)) = T_true e in
      let r = and_right x (y && z) t in
      record {
        vars = leb-true (length part.kept) 112 (true-T x (and_left x (y && z) t));
        inputs = leb-true (length (inputs_of c (marks c b))) 4 (true-T y (and_left y z r));
        large = leb-true 1024 (size c first) (true-T z (and_right y z r));
      }

  module _ (first : ℕ) (may : May first) (w : ℕ) where
    plan-room : length (plan_words (plan_at w)) ≤ length {A = ℕ} (replicate 3191 0)
    plan-room =
        let p = plan_at w in
        omega (
          arith,
          length-replicate {A = ℕ} 3191 0,
          length-append p.latches (p.inputs ++ p.gates),
          length-append p.inputs p.gates,
          planned-size c (marks c b) (depth_first c) w part.kept,
          planned-gates c (marks c b) (depth_first c) w part.kept,
          may.vars,
          may.inputs,
          ap length (planned-inputs c (marks c b) (depth_first c) w part.kept),
        )

    -- the plan in words, read
    pub plan-is : plan_of (plan_in part b w) ≡ planned part.circuit (marks part.circuit b) (depth_first part.circuit) w part.kept
    plan-is = plan-read (plan_at w) (replicate 3191 0) plan-room

    -- it is there as a whole
    pub plan-whole : plan_length (plan_in part b w) ≤ length (plan_in part b w)
    plan-whole = plan-fits (plan_at w) (replicate 3191 0) plan-room

    -- a plan whose latches are distinct fits
    pub plan-fit : is_distinct (plan_of (plan_in part b w)).latches ≡ true → Fit part (plan_in part b w)
    plan-fit e =
        let kept =
        planned-kept part (marks c b) (depth_first c) w (marks-small c b) (omega (arith, may.vars))
        (λ i l. omega (arith, closed.listed.inside i l)) in
        record {
          whole = plan-whole;
          among =
              record {
                kept = subst (λ (p : Plan). (v : ℕ) → v < length p.latches → (i : ℕ) × (i < length part.kept) × (get_or part.kept i 0 ≡ get_or p.latches v 0))
                    (sym plan-is) (λ v l. kept.at v l);
                apart = distinct (plan_of (plan_in part b w)).latches e;
              };
          matters = λ i. marked (marks c b) (input_at c i);
          inputs = ap (λ (p : Plan). p.inputs) plan-is ∙ planned-inputs c (marks c b) (depth_first c) w part.kept;
          vars =
              omega (
                arith,
                may.vars,
                ap (λ (p : Plan). length p.latches) plan-is,
                planned-size c (marks c b) (depth_first c) w part.kept,
              );
          few =
              omega (
                arith,
                may.inputs,
                ap (λ (p : Plan). length p.inputs) plan-is,
                ap length (planned-inputs c (marks c b) (depth_first c) w part.kept),
              );
        }

  fair : (share : ℕ) → Fair part right no-cycle b closed (trial_of part b share)
  fair share =
      record { plans = λ first e w. plan-fit first (may-try first e) w; words = λ first e. omega (arith, (may-try first e).large) }

  -- the stage with any share
  pub stage-sound : (share : ℕ) → Sound (question part.circuit b) (any_budget (stage_ending part b share))
  stage-sound share = sets-sound part right no-cycle b closed (trial_of part b share) (fair share)
