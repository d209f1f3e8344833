-- What an attempt and the stage of all orders say is so. Assumes nothing.
use mathlib.Core.Path.{◌≡◌, refl, sym, ap, ◌∙◌, subst}
use mathlib.Core.Bool.{Bool, true, false, cond}
use mathlib.Core.List.{List, [], ◌∷◌}
use Prim.Native.Nat.{ℕ, zero, suc, ◌+◌, ◌^◌, ◌≤◌, ◌<◌}
use native.Mathlib.Omega.{arith}
use borrow.Author.Tests.{ltb-true}
use lib.Dec.{T, ltb}
use lib.ListN.{length}
use Rattle.aiger.specs.Circuit.{Circuit, literals_right, acyclic}
use Rattle.aiger.specs.Search.{Question, question}
use Rattle.machine.specs.Machine.{Machine}
use Rattle.machine.proofs.Theorems.{Quiet, QuietBefore}
use Rattle.influence.specs.Part.{Part, Closed}
use Rattle.transitions.specs.Transitions.{machine_of}
use Rattle.transitions.proofs.Bridge.{reaches_of, prefixes-of}
use Rattle.diagram_rows.specs.Rows.{plan_of}
use Rattle.state_sets.specs.Sets.{Sets}
use Rattle.state_sets.specs.Meaning.{Held}
use Rattle.set_stage.specs.Plans.{code_of}
use Rattle.set_stage.proofs.Bounds.{machine-inside}
use Rattle.set_stage.proofs.Rows.{coded}
use Rattle.set_stage.proofs.Starts.{starts-of}
use Rattle.stages.specs.Endings.{Ending, NoHit, NoneBefore, EndsRight, any_budget, Sound}
use Rattle.stages.proofs.Lists.{any-budget}
use Rattle.set_attempt.specs.Attempt.{rows_of, setup_of, table_made, blank_sets, on_table, with_table, is_distinct, attempt_ending, or_later, in_turn, orders, Trial, sets_within, sets_ending}
use Rattle.set_attempt.proofs.Frames.{frames-right}
use Rattle.set_attempt.specs.Fit.{Fit}
use Rattle.set_attempt.proofs.Begun.{rows_few, table-right, blank-bare}

-- ---- attempts in turn

module _ (q : Question) (first : ℕ) (small : first ≤ 256) (before : NoneBefore q first) where
  later-right : (e later : Ending) → EndsRight q 0 e → EndsRight q first later → EndsRight q first (or_later first e later)
  later-right (Ending.hit t x) later (a, l, n, h) k =
      let early : suc t ≤ first → ⊥ = λ less. before t less x h.fits h.hits in
      (omega arith, l, n, h)
  later-right (Ending.never t) later (a, l, n) k = (omega arith, omega arith, n)
  later-right Ending.clear later h k = h
  later-right (Ending.gave_up t) later (a, l, n) k = go (ltb first t) refl
    where
      go : (d : Bool) → ltb first t ≡ d → EndsRight q first (cond d (Ending.gave_up t) later)
      go true e = (omega (arith, ltb-true first t e), l, n)
      go false e = k

  pub turn-right : (attempt : ℕ → Ending) → ((w : ℕ) → EndsRight q 0 (attempt w)) → (ws : List ℕ) → EndsRight q first (in_turn first attempt ws)
  unfolding in_turn
  turn-right attempt h [] = (omega arith, small, before)
  turn-right attempt h (w ∷ ws) = later-right (attempt w) (in_turn first attempt ws) (h w) (turn-right attempt h ws)

module _ (part : Part) (right : T (literals_right part.circuit)) (no-cycle : T (acyclic part.circuit)) (b : ℕ) (closed : Closed part b) where
  abbrev c : Circuit
  c = part.circuit

  abbrev m : Machine
  m = machine_of part b

  -- the frames of the circuit and of its machine without a hit are the same
  pub same-quiet : (t : ℕ) → NoHit (question part.circuit b) t → Quiet (machine_of part b) t
  same-quiet t h x l k = h x (subst (λ (n : ℕ). x < n) (prefixes-of part b t) l) (subst T (sym (reaches_of part b closed t x)) k)

  pub quiet_same : (t : ℕ) → Quiet (machine_of part b) t → NoHit (question part.circuit b) t
  quiet_same t h x l k = h x (subst (λ (n : ℕ). x < n) (sym (prefixes-of part b t)) l) (subst T (reaches_of part b closed t x) k)

  -- an attempt whose plan fits
  table-ends : (plan : List ℕ) → Fit part plan → (words looks : ℕ) → 16 ≤ words → (first : ℕ) → NoneBefore (question part.circuit b) first
      → EndsRight (question part.circuit b) 0 (with_table part.circuit b plan first 256 (table_made part.circuit b plan (blank_sets words looks)))
  table-ends plan fit words looks enough first before =
      go (table_made c b plan (blank_sets words looks)).done refl
      (table-right 0 part right no-cycle closed.listed b plan fit (blank_sets words looks)
      (blank-bare 0 part right no-cycle closed.listed b plan fit words looks enough))
    where
      go : (d : Bool) → (table_made part.circuit b plan (blank_sets words looks)).done ≡ d
          → ((table_made part.circuit b plan (blank_sets words looks)).done ≡ true
          → Held 0 (machine_of part b) (2 ^ length part.kept) (code_of part (plan_of plan).latches) (length (plan_of plan).latches) (rows_of plan) 0 0
          (table_made part.circuit b plan (blank_sets words looks)).sets)
          → EndsRight (question part.circuit b) 0 (on_table part.circuit b plan first 256 d (table_made part.circuit b plan (blank_sets words looks)).sets)
      go false e h = (omega arith, omega arith, λ u l. absurd (omega arith))
      go true e h =
          frames-right 0 (machine_of part b) (2 ^ length part.kept) (machine-inside part b) (code_of part (plan_of plan).latches) (setup_of c plan)
          (coded part (plan_of plan).latches) (rows_few part plan fit) (starts-of part closed.listed b (plan_of plan).latches fit.among)
          (question c b) same-quiet quiet_same first before 256 0 (table_made c b plan (blank_sets words looks)).sets refl (h e)
          (λ u l. absurd (omega arith))

  -- an attempt with a plan that fits where no latch is there twice
  pub attempt-right : (plan : List ℕ) → (is_distinct (plan_of plan).latches ≡ true → Fit part plan) → (words looks : ℕ) → 16 ≤ words → (first : ℕ)
      → NoneBefore (question part.circuit b) first
      → EndsRight (question part.circuit b) 0 (attempt_ending part.circuit b plan words looks first 256)
  unfolding attempt_ending
  attempt-right plan fit words looks enough first before = go (is_distinct (plan_of plan).latches) refl
    where
      go : (d : Bool) → is_distinct (plan_of plan).latches ≡ d
          → EndsRight (question part.circuit b) 0
          (cond d (with_table part.circuit b plan first 256 (table_made part.circuit b plan (blank_sets words looks))) (Ending.gave_up 0))
      go true e = table-ends plan (fit e) words looks enough first before
      go false e = (omega arith, omega arith, λ u l. absurd (omega arith))

  -- what is asked of a trial where it may try: the plans fit, and there are words
  pub record Fair (o : Trial) : Type 0 where
    pub plans : (first : ℕ) → o.may first ≡ true → (w : ℕ) → is_distinct (plan_of (o.plans w)).latches ≡ true → Fit part (o.plans w)
    pub words : (first : ℕ) → o.may first ≡ true → 16 ≤ o.words first

  pub sets-right : (o : Trial) → Fair o → (first : ℕ) → first ≤ 256 → NoneBefore (question part.circuit b) first
      → EndsRight (question part.circuit b) first (sets_ending part.circuit b o first)
  unfolding sets_within
  sets-right o fair first small before = go (o.may first) refl
    where
      go : (d : Bool) → o.may first ≡ d
          → EndsRight (question part.circuit b) first
          (cond d (in_turn first (λ w. attempt_ending part.circuit b (o.plans w) (o.words first) o.looks first 256) orders) (Ending.gave_up first))
      go true e =
          turn-right (question c b) first small before (λ w. attempt_ending c b (o.plans w) (o.words first) o.looks first 256)
          (λ w. attempt-right (o.plans w) (fair.plans first e w) (o.words first) o.looks (fair.words first e) first before) orders
      go false e = (omega arith, small, before)

  -- the stage is one that the list may have
  pub sets-sound : (o : Trial) → Fair o → Sound (question part.circuit b) (any_budget (sets_ending part.circuit b o))
  sets-sound o fair = any-budget (question c b) (sets_ending c b o) (sets-right o fair)
