-- A plan in words is read back, and what it says of the machine. Assumes nothing.
use mathlib.Core.Path.{◌≡◌, refl, sym, ap, ◌∙◌}
use mathlib.Core.Bool.{Bool, cond}
use mathlib.Core.List.{List, ◌∷◌, ◌++◌, append_assoc}
use Prim.Native.Nat.{ℕ, suc, ◌+◌, ◌-◌, ◌≤◌, ◌<◌}
use native.Mathlib.Omega.{arith}
use borrow.Author.Tests.{le-ltb}
use lib.ListN.{length, get_or, take, drop, length-append}
use lib.Seq.{sets, sets-eq, length-sets, take_at, drop_at}
use Rattle.aiger.specs.Bits.{odd}
use Rattle.aiger.specs.Circuit.{Circuit}
use Rattle.meaning.proofs.Lists.{length-map-upto}
use Rattle.diagrams.specs.States.{State}
use Rattle.diagram_rows.specs.Rows.{Plan, plan_of, plan_length, row_made, row_in}
use Rattle.diagram_rows.specs.Machine.{KeptPlan}
use Rattle.influence.specs.Part.{Part, kept_at}
use Rattle.row_plans.specs.Plans.{inputs_of, meeting, arranged, planned, plan_words, Planned}
use Rattle.row_plans.proofs.Kept.{Small, arranged-kept}

-- words that begin with a plan
plan-front : (x y z rest : List ℕ) (w : List ℕ) → w ≡ (length x ∷ length y ∷ length z ∷ ((x ++ (y ++ z)) ++ rest))
    → plan_of w ≡ record { latches = x; inputs = y; gates = z }
plan-front x y z rest w e =
    let ws = (x ++ (y ++ z)) ++ rest in
    let one : ws ≡ x ++ ((y ++ z) ++ rest) = append_assoc x (y ++ z) rest in
    let two : (y ++ z) ++ rest ≡ y ++ (z ++ rest) = append_assoc y z rest in
    let a : 3 + length x ≡ suc (suc (suc (length x))) = omega arith in
    let b : 3 + length x + length y ≡ suc (suc (suc (length (x ++ y)))) = omega (arith, length-append x y) in
    let i : drop (length x) ws ≡ y ++ (z ++ rest) = ap (drop (length x)) one ∙ drop_at x ((y ++ z) ++ rest) (length x) refl ∙ two in
    let j : drop (length (x ++ y)) ws ≡ z ++ rest =
    ap (drop (length (x ++ y))) (one ∙ ap (λ (u : List ℕ). x ++ u) two ∙ sym (append_assoc x y (z ++ rest)))
    ∙ drop_at (x ++ y) (z ++ rest) (length (x ++ y)) refl in
    let l : take (length x) ws ≡ x = ap (take (length x)) one ∙ take_at x ((y ++ z) ++ rest) (length x) refl in
    let m : take (length y) (drop (3 + length x) (length x ∷ length y ∷ length z ∷ ws)) ≡ y =
    ap (λ (n : ℕ). take (length y) (drop n (length x ∷ length y ∷ length z ∷ ws))) a ∙ ap (take (length y)) i ∙ take_at y (z ++ rest) (length y) refl in
    let n : take (length z) (drop (3 + length x + length y) (length x ∷ length y ∷ length z ∷ ws)) ≡ z =
    ap (λ (n : ℕ). take (length z) (drop n (length x ∷ length y ∷ length z ∷ ws))) b ∙ ap (take (length z)) j ∙ take_at z rest (length z) refl in
    ap plan_of e ∙ (λ k. record { latches = l k; inputs = m k; gates = n k })

module _ (p : Plan) (w : List ℕ) (h : length (plan_words p) ≤ length w) where
  written : sets w 0 (plan_words p) ≡ plan_words p ++ drop (0 + length (plan_words p)) w
  written = sets-eq (plan_words p) w 0 (omega arith)

  pub plan-read : plan_of (sets w 0 (plan_words p)) ≡ p
  plan-read = plan-front p.latches p.inputs p.gates (drop (0 + length (plan_words p)) w) (sets w 0 (plan_words p)) written

  -- all of it is there
  pub plan-fits : plan_length (sets w 0 (plan_words p)) ≤ length (sets w 0 (plan_words p))
  plan-fits =
      let x = p.latches in
      let y = p.inputs in
      let z = p.gates in
      let e = ap plan_length written in
      omega (arith, e, length-sets w 0 (plan_words p), length-append x (y ++ z), length-append y z)

-- the rows of a plan that was written
pub planned-row : (p : Plan) (before after : List ℕ) {q : Bool} → Planned p before after q → length (plan_words p) ≤ length before
    → (c : Circuit) (b r : ℕ) (s : State) → row_in c b after r s ≡ row_made c b p r s
unfolding row_in
planned-row p before after d h c b r s =
    ap (λ (w : List ℕ). row_in c b w r s) d.words
    ∙ rw (le-ltb (length (sets before 0 (plan_words p))) (plan_length (sets before 0 (plan_words p))) (plan-fits p before h))
    (ap (λ (x : Plan). row_made c b x r s) (plan-read p before h))

-- the inputs of a plan, by which rows of the machine are told
pub planned-inputs : (c : Circuit) (ms order : List ℕ) (which : ℕ) (js : List ℕ) → (planned c ms order which js).inputs ≡ inputs_of c ms
unfolding planned
planned-inputs c ms order which js = refl

size : (c : Circuit) (ms order : List ℕ) (which : ℕ) (js : List ℕ) → length (arranged c ms order which js) ≡ length js
unfolding arranged
size c ms order which js =
    length-map-upto (λ k. get_or (meeting c ms order which js).list (cond (odd which) (length js - (k + 1)) k) 0) (length js)

-- it has as many latches as were given
pub planned-size : (c : Circuit) (ms order : List ℕ) (which : ℕ) (js : List ℕ) → length (planned c ms order which js).latches ≡ length js
unfolding planned
planned-size c ms order which js = size c ms order which js

-- its latches are those that are kept
pub planned-kept : (part : Part) (ms order : List ℕ) (which : ℕ) → Small ms → length part.kept ≤ 1024
    → ((i : ℕ) → i < length part.kept → kept_at part i < 4294967294)
    → KeptPlan part (planned part.circuit ms order which part.kept)
unfolding planned
planned-kept part ms order which s h f =
    let js = part.kept in
    let c = part.circuit in
    record {
      at = λ v l.
          let n = size c ms order which js in
          let a = arranged-kept js c ms order which s h f v (omega arith) in
          (a.place, a.below, a.same);
    }
