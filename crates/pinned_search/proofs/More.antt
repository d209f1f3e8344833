-- Request 13: more budget keeps an answer of the search under any pins. Of any two searches of a circuit under the same pins, whatever
-- their memories, that are not refused. The same answer is the same outcome with the same witness; whether it is told that no frame at all
-- has a hit may differ. Assumes nothing.
use mathlib.Core.Path.{◌≡◌, refl, sym, ap, ◌∙◌, subst}
use mathlib.Core.List.{List, [], ◌∷◌}
use Prim.Native.Nat.{ℕ, ◌≤◌}
use lib.Dec.{T, leb}
use lib.ListN.{length}
use Rattle.aiger.specs.Circuit.{Circuit}
use Rattle.aiger.specs.Load.{gives}
use Rattle.aiger.specs.Search.{Outcome, Report, reached_right}
use Rattle.aiger.specs.Memory.{Holds}
use Rattle.aiger.specs.Witness.{witness_length}
use Rattle.aiger.specs.Operations.{front, need, budget_right, shown_length}
use Rattle.meaning.proofs.Outcomes.{Decided}
use Rattle.place_search.proofs.Answers.{decided-reached}
use Rattle.roundtrip.proofs.Determined.{OneText, acted}
use Rattle.limits.proofs.Refusals.{passed}
use Rattle.pins.specs.Pins.{pinned, pinned_question, pinned_witness}
use Rattle.pinning.specs.Operations.{PinnedSearched, pinned_shown}
use Rattle.search.specs.Chosen.{outcome_chosen, chosen}
use Rattle.search.proofs.Choice.{answer-stays, found-stays, none_stays}

-- the text that an outcome shows
abbrev pub pinned_text : Circuit → (ℕ → ℕ) → ℕ → Outcome → List ℕ
pinned_text c q b (Outcome.found t) = pinned_witness c q b t
pinned_text c q b (Outcome.none k) = []
pinned_text c q b (Outcome.spent t) = []

text-shown : (c : Circuit) (q : ℕ → ℕ) (b : ℕ) (o : Outcome) (out : List ℕ) → pinned_shown c q b o out ≡ front (pinned_text c q b o) out
text-shown c q b (Outcome.found t) out = refl
text-shown c q b (Outcome.none k) out = refl
text-shown c q b (Outcome.spent t) out = refl

-- what a search that is not refused answers
record Asked (c : Circuit) (q : ℕ → ℕ) (b k D : ℕ) (out : List ℕ) (o : Report) (out' : List ℕ) : Type 0 where
  small : k ≤ 255
  chose : o.outcome ≡ outcome_chosen (pinned c q) b k D
  measured : o.length ≡ shown_length c b o.outcome
  nothing : Decided o.outcome → o.reached ≡ 0
  shows : out' ≡ front (pinned_text c q b o.outcome) out

asked : {m w out : List ℕ} {left : List ℕ × List ℕ} {c : Circuit} {q : ℕ → ℕ} {b k D : ℕ} {o : Report} → Holds m c
    → PinnedSearched chosen m q b k D w out (gives o) left → Asked c q b k D out o left.1
unfolding chosen
asked {w = w} {out = out} {c = c} {q = q} {b = b} {k = k} {D = D} {o = o} h s =
    let a = acted h s refl in
    let e = a.1 in
    let p = passed c b k (budget_right D) (length w) (need 13 (leb (witness_length c b k) (length out)) ∷ []) a.0 in
    record {
      small = p.0.bound;
      chose = ap (λ (r : Report). r.outcome) e.chose;
      measured = e.measured;
      nothing = λ d. decided-reached (pinned_question c q b) D o.reached o.outcome d e.told;
      shows = e.shows ∙ text-shown c q b o.outcome out;
    }

-- the second answer is the first, but for the flag, and both outputs have one text
pub record Stays (o o' : Report) (out out₁ out' out₂ : List ℕ) : Type 0 where
  pub outcome : o'.outcome ≡ o.outcome
  pub length : o'.length ≡ o.length
  pub reached : o'.reached ≡ o.reached
  pub text : OneText out out₁ out' out₂

module _ {m m' w w' out out' : List ℕ} {left left' : List ℕ × List ℕ} {c : Circuit} {q : ℕ → ℕ} {b k k' D E : ℕ} {o o' : Report}
    (h : Holds m c) (h' : Holds m' c) (more : D ≤ E) (s : PinnedSearched chosen m q b k D w out (gives o) left)
    (s' : PinnedSearched chosen m' q b k' E w' out' (gives o') left') where
  -- one outcome that is not spent
  stays : o'.outcome ≡ o.outcome → Decided o.outcome → Stays o o' out left.1 out' left'.1
  stays e d =
      let x = asked h s in
      let y = asked h' s' in
      record {
        outcome = e;
        length = y.measured ∙ ap (shown_length c b) e ∙ sym x.measured;
        reached = y.nothing (subst Decided (sym e) d) ∙ sym (x.nothing d);
        text =
            record {
              text = pinned_text c q b o.outcome;
              first = x.shows;
              second = y.shows ∙ ap (λ (z : Outcome). front (pinned_text c q b z) out') e;
            };
      }

  -- what is not spent is answered with every larger budget, with the same witness
  pub budget-kept : k ≡ k' → Decided o.outcome → Stays o o' out left.1 out' left'.1
  budget-kept same d =
      let p = (asked h s).chose in
      stays
      ((asked h' s').chose ∙ ap (λ (n : ℕ). outcome_chosen (pinned c q) b n E) (sym same)
      ∙ answer-stays (pinned c q) b k D E (asked h s).small more (subst Decided p d) ∙ sym p) d

  -- found is answered with every larger bound too, with the same witness
  pub found-kept : (t : ℕ) → k ≤ k' → o.outcome ≡ Outcome.found t → Stays o o' out left.1 out' left'.1
  found-kept t l f =
      stays
      ((asked h' s').chose ∙ found-stays (pinned c q) b k k' D E t l (asked h' s').small more (sym (asked h s).chose ∙ f) ∙ sym f)
      (subst Decided (sym f) tt)

  -- none is answered with every smaller bound
  pub none_kept : (i : ℕ) → k' ≤ k → o.outcome ≡ Outcome.none i → o'.outcome ≡ Outcome.none k'
  none_kept i l f = (asked h' s').chose ∙ none_stays (pinned c q) b k k' D E i l more (sym (asked h s).chose ∙ f)
