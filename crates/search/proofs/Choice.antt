-- What the search chooses: by its stages, and what they leave frame after frame. It is always a permitted outcome, and request 13 holds of
-- it. Assumes nothing.
use mathlib.Core.Path.{◌≡◌, refl, sym, ap, ◌∙◌, subst}
use mathlib.Core.Bool.{Bool, false}
use mathlib.Core.List.{List}
use Prim.Native.Nat.{ℕ, suc, ◌+◌, ◌-◌, ◌^◌, ◌≤◌, ◌<◌}
use native.Mathlib.Numerals.{add-one}
use native.Mathlib.Omega.{arith}
use lib.Dec.{T}
use Rattle.aiger.specs.Circuit.{Circuit}
use Rattle.aiger.specs.Load.{Answer, gives}
use Rattle.aiger.specs.Search.{question, reaches, Decision, Outcome, Report, NeverOf, permitted, tells, reached_right, first_witness}
use Rattle.aiger.specs.Frames.{free_bits, run}
use Rattle.aiger.specs.Witness.{witness}
use Rattle.aiger.specs.Operations.{front, shown, shown_length}
use Rattle.meaning.proofs.Outcomes.{Decided, first-witness}
use Rattle.witness.specs.Writing.{SequenceIn}
use Rattle.decision.specs.Reach.{decision_of}
use Rattle.decision.proofs.Deciding.{decided-says, decided-more}
use Rattle.stages.specs.Endings.{Cut, Staged, staged_at, NoHit, FirstAt, StagedRight}
use Rattle.stages.specs.Choice.{listed, outcome_of, chosen_from, seen, chosen_by, is_never, never_by}
use Rattle.stages.proofs.Choice.{first-of, on-past}
use Rattle.stages.proofs.Passing.{hit-seen, cut-seen}
use Rattle.stages.proofs.Choice as stages
use Rattle.stages.proofs.More as more
use Rattle.staged.specs.Schedule.{stages_of}
use Rattle.staged.proofs.Sound.{stages-sound}
use Rattle.place_decision.specs.Decided.{ReachedIs}
use Rattle.search.specs.Chosen.{outcome_chosen, never_chosen, reached_with, reached_chosen, chosen, spent_report}
use Rattle.search.specs.Steps.{FoundShown, SpentTold, Answered}

module _ (c : Circuit) (b : ℕ) where
  -- the chosen outcome is permitted
  pub chosen-permitted : (k D : ℕ) → k ≤ 255 → T (permitted c b k D (outcome_chosen c b k D))
  unfolding outcome_chosen
  chosen-permitted k D small =
      stages.chosen-permitted (question c b) (stages_of c b) (stages-sound c b) (decision_of c b) k D small (λ t. decided-says c b t D
      (decision_of c b t D) refl)

  -- Request 13: found with a bound and a budget is found with every larger bound and every larger budget
  pub found-stays : (k k' D E t : ℕ) → k ≤ k' → k' ≤ 255 → D ≤ E → outcome_chosen c b k D ≡ Outcome.found t → outcome_chosen c b k' E ≡ Outcome.found t
  unfolding outcome_chosen
  found-stays k k' D E t l small m e =
      more.found-stays (question c b) (stages_of c b) (stages-sound c b) (decision_of c b) (λ t D. decided-says c b t D (decision_of c b t
      D) refl)
      (λ t D E h n. decided-more c b t D E h n) k k' D E t l small m e

  -- none with a bound and a budget is none with every smaller bound and every larger budget
  pub none_stays : (k j D E i : ℕ) → j ≤ k → D ≤ E → outcome_chosen c b k D ≡ Outcome.none i → outcome_chosen c b j E ≡ Outcome.none j
  unfolding outcome_chosen
  none_stays k j D E i l m e =
      more.none_stays (question c b) (stages_of c b) (stages-sound c b) (decision_of c b) (λ t D. decided-says c b t D (decision_of c b t
      D) refl)
      (λ t D E h n. decided-more c b t D E h n) k j D E i l m e

  -- what is not spent is chosen with every larger budget
  pub answer-stays : (k D E : ℕ) → k ≤ 255 → D ≤ E → Decided (outcome_chosen c b k D) → outcome_chosen c b k E ≡ outcome_chosen c b k D
  unfolding outcome_chosen
  answer-stays k D E small m d =
      more.answer-stays (question c b) (stages_of c b) (stages-sound c b) (decision_of c b) (λ t D. decided-says c b t D (decision_of c b
      t D) refl)
      (λ t D E h n. decided-more c b t D E h n) k D E small m d

  -- the flag: no frame at all has a hit, the search chooses none, and the flag stays with every larger bound and every larger budget
  pub never-none : (k D : ℕ) → T (never_chosen c b k D) → (t : ℕ) → NoHit (question c b) t
  unfolding never_chosen
  never-none k D h = stages.never-none (question c b) (stages_of c b) (stages-sound c b) k D h

  pub never-chosen : (k D : ℕ) → T (never_chosen c b k D) → outcome_chosen c b k D ≡ Outcome.none k
  unfolding outcome_chosen never_chosen
  never-chosen k D h = stages.never-chosen (question c b) (stages_of c b) (stages-sound c b) k D h (decision_of c b)

  pub never-stays : (k k' D E : ℕ) → k ≤ k' → D ≤ E → T (never_chosen c b k D) → T (never_chosen c b k' E)
  unfolding never_chosen
  never-stays k k' D E l m h =
      more.never-stays (question c b) (stages_of c b) (stages-sound c b) (decision_of c b) (λ t D. decided-says c b t D (decision_of c b t
      D) refl)
      (λ t D E h n. decided-more c b t D E h n) k k' D E l m h

  pub chosen-never : (k D : ℕ) → NeverOf (question c b) k (chosen c b k D)
  unfolding chosen
  chosen-never k D h = (never-chosen k D h, never-none k D h)

-- the place that was reached in a frame, told with spent
pub spent-told : (c : Circuit) (b t D R : ℕ) → ReachedIs c b t D R → SpentTold c b t D (gives (spent_report t R))
unfolding reached_right
spent-told c b t D R r =
    record {
      says = ap (λ (x : ℕ). gives (spent_report t x)) r.is;
      right = subst (λ (x : ℕ). T (tells (reaches c b t) (2 ^ free_bits c t) 0 D x)) r.is r.told;
    }

module _ (c : Circuit) (b k D : ℕ) where
  -- the outcome is what frames t to k give
  abbrev pub Left : ℕ → Type 0
  Left t = outcome_chosen c b k D ≡ chosen_from (λ u. decision_of c b u D) k t (k + 1 - t)

  -- where no frame is spent no place is told
  found-told : (t : ℕ) → T (reached_right (question c b) D (Outcome.found t) 0)
  unfolding reached_right
  found-told t = tt

  pub none_told : (j : ℕ) → T (reached_right (question c b) D (Outcome.none j) 0)
  unfolding reached_right
  none_told j = tt

  -- the answer that says and shows an outcome, and tells a flag and the place that goes with the outcome
  pub answered : (o : Outcome) (flag : Bool) → outcome_chosen c b k D ≡ o → never_chosen c b k D ≡ flag
      → T (reached_right (question c b) D o (reached_with c b D o)) → {out out' : List ℕ} → out' ≡ shown c b o out
      → Answered c b k D out (gives (record { outcome = o; length = shown_length c b o; never = flag; reached = reached_with c b D o })) out'
  unfolding chosen reached_chosen
  answered o flag e n r {out} q =
      record {
        says =
            λ i.
            gives
            (record { outcome = sym e i; length = shown_length c b (sym e i); never = sym n i; reached = reached_with c b D (sym e i) });
        told = subst (λ (x : Outcome). T (reached_right (question c b) D x (reached_with c b D x))) (sym e) r;
        shows = q ∙ sym (ap (λ (x : Outcome). shown c b x out) e);
      }

  -- found, as it is shown
  pub answered-found : (t : ℕ) → outcome_chosen c b k D ≡ Outcome.found t → never_chosen c b k D ≡ false → {free out out' : List ℕ} {a : Answer Report}
      → FoundShown c b t free out a out' → (x : ℕ) → SequenceIn free c t x → witness b (run c t x) ≡ first_witness c b t → Answered c b k D out a out'
  answered-found t e n {out = out} w x f v =
      let q = answered (Outcome.found t) false e n (found-told t) (w.shows x f ∙ ap (λ (z : List ℕ). front z out) v) in
      record { says = w.says ∙ q.says; told = q.told; shows = q.shows }

  -- spent, as it is told
  pub answered-spent : (t : ℕ) → outcome_chosen c b k D ≡ Outcome.spent t → never_chosen c b k D ≡ false → {a : Answer Report} → SpentTold c b t D a
      → {out out' : List ℕ} → out' ≡ out → Answered c b k D out a out'
  answered-spent t e n w o =
      let q = answered (Outcome.spent t) false e n w.right o in
      record { says = w.says ∙ q.says; told = q.told; shows = q.shows }

  -- the first hit of a frame is the one that is shown
  first-shown : {t x : ℕ} → FirstAt (question c b) t x → witness b (run c t x) ≡ first_witness c b t
  first-shown {t} {x} f = sym (first-witness c b t x (first-of (question c b) f))

  -- ---- by the stages

  abbrev staged : Staged
  staged = listed (stages_of c b) 0 D

  staged-right : StagedRight (question c b) 0 staged
  staged-right = stages.list_right (question c b) (stages_of c b) (stages-sound c b) D

  -- what is seen of them is outcome_chosen
  pub stages-found : {t x : ℕ} → staged_at k staged ≡ Cut.hit t x
      → (t ≤ k) × (outcome_chosen c b k D ≡ Outcome.found t) × (witness b (run c t x) ≡ first_witness c b t)
  unfolding outcome_chosen chosen_by
  stages-found e =
      let (l, f) = hit-seen (question c b) k 0 staged staged-right e in
      (l, ap (seen (λ t. decision_of c b t D) k) e, first-shown f)

  pub stages-none : staged_at k staged ≡ Cut.none → outcome_chosen c b k D ≡ Outcome.none k
  unfolding outcome_chosen chosen_by
  stages-none e = ap (seen (λ t. decision_of c b t D) k) e

  pub stages-never : staged_at k staged ≡ Cut.never → outcome_chosen c b k D ≡ Outcome.none k
  unfolding outcome_chosen chosen_by
  stages-never e = ap (seen (λ t. decision_of c b t D) k) e

  -- the flag of what is seen
  pub stages-flag : {s : Cut} → staged_at k staged ≡ s → never_chosen c b k D ≡ is_never s
  unfolding never_chosen never_by
  stages-flag e = ap is_never e

  -- where they are cut off each frame is decided by itself
  pub stages-left : {t : ℕ} → staged_at k staged ≡ Cut.cut_off t → (t ≤ k + 1) × Left t
  unfolding outcome_chosen chosen_by
  stages-left e =
      let l = cut-seen (question c b) k 0 staged staged-right e in
      (omega arith, ap (seen (λ t. decision_of c b t D) k) e)

  -- ---- frame by frame

  -- what frame t decides
  unroll : (t : ℕ) → t ≤ k → chosen_from (λ u. decision_of c b u D) k t (k + 1 - t) ≡ outcome_of (decision_of c b t D) t
      (chosen_from (λ u. decision_of c b u D) k (t + 1) (k + 1 - (t + 1)))
  unfolding chosen_from
  unroll t l =
      let n = k + 1 - (t + 1) in
      let e : k + 1 - t ≡ suc n = omega arith in
      ap (chosen_from (λ u. decision_of c b u D) k t) e ∙ ap (λ (s : ℕ). outcome_of (decision_of c b t D) t
      (chosen_from (λ u. decision_of c b u D) k s n)) (sym (add-one t))

  decide : (t : ℕ) → t ≤ k → Left t → {d : Decision} → decision_of c b t D ≡ d
      → outcome_chosen c b k D ≡ outcome_of d t (chosen_from (λ u. decision_of c b u D) k (t + 1) (k + 1 - (t + 1)))
  decide t l i e = i ∙ unroll t l ∙ ap (λ (d : Decision). outcome_of d t
      (chosen_from (λ u. decision_of c b u D) k (t + 1) (k + 1 - (t + 1)))) e

  -- the first hit that is decided is the one that is shown
  pub hit-shown : (t x : ℕ) → decision_of c b t D ≡ Decision.hit x → witness b (run c t x) ≡ first_witness c b t
  hit-shown t x e = sym (first-witness c b t x (decided-says c b t D (Decision.hit x) e))

  pub left-found : (t x : ℕ) → t ≤ k → Left t → decision_of c b t D ≡ Decision.hit x → outcome_chosen c b k D ≡ Outcome.found t
  left-found t x l i e = decide t l i e

  pub left-spent : (t : ℕ) → t ≤ k → Left t → decision_of c b t D ≡ Decision.spent → outcome_chosen c b k D ≡ Outcome.spent t
  left-spent t l i e = decide t l i e

  pub left-more : (t : ℕ) → t ≤ k → Left t → decision_of c b t D ≡ Decision.clear → Left (t + 1)
  left-more t l i e = decide t l i e

  pub left-none : (t : ℕ) → k < t → Left t → outcome_chosen c b k D ≡ Outcome.none k
  left-none t l i = i ∙ on-past (λ u. decision_of c b u D) k t l
