-- What the contract of the search says of its answers. Clauses 3.2, 3.3, 3.4, 3.6, 3.7, 12.10. Assumes nothing.
use mathlib.Core.Path.{◌≡◌, refl, sym, ap, ◌∙◌, subst}
use mathlib.Core.List.{List, [], ◌∷◌}
use Prim.Native.Nat.{ℕ, ◌^◌, ◌≤◌}
use lib.Dec.{T, leb}
use lib.ListN.{length}
use Rattle.aiger.specs.Circuit.{Circuit}
use Rattle.aiger.specs.Frames.{free_bits}
use Rattle.aiger.specs.Load.{Answer, gives}
use Rattle.aiger.specs.Search.{question, reaches, Outcome, Report, permitted, reached_right, first_witness}
use Rattle.aiger.specs.Memory.{Holds}
use Rattle.aiger.specs.Witness.{witness_length}
use Rattle.aiger.specs.Operations.{need, budget_right, Searched, shown, shown_length, front}
use Rattle.meaning.proofs.Outcomes.{Decided, Found, None, Spent, answer-same, found-out, none_out, spent-out, first-witness}
use Rattle.place_search.proofs.Answers.{Reached, reached-out, decided-reached}
use Rattle.roundtrip.proofs.Witness.{run_length}
use Rattle.roundtrip.proofs.Determined.{OneText, alike-held, acted, searched-same, shown-text, shown_text}
use Rattle.stages.specs.Endings.{NoHit}
use Rattle.search.specs.Chosen.{outcome_chosen, never_chosen, chosen}
use Rattle.limits.proofs.Refusals.{passed}
use Rattle.search.proofs.Choice.{chosen-permitted, answer-stays, found-stays, none_stays, never-none, never-chosen, never-stays}

-- the chosen outcome is always permitted, for every bound that is not refused
pub always-permitted : (c : Circuit) (b k D : ℕ) → k ≤ 255 → T (permitted c b k D (outcome_chosen c b k D))
always-permitted c b k D small = chosen-permitted c b k D small

-- where the flag is true no frame at all has a hit, however late
pub never-quiet : (c : Circuit) (b k D : ℕ) → T (never_chosen c b k D) → (t : ℕ) → NoHit (question c b) t
never-quiet c b k D h = never-none c b k D h

-- and none is chosen
pub never-answer : (c : Circuit) (b k D : ℕ) → T (never_chosen c b k D) → outcome_chosen c b k D ≡ Outcome.none k
never-answer c b k D h = never-chosen c b k D h

-- it stays true with every larger bound and every larger budget
pub never-kept : (c : Circuit) (b k k' D E : ℕ) → k ≤ k' → D ≤ E → T (never_chosen c b k D) → T (never_chosen c b k' E)
never-kept c b k k' D E l m h = never-stays c b k k' D E l m h

-- earlier contents of working memory and output never matter, nor does which memory holds the circuit: two searches answer one thing and
-- write one text
pub memory-same : {m m' w w' out out' w₁ w₂ o₁ o₂ : List ℕ} {c : Circuit} {b k D : ℕ} {x y : Answer Report} → Holds m c → Holds m' c
    → length w ≡ length w' → length out ≡ length out' → Searched chosen m b k D w out x w₁ o₁ → Searched chosen m' b k D w' out' y w₂ o₂
    → (x ≡ y) × OneText out o₁ out' o₂
memory-same h k l n s t = searched-same (alike-held h k) l n s t

module _ {m w out w' out' : List ℕ} {c : Circuit} {b k D : ℕ} {o : Report} (h : Holds m c)
    (s : Searched chosen m b k D w out (gives o) w' out') where
  -- an outcome that is answered is permitted, and the output shows it
  pub result : T (permitted c b k D o.outcome) × (out' ≡ shown c b o.outcome out)
  result = let e = (acted h s refl).1 in (e.allowed, e.shows)

  -- spent is said only where the frame has more than D sequences, none of the first D hits, and no earlier frame has a hit
  pub spent-only : {t : ℕ} → o.outcome ≡ Outcome.spent t → Spent (question c b) k D t
  spent-only {t} e = spent-out (question c b) k D t (subst (λ (x : Outcome). T (permitted c b k D x)) e result.0)

  -- Clause 12.10: with it a place is told that was reached in that frame: none of the sequences before it hits; and 0 with the others
  pub reached-only : {t : ℕ} → o.outcome ≡ Outcome.spent t → Reached (reaches c b t) (2 ^ free_bits c t) 0 D o.reached
  reached-only {t} e =
      reached-out (question c b) D o.reached t
      (subst (λ (x : Outcome). T (reached_right (question c b) D x o.reached)) e (acted h s refl).1.told)

  pub reached-nothing : Decided o.outcome → o.reached ≡ 0
  reached-nothing d = decided-reached (question c b) D o.reached o.outcome d (acted h s refl).1.told

  -- found is said only where the frame is the first with a hit, and the output shows the first hit in counting order
  pub found-only : {t : ℕ} → o.outcome ≡ Outcome.found t → Found (question c b) k t × (out' ≡ front (first_witness c b t) out)
  found-only {t} e = (
    found-out (question c b) k D t (subst (λ (x : Outcome). T (permitted c b k D x)) e result.0),
    subst (λ (x : Outcome). out' ≡ shown c b x out) e result.1,
  )

  -- the length that found tells is that of the witness
  pub found-length : {t : ℕ} → o.outcome ≡ Outcome.found t → o.length ≡ length (first_witness c b t)
  found-length {t} e =
      let f = (found-only e).0 in
      (acted h s refl).1.measured ∙ ap (shown_length c b) e ∙ sym (run_length c b t f.place)
      ∙ sym (ap length (first-witness c b t f.place f.first))

  -- none is said only of the bound, where no frame up to it has a hit
  pub none_only : {j : ℕ} → o.outcome ≡ Outcome.none j → None (question c b) k j
  none_only {j} e = none_out (question c b) k D j (subst (λ (x : Outcome). T (permitted c b k D x)) e result.0)

  -- the flag is told only with none, and then none holds for every bound
  pub never-only : T o.never → (o.outcome ≡ Outcome.none k) × ((j : ℕ) → None (question c b) j j)
  never-only f =
      let (e, n) = (acted h s refl).1.never f in
      (e, λ j. record { bound = refl; quiet = λ u l x a p r. n u x p r })

-- what a search answers that is not spent, and its witness, are determined by circuit, b and k alone: any two such searches, whatever
-- their budgets and memories, answer one outcome and write one text
pub determined : {m m' w w' w₁ w₁' out out' o₁ o₁' : List ℕ} {c : Circuit} {b k D D' : ℕ} {o o' : Report} → Holds m c → Holds m' c
    → Searched chosen m b k D w out (gives o) w₁ o₁ → Searched chosen m' b k D' w' out' (gives o') w₁' o₁' → Decided o.outcome
    → Decided o'.outcome → (o.outcome ≡ o'.outcome) × OneText out o₁ out' o₁'
determined {out = out} {out' = out'} {c = c} {b = b} {k = k} {D = D} {D' = D'} {o = o} {o' = o'} h h' f g u u' =
    let r = result h f in
    let q = result h' g in
    let e : o.outcome ≡ o'.outcome = answer-same (question c b) k D D' o.outcome o'.outcome u u' r.0 q.0 in (
      e,
      record {
        text = shown_text c b o.outcome;
        first = r.1 ∙ shown-text c b o.outcome out;
        second = q.1 ∙ sym (ap (λ (x : Outcome). shown c b x out') e) ∙ shown-text c b o.outcome out';
      },
    )

-- ---- Request 13: more budget keeps an answer. Of any two searches of a circuit, whatever their memories, that are not refused. The same
-- answer is the same outcome with the same witness; whether it is told that no frame at all has a hit may differ

-- what a search that is not refused answers is chosen, and its bound is at most 255
asked : {m w out w₁ o₁ : List ℕ} {c : Circuit} {b k D : ℕ} {o : Report} → Holds m c → Searched chosen m b k D w out (gives o) w₁ o₁
    → (k ≤ 255) × (o.outcome ≡ outcome_chosen c b k D) × (o₁ ≡ shown c b o.outcome out)
unfolding chosen
asked {w = w} {out = out} {c = c} {b = b} {k = k} {D = D} h s =
    let a = acted h s refl in
    let p = passed c b k (budget_right D) (length w) (need 13 (leb (witness_length c b k) (length out)) ∷ []) a.0 in
    (p.0.bound, ap (λ (r : Report). r.outcome) a.1.chose, a.1.shows)

-- two outputs that show one outcome have one text
one-text : (c : Circuit) (b : ℕ) (o : Outcome) {out o₁ out' o₂ : List ℕ} → o₁ ≡ shown c b o out → o₂ ≡ shown c b o out' → OneText out o₁ out' o₂
one-text c b o {out} {out' = out'} p q = record { text = shown_text c b o; first = p ∙ shown-text c b o out; second = q ∙ shown-text c b o out' }

module _ {m m' w w' w₁ w₂ out out' o₁ o₂ : List ℕ} {c : Circuit} {b k k' D E : ℕ} {o o' : Report} (h : Holds m c) (h' : Holds m' c) (more : D ≤ E)
    (s : Searched chosen m b k D w out (gives o) w₁ o₁) (s' : Searched chosen m' b k' E w' out' (gives o') w₂ o₂) where
  -- what is not spent is answered with every larger budget, with the same witness
  pub budget-kept : k ≡ k' → Decided o.outcome → (o'.outcome ≡ o.outcome) × OneText out o₁ out' o₂
  budget-kept same d =
      let (small, p, shows) = asked h s in
      let (small', p', shows') = asked h' s' in
      let e : o'.outcome ≡ o.outcome =
      p' ∙ ap (λ (n : ℕ). outcome_chosen c b n E) (sym same) ∙ answer-stays c b k D E small more (subst Decided p d) ∙ sym p in
      (e, one-text c b o.outcome shows (shows' ∙ ap (λ (z : Outcome). shown c b z out') e))

  -- found is answered with every larger bound too, with the same witness
  pub found-kept : (t : ℕ) → k ≤ k' → o.outcome ≡ Outcome.found t → (o'.outcome ≡ Outcome.found t) × OneText out o₁ out' o₂
  found-kept t l f =
      let (small, p, shows) = asked h s in
      let (small', p', shows') = asked h' s' in
      let e : o'.outcome ≡ Outcome.found t = p' ∙ found-stays c b k k' D E t l small' more (sym p ∙ f) in (
        e,
        one-text c b (Outcome.found t) (shows ∙ ap (λ (z : Outcome). shown c b z out) f) (shows' ∙ ap (λ (z : Outcome). shown c b z out') e),
      )

  -- none is answered with every smaller bound
  pub none_kept : (i : ℕ) → k' ≤ k → o.outcome ≡ Outcome.none i → o'.outcome ≡ Outcome.none k'
  none_kept i l f =
      let (small, p, shows) = asked h s in
      let (small', p', shows') = asked h' s' in
      p' ∙ none_stays c b k k' D E i l more (sym p ∙ f)

  -- none with the flag is none, and with the flag, with every larger bound too
  pub flag-kept : k ≤ k' → T o.never → (o'.outcome ≡ Outcome.none k') × T o'.never
  unfolding chosen
  flag-kept l f =
      let told = ap (λ (r : Report). r.never) (acted h s refl).1.chose in
      let told' = ap (λ (r : Report). r.never) (acted h' s' refl).1.chose in
      let n = never-kept c b k k' D E l more (subst T told f) in
      ((asked h' s').1 ∙ never-answer c b k' E n, subst T (sym told') n)
