-- Searches of one frame from places, by what they reported and wrote: chains, ranges, and chains that begin with a search of all frames.
-- `asked lo o out out'` says of any operation that a search from place lo, with some budget and some memories, reported o and left out'
-- of the output out. Assumes nothing.
use mathlib.Core.Path.{◌≡◌, refl, sym, ap, ◌∙◌, subst}
use mathlib.Core.Bool.{Bool}
use mathlib.Core.List.{List, []}
use mathlib.Core.Option.{Option}
use Prim.Native.Nat.{ℕ, ◌+◌, ◌≤◌, ◌<◌}
use native.Mathlib.Omega.{arith}
use lib.Dec.{T}
use Rattle.aiger.specs.Circuit.{Circuit}
use Rattle.aiger.specs.Search.{Question, Outcome, Report, first_at, permitted_of, greatest, reached_right}
use Rattle.aiger.specs.Operations.{front}
use Rattle.meaning.proofs.Outcomes.{Decided, Quiet}
use Rattle.place_search.specs.Places.{Placed, answers, Unspent, outcome_of, reached_of}
use Rattle.place_search.specs.Operation.{shown_at, text_of, report_of}
use Rattle.place_search.specs.Chains.{Chain, lower, Ranges}
use Rattle.place_search.proofs.Answers.{True, unspent-true, true_same}
use Rattle.place_search.proofs.Chained.{chain-answer, ranges-true, ranges-answer, plain-found, plain-none}

-- Clause 12.13: a chain of searches from place lo: each before the last is spent, and the next begins at the place that it reached. What
-- the last one reported, and the output before and after it
pub data SearchChain (asked : ℕ → Report → List ℕ → List ℕ → Type 0) : ℕ → Report → List ℕ → List ℕ → Type 0 where
  last : {lo : ℕ} {o : Report} {out out' : List ℕ} → asked lo o out out' → Decided o.outcome → SearchChain asked lo o out out'
  next : {lo t : ℕ} {o₀ o : Report} {out₀ out₀' out out' : List ℕ} → asked lo o₀ out₀ out₀' → o₀.outcome ≡ Outcome.spent t
      → SearchChain asked o₀.reached o out out' → SearchChain asked lo o out out'

-- Clause 12.13: searches from places lo < lo' < .., in any order of time: each but the last is found, none, or spent at or after the next
-- place, and the last is not spent. What the first one that found reported, else the last, and the output before and after it
pub data SearchRanges (asked : ℕ → Report → List ℕ → List ℕ → Type 0) : ℕ → Report → List ℕ → List ℕ → Type 0 where
  last : {lo : ℕ} {o : Report} {out out' : List ℕ} → asked lo o out out' → Decided o.outcome → SearchRanges asked lo o out out'
  found : {lo lo' t : ℕ} {o o₁ : Report} {out out' out₁ out₁' : List ℕ} → asked lo o out out' → o.outcome ≡ Outcome.found t → lo < lo'
      → SearchRanges asked lo' o₁ out₁ out₁' → SearchRanges asked lo o out out'
  none : {lo lo' t : ℕ} {o₀ o : Report} {out₀ out₀' out out' : List ℕ} → asked lo o₀ out₀ out₀' → o₀.outcome ≡ Outcome.none t → lo < lo'
      → SearchRanges asked lo' o out out' → SearchRanges asked lo o out out'
  spent : {lo lo' t : ℕ} {o₀ o : Report} {out₀ out₀' out out' : List ℕ} → asked lo o₀ out₀ out₀' → o₀.outcome ≡ Outcome.spent t → lo < lo'
      → lo' ≤ o₀.reached → SearchRanges asked lo' o out out' → SearchRanges asked lo o out out'

-- two outputs got one text
abbrev pub WroteAlike : List ℕ → List ℕ → List ℕ → List ℕ → Type 0
WroteAlike out out' out₁ out₁' = (text : List ℕ) × (out' ≡ front text out) × (out₁' ≡ front text out₁)

-- ---- what an outcome says of the answer

pub unspent-of : (t : ℕ) (a : Placed) → Decided (outcome_of t a) → Unspent a
unspent-of t (Placed.hit x) d = tt
unspent-of t Placed.clear d = tt
unspent-of t (Placed.spent R) d = d

found-spent : {t u : ℕ} → Outcome.found t ≡ Outcome.spent u → ⊥
found-spent e = let z : ◌≡◌ {A = ℕ} 0 1 = cc in omega arith

none-spent : {t u : ℕ} → Outcome.none t ≡ Outcome.spent u → ⊥
none-spent e = let z : ◌≡◌ {A = ℕ} 0 1 = cc in omega arith

found_none : {t u : ℕ} → Outcome.found t ≡ Outcome.none u → ⊥
found_none e = let z : ◌≡◌ {A = ℕ} 0 1 = cc in omega arith

pub of-spent : (t : ℕ) {u : ℕ} (a : Placed) → outcome_of t a ≡ Outcome.spent u → a ≡ Placed.spent (reached_of a)
of-spent t (Placed.hit x) e = absurd (found-spent e)
of-spent t Placed.clear e = absurd (none-spent e)
of-spent t (Placed.spent R) e = refl

pub of-found : (t : ℕ) {u : ℕ} (a : Placed) → outcome_of t a ≡ Outcome.found u → (x : ℕ) × (a ≡ Placed.hit x)
of-found t (Placed.hit x) e = (x, refl)
of-found t Placed.clear e = absurd (found_none (sym e))
of-found t (Placed.spent R) e = absurd (found-spent (sym e))

pub of_none : (t : ℕ) {u : ℕ} (a : Placed) → outcome_of t a ≡ Outcome.none u → a ≡ Placed.clear
of_none t (Placed.hit x) e = absurd (found_none e)
of_none t Placed.clear e = refl
of_none t (Placed.spent R) e = absurd (none-spent (sym e))

-- what an answer shows is its text at the front
pub shown-as : (text : ℕ → List ℕ) (a : Placed) (out : List ℕ) → shown_at text a out ≡ front (text_of text a) out
shown-as text (Placed.hit x) out = refl
shown-as text Placed.clear out = refl
shown-as text (Placed.spent R) out = refl

-- two searches with one answer
pub alike : (text : ℕ → List ℕ) (a a₁ : Placed) → a₁ ≡ a → {out out' out₁ out₁' : List ℕ} → out' ≡ shown_at text a out → out₁' ≡ shown_at text a₁ out₁
    → WroteAlike out out' out₁ out₁'
alike text a a₁ e {out} {out₁ = out₁} p q =
    (text_of text a, p ∙ shown-as text a out, q ∙ ap (λ (x : Placed). shown_at text x out₁) e ∙ shown-as text a out₁)

-- ---- one frame: p says which of its `places` places hit, and `text` is what a hit shows

module _ (p : ℕ → Bool) (places : ℕ) (c : Circuit) (b t : ℕ) (text : ℕ → List ℕ) where
  -- a search from lo, with what it answered
  pub record Told (lo : ℕ) (o : Report) (out out' : List ℕ) : Type 0 where
    pub budget : ℕ
    pub answer : Placed
    pub start : lo ≤ greatest
    pub says : o ≡ report_of c b t answer
    pub allowed : T (answers p places lo budget answer)
    pub shows : out' ≡ shown_at text answer out

  outcome-said : {lo : ℕ} {o : Report} {out out' : List ℕ} (h : Told lo o out out') → o.outcome ≡ outcome_of t h.answer
  outcome-said h = ap (λ (r : Report). r.outcome) h.says

  -- what the last of several searches answered
  pub record Ended (K : ℕ → Placed → Type 0) (lo : ℕ) (o : Report) (out out' : List ℕ) : Type 0 where
    pub answer : Placed
    pub says : o ≡ report_of c b t answer
    pub shows : out' ≡ shown_at text answer out
    pub made : K lo answer

  module _ (asked : ℕ → Report → List ℕ → List ℕ → Type 0)
      (told : (lo : ℕ) (o : Report) (out out' : List ℕ) → asked lo o out out' → Told lo o out out') where
    chain-ended : {lo : ℕ} {o : Report} {out out' : List ℕ} → SearchChain asked lo o out out' → Ended (Chain p places) lo o out out'
    chain-ended {lo} {o} {out} {out'} (SearchChain.last h d) =
        let a = told lo o out out' h in
        record {
          answer = a.answer;
          says = a.says;
          shows = a.shows;
          made = Chain.last a.budget a.allowed (unspent-of t a.answer (subst Decided (outcome-said a) d));
        }
    chain-ended {lo} {o} {out} {out'} (SearchChain.next {o₀ = o₀} {out₀ = out₀} {out₀' = out₀'} h e r) =
        let a = told lo o₀ out₀ out₀' h in
        let m = chain-ended r in
        let s = of-spent t a.answer (sym (outcome-said a) ∙ e) in
        let R : reached_of a.answer ≡ o₀.reached = sym (ap (λ (z : Report). z.reached) a.says) in
        record {
          answer = m.answer;
          says = m.says;
          shows = m.shows;
          made =
              Chain.next a.budget (reached_of a.answer) (subst (λ (x : Placed). T (answers p places lo a.budget x)) s a.allowed)
              (subst (λ (x : ℕ). Chain p places x m.answer) (sym R) m.made);
        }

    ranges-ended : {lo : ℕ} {o : Report} {out out' : List ℕ} → SearchRanges asked lo o out out' → Ended (Ranges p places) lo o out out'
    ranges-ended {lo} {o} {out} {out'} (SearchRanges.last h d) =
        let a = told lo o out out' h in
        record {
          answer = a.answer;
          says = a.says;
          shows = a.shows;
          made = Ranges.last a.budget a.allowed (unspent-of t a.answer (subst Decided (outcome-said a) d));
        }
    ranges-ended {lo} {o} {out} {out'} (SearchRanges.found {lo' = lo'} h e l r) =
        let a = told lo o out out' h in
        let m = ranges-ended r in
        let f = of-found t a.answer (sym (outcome-said a) ∙ e) in
        let g = subst (λ (x : Placed). T (answers p places lo a.budget x)) f.1 a.allowed in
        let made = Ranges.more a.budget lo' (Placed.hit f.0) l g tt m.made in
        let same = true_same p places lo _ _ (ranges-true p places made) (unspent-true p places lo a.budget (Placed.hit f.0) tt g) in
        record {
          answer = a.answer;
          says = a.says;
          shows = a.shows;
          made = subst (Ranges p places lo) (same ∙ sym f.1) made;
        }
    ranges-ended {lo} {o} {out} {out'} (SearchRanges.none {lo' = lo'} {o₀ = o₀} {out₀ = out₀} {out₀' = out₀'} h e l r) =
        let a = told lo o₀ out₀ out₀' h in
        let m = ranges-ended r in
        let g = subst (λ (x : Placed). T (answers p places lo a.budget x)) (of_none t a.answer (sym (outcome-said a) ∙ e)) a.allowed in
        record {
          answer = m.answer;
          says = m.says;
          shows = m.shows;
          made = subst (Ranges p places lo) (go m.answer (ranges-true p places m.made)) (Ranges.more a.budget lo' Placed.clear l g tt m.made);
        }
      where
        go : (x : Placed) → True p places lo' x → lower Placed.clear x ≡ x
        go (Placed.hit y) h = refl
        go Placed.clear h = refl
        go (Placed.spent Q) h = absurd h
    ranges-ended {lo} {o} {out} {out'} (SearchRanges.spent {lo' = lo'} {o₀ = o₀} {out₀ = out₀} {out₀' = out₀'} h e l k r) =
        let a = told lo o₀ out₀ out₀' h in
        let m = ranges-ended r in
        let R = reached_of a.answer in
        let g = subst (λ (x : Placed). T (answers p places lo a.budget x)) (of-spent t a.answer (sym (outcome-said a) ∙ e)) a.allowed in
        let far : lo' ≤ R = omega (arith, ap (λ (z : Report). z.reached) a.says) in
        record {
          answer = m.answer;
          says = m.says;
          shows = m.shows;
          made =
              subst (Ranges p places lo) (go R m.answer (ranges-true p places m.made))
              (Ranges.more a.budget lo' (Placed.spent R) l g far m.made);
        }
      where
        go : (R : ℕ) (x : Placed) → True p places lo' x → lower (Placed.spent R) x ≡ x
        go R (Placed.hit y) h = refl
        go R Placed.clear h = refl
        go R (Placed.spent Q) h = absurd h

    module _ {lo : ℕ} {o o₁ : Report} {out out' out₁ out₁' : List ℕ} (other : asked lo o₁ out₁ out₁') (d : Decided o₁.outcome) where
      one_answer : (a : Placed) → o ≡ report_of c b t a → out' ≡ shown_at text a out
          → ((D : ℕ) (a' : Placed) → T (answers p places lo D a') → Unspent a' → a' ≡ a) → (o₁ ≡ o) × WroteAlike out out' out₁ out₁'
      one_answer a s w f =
          let h = told lo o₁ out₁ out₁' other in
          let e = f h.budget h.answer h.allowed (unspent-of t h.answer (subst Decided (outcome-said h) d)) in
          (h.says ∙ ap (report_of c b t) e ∙ sym s, alike text a h.answer e w h.shows)

      -- Clause 12.13: what a chain ends with is the report and the witness of every search from its first place that is not spent
      pub chain_same : SearchChain asked lo o out out' → (o₁ ≡ o) × WroteAlike out out' out₁ out₁'
      chain_same r =
          let m = chain-ended r in
          one_answer m.answer m.says m.shows (chain-answer p places (told lo o₁ out₁ out₁' other).start m.made)

      -- and so is what ranges end with
      pub ranges-same : SearchRanges asked lo o out out' → (o₁ ≡ o) × WroteAlike out out' out₁ out₁'
      ranges-same r =
          let m = ranges-ended r in
          one_answer m.answer m.says m.shows (ranges-answer p places m.made)

    -- the end of a chain by its answer
    pub chain-found : {lo u : ℕ} {o : Report} {out out' : List ℕ} → SearchChain asked lo o out out' → o.outcome ≡ Outcome.found u
        → (x : ℕ) × Chain p places lo (Placed.hit x) × (out' ≡ front (text x) out)
    chain-found {lo} {out = out} {out' = out'} r e =
        let m = chain-ended r in
        let f = of-found t m.answer (sym (ap (λ (z : Report). z.outcome) m.says) ∙ e) in
        (f.0, subst (Chain p places lo) f.1 m.made, subst (λ (x : Placed). out' ≡ shown_at text x out) f.1 m.shows)

    pub chain-none : {lo u : ℕ} {o : Report} {out out' : List ℕ} → SearchChain asked lo o out out' → o.outcome ≡ Outcome.none u
        → Chain p places lo Placed.clear
    chain-none {lo} r e =
        let m = chain-ended r in
        subst (Chain p places lo) (of_none t m.answer (sym (ap (λ (z : Report). z.outcome) m.says) ∙ e)) m.made

-- ---- a chain whose first search is one of all frames, spent at frame t

module _ (q : Question) (c : Circuit) (b t : ℕ) (text : ℕ → List ℕ) (asked : ℕ → Report → List ℕ → List ℕ → Type 0)
    (told : (lo : ℕ) (o : Report) (out out' : List ℕ) → asked lo o out out' → Told (q.hitting t) (q.places t) c b t text lo o out out')
    (k D R : ℕ) (h : T (permitted_of q k D (Outcome.spent t))) (r : T (reached_right q D (Outcome.spent t) R)) where
  -- Clause 12.13: found is the answer of every search of all frames that is not spent and whose bound is t or more, and its first hit is shown
  pub all_found : {u : ℕ} {o : Report} {out out' : List ℕ} → SearchChain asked R o out out' → o.outcome ≡ Outcome.found u
      → (k' D' : ℕ) (o₂ : Outcome) → t ≤ k' → Decided o₂ → T (permitted_of q k' D' o₂)
      → (o₂ ≡ Outcome.found t) × ((x : ℕ) × (first_at q t ≡ Option.some x) × (out' ≡ front (text x) out))
  all_found s e k' D' o₂ l d g =
      let (x, m, w) = chain-found (q.hitting t) (q.places t) c b t text asked told s e in
      let f = plain-found q k D t R h r x m k' D' o₂ l d g in
      (f.0, (x, f.1, w))

  -- and where it ends with none, no frame up to t has a hit
  pub all_none : {u : ℕ} {o : Report} {out out' : List ℕ} → SearchChain asked R o out out' → o.outcome ≡ Outcome.none u → Quiet q (t + 1)
  all_none s e = plain-none q k D t R h r (chain-none (q.hitting t) (q.places t) c b t text asked told s e)
