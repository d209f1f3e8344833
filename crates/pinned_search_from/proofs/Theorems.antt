-- What the contract of a search from a place under pins says of its answers: chains, ranges, place 0, more budget, and chains that a
-- search of all frames begins. Without pins it is so of the operation itself. Clauses 12.7, 12.10, 12.11 and 12.13. Assumes nothing.
use mathlib.Core.Path.{◌≡◌, refl, sym, ap, ◌∙◌, subst}
use mathlib.Core.List.{List, []}
use mathlib.Core.Option.{Option}
use Prim.Native.Nat.{ℕ, ◌+◌, ◌≤◌}
use lib.Dec.{T}
use lib.ListN.{length}
use Rattle.aiger.specs.Circuit.{Circuit}
use Rattle.aiger.specs.Frames.{run_in}
use Rattle.aiger.specs.Load.{gives}
use Rattle.aiger.specs.Memory.{Holds}
use Rattle.aiger.specs.Search.{Outcome, Report, permitted_of, reached_right, first_at}
use Rattle.aiger.specs.Witness.{witness}
use Rattle.aiger.specs.Operations.{front}
use Rattle.meaning.proofs.Outcomes.{Decided, Quiet}
use Rattle.roundtrip.proofs.Determined.{acted}
use Rattle.pins.specs.Pins.{pinned, pinned_space, pinned_question, pinned_witness}
use Rattle.pinning.specs.Operations.{PinnedSearched, pinned_shown}
use Rattle.pinning.specs.FromPlace.{pinned_text_at, PinnedSearchedFrom}
use Rattle.place_search.specs.Places.{Placed, answers, frame_alone, outcome_of}
use Rattle.place_search.specs.Operation.{report_of, shown_at}
use Rattle.place_search.proofs.Answers.{zero-permitted, zero-tells, alone-permitted}
use Rattle.place_search.proofs.Searches.{SearchChain, SearchRanges, WroteAlike, Told, alike, unspent-of, chain_same, ranges-same, all_found, all_none}
use Rattle.place_limits.proofs.Passing.{place-passed}
use Rattle.place_decision.specs.Reach.{place_chosen}
use Rattle.place_decision.proofs.More.{more-budget}
use Rattle.search.specs.Chosen.{chosen}

-- a search of frame t of the circuit under pins from a place, with some budget and some memories: what it reported, and the output before
-- and after it
pub record AskedUnder (c : Circuit) (q : ℕ → ℕ) (b t place : ℕ) (o : Report) (out out' : List ℕ) : Type 0 where
  pub memory : List ℕ
  pub work : List ℕ
  pub work' : List ℕ
  pub budget : ℕ
  pub held : Holds memory c
  pub done : PinnedSearchedFrom place_chosen memory q b t place budget work out (gives o) (work', out')

module _ {m w out w' out' : List ℕ} {c : Circuit} {q : ℕ → ℕ} {b t place D : ℕ} {o : Report} (h : Holds m c)
    (s : PinnedSearchedFrom place_chosen m q b t place D w out (gives o) (w', out')) where
  -- what is reported is what is chosen, it may be answered, and the output shows it
  pub result : (o ≡ report_of c b t (place_chosen (pinned c q) b t place D))
      × T (answers ((pinned_question c q b).hitting t) ((pinned_question c q b).places t) place D (place_chosen (pinned c q) b t place D))
      × (out' ≡ shown_at (pinned_text_at c q b t) (place_chosen (pinned c q) b t place D) out)
  result = let e = (acted h s refl).1 in (e.chose, e.allowed, e.shows)

  -- as one of several searches of the frame
  pub told : Told ((pinned_question c q b).hitting t) ((pinned_question c q b).places t) c b t (pinned_text_at c q b t) place o out out'
  told =
      let a = acted h s refl in
      record {
        budget = D;
        answer = place_chosen (pinned c q) b t place D;
        start = (place-passed (pinned c q) c b t place D (length w) (length out) a.0).start;
        says = a.1.chose;
        allowed = a.1.allowed;
        shows = a.1.shows;
      }

  outcome-is : o.outcome ≡ outcome_of t (place_chosen (pinned c q) b t place D)
  outcome-is = ap (λ (r : Report). r.outcome) result.0

-- Clause 12.11: at place 0 the answer is permitted for the search of that frame alone; where no frame before t has a hit, for the search
-- with bound t, with the place that is told
pub at_zero : {m w out w' out' : List ℕ} {c : Circuit} {q : ℕ → ℕ} {b t D : ℕ} {o : Report} → Holds m c
    → PinnedSearchedFrom place_chosen m q b t 0 D w out (gives o) (w', out')
    → T (permitted_of (frame_alone (pinned_question c q b) t) 0 D (outcome_of 0 (place_chosen (pinned c q) b t 0 D)))
    × (Quiet (pinned_question c q b) t
    → T (permitted_of (pinned_question c q b) t D o.outcome) × T (reached_right (pinned_question c q b) D o.outcome o.reached))
at_zero {c = c} {q = q} {b = b} {t = t} {D = D} {o = o} h s =
    let r = result h s in
    let a = place_chosen (pinned c q) b t 0 D in
    let z = pinned_question c q b in (
      alone-permitted z t D a r.1,
      λ quiet.
          subst (λ (y : Report). T (permitted_of z t D y.outcome) × T (reached_right z D y.outcome y.reached)) (sym r.0)
          (zero-permitted z t D a quiet r.1, zero-tells z t D a r.1),
    )

-- Clause 12.16: what is not spent is answered with every larger budget, with the same witness
pub budget-kept : {m m' w w' w₁ w₂ out out' o₁ o₂ : List ℕ} {c : Circuit} {q : ℕ → ℕ} {b t place D E : ℕ} {o o' : Report} → Holds m c → Holds m' c
    → D ≤ E → PinnedSearchedFrom place_chosen m q b t place D w out (gives o) (w₁, o₁)
    → PinnedSearchedFrom place_chosen m' q b t place E w' out' (gives o') (w₂, o₂) → Decided o.outcome → (o' ≡ o) × WroteAlike out o₁ out' o₂
budget-kept {c = c} {q = q} {b = b} {t = t} {place = place} {D = D} {E = E} h h' l s s' d =
    let r = result h s in
    let r' = result h' s' in
    let p = pinned c q in
    let e = more-budget p b t place D E l (unspent-of t (place_chosen p b t place D) (subst Decided (outcome-is h s) d)) in (
      r'.0 ∙ ap (report_of c b t) e ∙ sym r.0,
      alike (pinned_text_at c q b t) (place_chosen p b t place D) (place_chosen p b t place E) e r.2 r'.2,
    )

module _ {c : Circuit} {q : ℕ → ℕ} {b t : ℕ} where
  asked-told : (lo : ℕ) (o : Report) (out out' : List ℕ) → AskedUnder c q b t lo o out out'
      → Told ((pinned_question c q b).hitting t) ((pinned_question c q b).places t) c b t (pinned_text_at c q b t) lo o out out'
  asked-told lo o out out' a = told a.held a.done

  module _ {lo : ℕ} {o o₁ : Report} {out out' out₁ out₁' : List ℕ} (other : AskedUnder c q b t lo o₁ out₁ out₁') (d : Decided o₁.outcome) where
    -- Clause 12.13: what a chain of searches ends with is the report and the witness of every search from its first place that is not spent
    pub chained : SearchChain (AskedUnder c q b t) lo o out out' → (o₁ ≡ o) × WroteAlike out out' out₁ out₁'
    chained r =
        chain_same ((pinned_question c q b).hitting t) ((pinned_question c q b).places t) c b t (pinned_text_at c q b t) (AskedUnder c q b t) asked-told other d r

    -- so is what searches from several places end with
    pub ranged : SearchRanges (AskedUnder c q b t) lo o out out' → (o₁ ≡ o) × WroteAlike out out' out₁ out₁'
    ranged r =
        ranges-same ((pinned_question c q b).hitting t) ((pinned_question c q b).places t) c b t (pinned_text_at c q b t) (AskedUnder c q b t) asked-told other d r

-- the first hit's witness
first-text : (c : Circuit) (q : ℕ → ℕ) (b t x : ℕ) → first_at (pinned_question c q b) t ≡ Option.some x → pinned_witness c q b t ≡ pinned_text_at c q b t x
unfolding pinned_witness
first-text c q b t x e = ap (λ (o : Option ℕ). elim o [ Option.some y ↦ witness b (run_in (pinned_space c q) t y) | Option.none ↦ [] ]) e

-- Clause 12.13: a chain that begins where a search of all frames was spent
module _ {m w out₀ : List ℕ} {left₀ : List ℕ × List ℕ} {c : Circuit} {q : ℕ → ℕ} {b k D t : ℕ} {o₀ : Report} (h : Holds m c)
    (s : PinnedSearched chosen m q b k D w out₀ (gives o₀) left₀) (spent : o₀.outcome ≡ Outcome.spent t) where
  allowed : T (permitted_of (pinned_question c q b) k D (Outcome.spent t))
  allowed = subst (λ (o : Outcome). T (permitted_of (pinned_question c q b) k D o)) spent (acted h s refl).1.allowed

  reached : T (reached_right (pinned_question c q b) D (Outcome.spent t) o₀.reached)
  reached = subst (λ (o : Outcome). T (reached_right (pinned_question c q b) D o o₀.reached)) spent (acted h s refl).1.told

  module _ {o : Report} {out out' : List ℕ} (r : SearchChain (AskedUnder c q b t) o₀.reached o out out') where
    -- found is the answer, with its witness, of every search of all frames that is not spent and whose bound is t or more
    pub plain-chained : {u : ℕ} → o.outcome ≡ Outcome.found u
        → {m₂ w₂ out₂ : List ℕ} {left₂ : List ℕ × List ℕ} {k₂ D₂ : ℕ} {o₂ : Report} → Holds m₂ c
        → PinnedSearched chosen m₂ q b k₂ D₂ w₂ out₂ (gives o₂) left₂ → t ≤ k₂ → Decided o₂.outcome
        → (o₂.outcome ≡ Outcome.found t) × WroteAlike out out' out₂ left₂.1
    plain-chained e {out₂ = out₂} {left₂ = left₂} {k₂ = k₂} {D₂ = D₂} {o₂ = o₂} h₂ s₂ l d =
        let a = (acted h₂ s₂ refl).1 in
        let (f, g) =
        all_found (pinned_question c q b) c b t (pinned_text_at c q b t) (AskedUnder c q b t) asked-told k D o₀.reached allowed reached r e k₂ D₂
        o₂.outcome l d a.allowed in
        let (x, first, z) = g in
        let shows : left₂.1 ≡ front (pinned_witness c q b t) out₂ = a.shows ∙ ap (λ (y : Outcome). pinned_shown c q b y out₂) f in (
          f,
          (pinned_text_at c q b t x, z, shows ∙ ap (λ (y : List ℕ). front y out₂) (first-text c q b t x first)),
        )

    -- where it ends with none, no frame up to t has a hit
    pub plain_quiet : {u : ℕ} → o.outcome ≡ Outcome.none u → Quiet (pinned_question c q b) (t + 1)
    plain_quiet e =
        all_none (pinned_question c q b) c b t (pinned_text_at c q b t) (AskedUnder c q b t) asked-told k D o₀.reached allowed reached r e
