-- What the contract of a search from a place says of its answers: chains, ranges, place 0, more budget, and chains that a plain search
-- begins. Clauses 12.10, 12.11 and 12.13. Assumes nothing.
use mathlib.Core.Path.{◌≡◌, refl, sym, ap, ap₂, ◌∙◌, subst}
use mathlib.Core.List.{List, []}
use mathlib.Core.Option.{Option}
use Prim.Native.Nat.{ℕ, ◌+◌, ◌^◌, ◌≤◌}
use lib.Dec.{T}
use lib.ListN.{length}
use Rattle.aiger.specs.Circuit.{Circuit}
use Rattle.aiger.specs.Frames.{free_bits, run}
use Rattle.aiger.specs.Load.{Answer, gives}
use Rattle.aiger.specs.Memory.{Holds}
use Rattle.aiger.specs.Search.{question, Outcome, Report, permitted, permitted_of, reaches, reached_right, first_at, first_witness}
use Rattle.aiger.specs.Witness.{witness}
use Rattle.aiger.specs.Operations.{Searched, front, shown}
use Rattle.meaning.proofs.Outcomes.{Decided, Quiet}
use Rattle.roundtrip.proofs.Determined.{OneText, alike-held, acted, operated-same}
use Rattle.place_search.specs.Places.{Placed, answers, frame_alone, outcome_of}
use Rattle.place_search.specs.Operation.{place_tests, PlaceEffect, PlaceSearched, shown_from, report_of}
use Rattle.place_search.proofs.Answers.{zero-permitted, zero-tells, alone-permitted}
use Rattle.place_search.proofs.Searches.{SearchChain, SearchRanges, WroteAlike, Told, alike, unspent-of, chain_same, ranges-same, all_found, all_none}
use Rattle.place_limits.proofs.Passing.{place-passed}
use Rattle.place_decision.specs.Reach.{place_chosen}
use Rattle.place_decision.proofs.More.{more-budget}
use Rattle.search.specs.Chosen.{chosen}

-- a search of frame t of the circuit from a place, with some budget and some memories: what it reported, and the output before and after it
pub record Asked (c : Circuit) (b t place : ℕ) (o : Report) (out out' : List ℕ) : Type 0 where
  pub memory : List ℕ
  pub work : List ℕ
  pub work' : List ℕ
  pub budget : ℕ
  pub held : Holds memory c
  pub done : PlaceSearched place_chosen memory b t place budget work out (gives o) work' out'

module _ {m w out w' out' : List ℕ} {c : Circuit} {b t place D : ℕ} {o : Report} (h : Holds m c)
    (s : PlaceSearched place_chosen m b t place D w out (gives o) w' out') where
  -- what is reported is what is chosen, it may be answered, and the output shows it
  pub result : (o ≡ report_of c b t (place_chosen c b t place D)) × T (answers (reaches c b t) (2 ^ free_bits c t) place D (place_chosen c b t place D))
      × (out' ≡ shown_from c b t (place_chosen c b t place D) out)
  result = let e = (acted h s refl).1 in (e.chose, e.allowed, e.shows)

  -- as one of several searches of the frame
  pub told : Told (reaches c b t) (2 ^ free_bits c t) c b t (λ x. witness b (run c t x)) place o out out'
  told =
      let a = acted h s refl in
      record {
        budget = D;
        answer = place_chosen c b t place D;
        start = (place-passed c c b t place D (length w) (length out) a.0).start;
        says = a.1.chose;
        allowed = a.1.allowed;
        shows = a.1.shows;
      }

  outcome-is : o.outcome ≡ outcome_of t (place_chosen c b t place D)
  outcome-is = ap (λ (r : Report). r.outcome) result.0

-- Clause 12.11: at place 0 the answer is permitted for the plain search of that frame alone; where no frame before t has a hit, for the
-- plain search with bound t, with the place that is told
pub at_zero : {m w out w' out' : List ℕ} {c : Circuit} {b t D : ℕ} {o : Report} → Holds m c
    → PlaceSearched place_chosen m b t 0 D w out (gives o) w' out'
    → T (permitted_of (frame_alone (question c b) t) 0 D (outcome_of 0 (place_chosen c b t 0 D)))
    × (Quiet (question c b) t → T (permitted c b t D o.outcome) × T (reached_right (question c b) D o.outcome o.reached))
at_zero {c = c} {b = b} {t = t} {D = D} {o = o} h s =
    let r = result h s in
    let a = place_chosen c b t 0 D in (
      alone-permitted (question c b) t D a r.1,
      λ quiet.
          subst (λ (z : Report). T (permitted c b t D z.outcome) × T (reached_right (question c b) D z.outcome z.reached)) (sym r.0)
          (zero-permitted (question c b) t D a quiet r.1, zero-tells (question c b) t D a r.1),
    )

-- earlier contents of working memory and output never matter, nor does which memory holds the circuit
pub memory-same : {m m' w w' out out' w₁ w₂ o₁ o₂ : List ℕ} {c : Circuit} {b t place D : ℕ} {x y : Answer Report} → Holds m c → Holds m' c
    → length w ≡ length w' → length out ≡ length out' → PlaceSearched place_chosen m b t place D w out x w₁ o₁
    → PlaceSearched place_chosen m' b t place D w' out' y w₂ o₂ → (x ≡ y) × OneText out o₁ out' o₂
memory-same {out = out} {out' = out'} {b = b} {t = t} {place = place} {D = D} h k l n s u =
    operated-same (λ (p q : List ℕ × List ℕ). OneText out p.1 out' q.1) (alike-held h k)
    (λ c. ap₂ (λ (i j : ℕ). place_tests c c b t place D i j) l n)
    (record { text = []; first = refl; second = refl })
    (λ c x y p q e f. one c e f) s u
  where
    one : (c : Circuit) {o o' : Report} {p q : List ℕ × List ℕ} → PlaceEffect place_chosen b t place D out c o p
        → PlaceEffect place_chosen b t place D out' c o' q → (o ≡ o') × OneText out p.1 out' q.1
    one c e f =
        let a = place_chosen c b t place D in
        let w = alike (λ x. witness b (run c t x)) a a refl e.shows f.shows in
        (e.chose ∙ sym f.chose, record { text = w.0; first = w.1; second = w.2 })

-- Request 13: what is not spent is answered with every larger budget, with the same witness
pub budget-kept : {m m' w w' w₁ w₂ out out' o₁ o₂ : List ℕ} {c : Circuit} {b t place D E : ℕ} {o o' : Report} → Holds m c → Holds m' c → D ≤ E
    → PlaceSearched place_chosen m b t place D w out (gives o) w₁ o₁ → PlaceSearched place_chosen m' b t place E w' out' (gives o') w₂ o₂
    → Decided o.outcome → (o' ≡ o) × WroteAlike out o₁ out' o₂
budget-kept {c = c} {b = b} {t = t} {place = place} {D = D} {E = E} h h' l s s' d =
    let r = result h s in
    let r' = result h' s' in
    let e = more-budget c b t place D E l (unspent-of t (place_chosen c b t place D) (subst Decided (outcome-is h s) d)) in (
      r'.0 ∙ ap (report_of c b t) e ∙ sym r.0,
      alike (λ x. witness b (run c t x)) (place_chosen c b t place D) (place_chosen c b t place E) e r.2 r'.2,
    )

module _ {c : Circuit} {b t : ℕ} where
  asked-told : (lo : ℕ) (o : Report) (out out' : List ℕ) → Asked c b t lo o out out'
      → Told (reaches c b t) (2 ^ free_bits c t) c b t (λ x. witness b (run c t x)) lo o out out'
  asked-told lo o out out' a = told a.held a.done

  module _ {lo : ℕ} {o o₁ : Report} {out out' out₁ out₁' : List ℕ} (other : Asked c b t lo o₁ out₁ out₁') (d : Decided o₁.outcome) where
    -- Clause 12.13: what a chain of searches ends with is the report and the witness of every search from its first place that is not spent
    pub chained : SearchChain (Asked c b t) lo o out out' → (o₁ ≡ o) × WroteAlike out out' out₁ out₁'
    chained r = chain_same (reaches c b t) (2 ^ free_bits c t) c b t (λ x. witness b (run c t x)) (Asked c b t) asked-told other d r

    -- so is what searches from several places end with
    pub ranged : SearchRanges (Asked c b t) lo o out out' → (o₁ ≡ o) × WroteAlike out out' out₁ out₁'
    ranged r = ranges-same (reaches c b t) (2 ^ free_bits c t) c b t (λ x. witness b (run c t x)) (Asked c b t) asked-told other d r

-- the first hit's witness
first-text : (c : Circuit) (b t x : ℕ) → first_at (question c b) t ≡ Option.some x → first_witness c b t ≡ witness b (run c t x)
unfolding first_witness
first-text c b t x e = ap (λ (o : Option ℕ). elim o [ Option.some y ↦ witness b (run c t y) | Option.none ↦ [] ]) e

-- Clause 12.13: a chain that begins where a plain search was spent
module _ {m w out₀ w' out₀' : List ℕ} {c : Circuit} {b k D t : ℕ} {o₀ : Report} (h : Holds m c)
    (s : Searched chosen m b k D w out₀ (gives o₀) w' out₀') (spent : o₀.outcome ≡ Outcome.spent t) where
  allowed : T (permitted c b k D (Outcome.spent t))
  allowed = subst (λ (o : Outcome). T (permitted c b k D o)) spent (acted h s refl).1.allowed

  reached : T (reached_right (question c b) D (Outcome.spent t) o₀.reached)
  reached = subst (λ (o : Outcome). T (reached_right (question c b) D o o₀.reached)) spent (acted h s refl).1.told

  module _ {o : Report} {out out' : List ℕ} (r : SearchChain (Asked c b t) o₀.reached o out out') where
    -- found is the answer, with its witness, of every plain search that is not spent and whose bound is t or more
    pub plain-chained : {u : ℕ} → o.outcome ≡ Outcome.found u
        → {m₂ w₂ w₂' out₂ out₂' : List ℕ} {k₂ D₂ : ℕ} {o₂ : Report} → Holds m₂ c
        → Searched chosen m₂ b k₂ D₂ w₂ out₂ (gives o₂) w₂' out₂' → t ≤ k₂ → Decided o₂.outcome
        → (o₂.outcome ≡ Outcome.found t) × WroteAlike out out' out₂ out₂'
    plain-chained e {out₂ = out₂} {out₂' = out₂'} {k₂ = k₂} {D₂ = D₂} {o₂ = o₂} h₂ s₂ l d =
        let a = (acted h₂ s₂ refl).1 in
        let (f, g) =
        all_found (question c b) c b t (λ x. witness b (run c t x)) (Asked c b t) asked-told k D o₀.reached allowed reached r e k₂ D₂ o₂.outcome l d
        a.allowed in
        let (x, first, w) = g in
        let shows : out₂' ≡ front (first_witness c b t) out₂ =
        a.shows ∙ ap (λ (z : Outcome). shown c b z out₂) f in (
          f,
          (witness b (run c t x), w, shows ∙ ap (λ (z : List ℕ). front z out₂) (first-text c b t x first)),
        )

    -- where it ends with none, no frame up to t has a hit
    pub plain_quiet : {u : ℕ} → o.outcome ≡ Outcome.none u → Quiet (question c b) (t + 1)
    plain_quiet e =
        all_none (question c b) c b t (λ x. witness b (run c t x)) (Asked c b t) asked-told k D o₀.reached allowed reached r e
