-- Clause 12.13: more budget keeps an answer from a place. Assumes nothing.
use mathlib.Core.Path.{◌≡◌, refl, sym, ap, ◌∙◌, subst}
use mathlib.Core.Bool.{Bool}
use mathlib.Core.List.{List}
use mathlib.Core.Logic.{◌⊎◌, inl, inr}
use Prim.Native.Nat.{ℕ, ◌+◌, ◌*◌, ◌^◌, ◌≤◌, ◌<◌, min, max}
use native.Mathlib.Omega.{arith}
use Rattle.aiger.specs.Circuit.{Circuit}
use Rattle.aiger.specs.Frames.{free_bits, size}
use Rattle.aiger.specs.Search.{Decision, reaches}
use Rattle.enumeration.specs.Choice.{decision}
use Rattle.enumeration.proofs.Laws.{hit-first, clear_none}
use Rattle.unroll.specs.Chosen.{unrolled}
use Rattle.conflicts.specs.Conflicts.{Result}
use Rattle.conflicts.specs.declared.Verdict.{Verdict}
use Rattle.conflicts.specs.declared.Verdict.TheVariants.{Found, Clear, Out}
use Rattle.conflicts.proofs.Theorems.{more-effort}
use Rattle.netlist.specs.Netlist.{net_of}
use Rattle.place_search.specs.Places.{Placed, Unspent}
use Rattle.place_solver.specs.From.{start_words, solved_from}
use Rattle.decision.specs.Reach.{first_places, effort, decided_or}
use Rattle.place_decision.specs.Reach.{searched_from, tries, reach_from, reached_from, telling, place_chosen}
use Rattle.place_decision.proofs.Choosing.{hit-at, clear_at, hit-tried, clear-tried}

-- more budget is no less effort
effort-more : (units D E : ℕ) → D ≤ E → effort units D ≤ effort units E
unfolding effort
effort-more units D E l = omega arith

module _ (c : Circuit) (b t lo D E : ℕ) (more : D ≤ E) where
  abbrev p : ℕ → Bool
  p = reaches c b t

  abbrev all : ℕ
  all = 2 ^ free_bits c t

  -- what the conflict search decides it decides with more effort
  searched-more : (searched_from c b t lo D ≡ Out → ⊥) → searched_from c b t lo E ≡ searched_from c b t lo D
  unfolding searched_from solved_from
  searched-more some =
      ap (λ (r : Result). r.verdict)
      (more-effort (start_words (free_bits c t) (unrolled c b t).gates (unrolled c b t).edge (16 * size c t) lo)
      (net_of (free_bits c t) (unrolled c b t).gates (unrolled c b t).edge (16 * size c t)) (effort (size c t) D) (effort (size c t) E)
      (effort-more (size c t) D E more) some)

  tries-more : tries (free_bits c t) D ≤ tries (free_bits c t) E
  unfolding tries
  tries-more = omega arith

  decided-one : (v : Verdict) → (v ≡ Out) ⊎ ((v ≡ Out → ⊥) × (decided_or v all (tries (free_bits c t) E) ≡ all))
  decided-one Found = inr (λ e. not_found e, refl)
    where
      not_found : Found ≡ Out → ⊥
      not_found e = let z : ◌≡◌ {A = ℕ} 0 1 = cc in omega arith
  decided-one (Clear used) = inr (λ e. not-clear e, refl)
    where
      not-clear : Clear used ≡ Out → ⊥
      not-clear e = let z : ◌≡◌ {A = ℕ} 0 1 = cc in omega arith
  decided-one Out = inl refl

  -- no fewer sequences are passed, or all of them
  reach-more : (reach_from c b t lo D ≤ reach_from c b t lo E) ⊎ (reach_from c b t lo E ≡ all)
  unfolding reach_from
  reach-more =
      elim (decided-one (searched_from c b t lo D)) [
        | inr s ↦ inr (ap (λ (v : Verdict). decided_or v all (tries (free_bits c t) E)) (searched-more s.0) ∙ s.1)
        | inl e ↦
            let q : decided_or (searched_from c b t lo D) all (tries (free_bits c t) D) ≡ tries (free_bits c t) D =
            ap (λ (v : Verdict). decided_or v all (tries (free_bits c t) D)) e in
            elim (decided-one (searched_from c b t lo E)) [
              | inr s ↦ inr s.1
              | inl f ↦
                  let r : decided_or (searched_from c b t lo E) all (tries (free_bits c t) E) ≡ tries (free_bits c t) E =
                  ap (λ (v : Verdict). decided_or v all (tries (free_bits c t) E)) f in
                  inl (omega (arith, q, r, tries-more))
            ]
      ]

  decision-more : (d : Decision) → decision p all lo (reach_from c b t lo D) ≡ d → Unspent (telling d (reached_from c b t lo D))
      → decision p all lo (reach_from c b t lo E) ≡ d
  decision-more (Decision.hit x) e u =
      let f = hit-first p all lo (reach_from c b t lo D) e in
      let l = hit-tried p all lo (reach_from c b t lo D) e in
      elim reach-more [
        | inl m ↦ hit-at p all lo (reach_from c b t lo E) f (omega arith)
        | inr m ↦ hit-at p all lo (reach_from c b t lo E) f (omega (arith, f.fits))
      ]
  decision-more Decision.clear e u =
      let f = clear_none p all lo (reach_from c b t lo D) e in
      let l = clear-tried p all lo (reach_from c b t lo D) e in
      elim reach-more [
        | inl m ↦ clear_at p all lo (reach_from c b t lo E) (omega arith) f
        | inr m ↦ clear_at p all lo (reach_from c b t lo E) (omega arith) f
      ]
  decision-more Decision.spent e u = absurd u

  same-telling : (d : Decision) (R S : ℕ) → Unspent (telling d R) → telling d S ≡ telling d R
  same-telling (Decision.hit x) R S u = refl
  same-telling Decision.clear R S u = refl
  same-telling Decision.spent R S u = absurd u

  -- an answer that is not spent is given with every larger budget, with the same hit
  pub more-budget : Unspent (place_chosen c b t lo D) → place_chosen c b t lo E ≡ place_chosen c b t lo D
  unfolding place_chosen
  more-budget u =
      let d = decision p all lo (reach_from c b t lo D) in
      ap (λ (x : Decision). telling x (reached_from c b t lo E)) (decision-more d refl u)
      ∙ same-telling d (reached_from c b t lo D) (reached_from c b t lo E) u
