-- Request 13: a larger budget keeps found and none, a larger bound keeps found, a smaller bound keeps none. The laws are of any list of
-- stages and any decision frame by frame that meet what is asked of them. Assumes nothing.
use mathlib.Core.Path.{◌≡◌, refl, sym, ap, ◌∙◌, subst}
use mathlib.Core.Bool.{Bool, true, false, cond}
use mathlib.Core.List.{List}
use Prim.Native.Nat.{ℕ, zero, suc, ◌+◌, ◌-◌, ◌≤◌, ◌<◌}
use native.Mathlib.Decide.{dec_lt, ℕ_discrete}
use native.Mathlib.Omega.{arith}
use borrow.Author.Tests.{leb-true, leb-false, le-leb, lt-leb}
use lib.Dec.{T, leb}
use Rattle.aiger.specs.Search.{Question, Decision, Outcome}
use Rattle.meaning.proofs.Decisions as decisions
use Rattle.meaning.proofs.Outcomes.{Decided}
use Rattle.stages.specs.Endings.{Ending, Cut, Staged, Stage, staged_at, NoHit, NoneBefore, StagedRight, FromOn, Keeps, AllSound}
use Rattle.stages.specs.Choice.{listed, outcome_of, chosen_from, on_from, seen, outcome_at, chosen_by, is_never, never_by}
use Rattle.stages.proofs.Lists.{listed-sound}
use Rattle.stages.proofs.Choice.{never-is, list_right}

-- ---- what found and none say of the decisions

-- the frames from t up to e are decided to be clear
abbrev ClearUpTo : (ℕ → Decision) → ℕ → ℕ → Type 0
ClearUpTo f t e = (v : ℕ) → t ≤ v → v < e → f v ≡ Decision.clear

-- of the frames from t on u is the first with a hit
record FoundFrom (f : ℕ → Decision) (t u : ℕ) : Type 0 where
  from : t ≤ u
  clears : ClearUpTo f t u
  place : ℕ
  hits : f u ≡ Decision.hit place

module _ (f : ℕ → Decision) (k : ℕ) where
  found_here : {t u : ℕ} → Outcome.found t ≡ Outcome.found u → t ≡ u
  found_here e = cc

  none-is-found : {A : Type 0} {j u : ℕ} → Outcome.none j ≡ Outcome.found u → A
  none-is-found e = let z : ◌≡◌ {A = ℕ} 0 1 = cc in absurd (omega arith)

  spent-is-found : {A : Type 0} {t u : ℕ} → Outcome.spent t ≡ Outcome.found u → A
  spent-is-found e = let z : ◌≡◌ {A = ℕ} 0 1 = cc in absurd (omega arith)

  found-is-none : {A : Type 0} {t j : ℕ} → Outcome.found t ≡ Outcome.none j → A
  found-is-none e = let z : ◌≡◌ {A = ℕ} 0 1 = cc in absurd (omega arith)

  spent-is-none : {A : Type 0} {t j : ℕ} → Outcome.spent t ≡ Outcome.none j → A
  spent-is-none e = let z : ◌≡◌ {A = ℕ} 0 1 = cc in absurd (omega arith)

  clear-more : (t e : ℕ) → f t ≡ Decision.clear → ClearUpTo f (suc t) e → ClearUpTo f t e
  clear-more t e c h v l m = elim (ℕ_discrete v t) [ yes s ↦ ap f s ∙ c | no s ↦ h v (omega arith) m ]

  frames-found : (n t u : ℕ) → chosen_from f k t n ≡ Outcome.found u → (u < t + n) × FoundFrom f t u
  unfolding chosen_from
  frames-found zero t u e = none-is-found e
  frames-found (suc n) t u e = go (f t) refl e (λ h. frames-found n (suc t) u h)
    where
      go : (d : Decision) → f t ≡ d → outcome_of d t (chosen_from f k (suc t) n) ≡ Outcome.found u
          → (chosen_from f k (suc t) n ≡ Outcome.found u → (u < suc t + n) × FoundFrom f (suc t) u) → (u < t + suc n) × FoundFrom f t u
      go (Decision.hit x) p h rec =
          let s : t ≡ u = found_here h in
          (omega arith, record { from = omega arith; clears = λ v a b. absurd (omega arith); place = x; hits = ap f (sym s) ∙ p })
      go Decision.clear p h rec =
          let r = rec h in
          let w = r.1 in
          (omega (arith, r.0), record { from = omega (arith, w.from); clears = clear-more t u p w.clears; place = w.place; hits = w.hits })
      go Decision.spent p h rec = spent-is-found h

  frames-none : (n t j : ℕ) → chosen_from f k t n ≡ Outcome.none j → ClearUpTo f t (t + n)
  unfolding chosen_from
  frames-none zero t j e = λ v a b. absurd (omega arith)
  frames-none (suc n) t j e = go (f t) refl e (λ h. frames-none n (suc t) j h)
    where
      go : (d : Decision) → f t ≡ d → outcome_of d t (chosen_from f k (suc t) n) ≡ Outcome.none j
          → (chosen_from f k (suc t) n ≡ Outcome.none j → ClearUpTo f (suc t) (suc t + n)) → ClearUpTo f t (t + suc n)
      go (Decision.hit x) p h rec = found-is-none h
      go Decision.clear p h rec = clear-more t (t + suc n) p (λ v a b. rec h v a (omega arith))
      go Decision.spent p h rec = spent-is-none h

  found-frames : (n t u : ℕ) → u < t + n → FoundFrom f t u → chosen_from f k t n ≡ Outcome.found u
  unfolding chosen_from
  found-frames zero t u l w = absurd (omega (arith, w.from))
  found-frames (suc n) t u l w = elim (ℕ_discrete t u) [
    | yes s ↦ ap (λ (d : Decision). outcome_of d t (chosen_from f k (suc t) n)) (ap f s ∙ w.hits) ∙ ap Outcome.found s
    | no s ↦
        ap (λ (d : Decision). outcome_of d t (chosen_from f k (suc t) n)) (w.clears t (omega arith) (omega (arith, w.from)))
        ∙ found-frames n (suc t) u (omega arith)
        (record { from = omega (arith, w.from); clears = λ v a b. w.clears v (omega arith) b; place = w.place; hits = w.hits })
  ]

  none-frames : (n t : ℕ) → ClearUpTo f t (t + n) → chosen_from f k t n ≡ Outcome.none k
  unfolding chosen_from
  none-frames zero t c = refl
  none-frames (suc n) t c =
      ap (λ (d : Decision). outcome_of d t (chosen_from f k (suc t) n)) (c t (omega arith) (omega arith))
      ∙ none-frames n (suc t) (λ v a b. c v (omega arith) (omega arith))

  on-found : (t u : ℕ) → on_from f k t ≡ Outcome.found u → (u ≤ k) × FoundFrom f t u
  on-found t u e = let r = frames-found (k + 1 - t) t u e in (omega (arith, r.0, r.1.from), r.1)

  found-on : (t u : ℕ) → u ≤ k → FoundFrom f t u → on_from f k t ≡ Outcome.found u
  found-on t u l w = found-frames (k + 1 - t) t u (omega (arith, w.from)) w

  on_none : (t j : ℕ) → on_from f k t ≡ Outcome.none j → ClearUpTo f t (k + 1)
  on_none t j e v a b = frames-none (k + 1 - t) t j e v a (omega arith)

  none-on : (t : ℕ) → ClearUpTo f t (k + 1) → on_from f k t ≡ Outcome.none k
  none-on t c = none-frames (k + 1 - t) t (λ v a b. c v a (omega arith))

-- ---- what they say of the stages and the decisions after them, without a bound

-- u is the first frame with a hit
abbrev Finds : (ℕ → Decision) → Staged → ℕ → Type 0
Finds f (Staged.ends (Ending.hit t x)) u = t ≡ u
Finds f (Staged.ends (Ending.never t)) u = ⊥
Finds f (Staged.ends Ending.clear) u = ⊥
Finds f (Staged.ends (Ending.gave_up t)) u = FoundFrom f t u
Finds f (Staged.cut_off t) u = FoundFrom f t u

-- no frame up to k has a hit
abbrev Clears : (ℕ → Decision) → Staged → ℕ → Type 0
Clears f (Staged.ends (Ending.hit t x)) k = k < t
Clears f (Staged.ends (Ending.never t)) k = Unit {0}
Clears f (Staged.ends Ending.clear) k = Unit {0}
Clears f (Staged.ends (Ending.gave_up t)) k = ClearUpTo f t (k + 1)
Clears f (Staged.cut_off t) k = ClearUpTo f t (k + 1)

module _ (f : ℕ → Decision) (k : ℕ) where
  finds : (s : Staged) (u : ℕ) → outcome_at f k s ≡ Outcome.found u → (u ≤ k) × Finds f s u
  finds (Staged.ends (Ending.hit t x)) u = go (leb t k) refl
    where
      go : (p : Bool) → leb t k ≡ p → seen f k (cond p (Cut.hit t x) Cut.none) ≡ Outcome.found u → (u ≤ k) × (t ≡ u)
      go true w e = let s : t ≡ u = found_here f k e in (omega (arith, leb-true t k w), s)
      go false w e = none-is-found f k e
  finds (Staged.ends (Ending.never t)) u = go (leb t k)
    where
      go : (p : Bool) → seen f k (cond p Cut.never Cut.none) ≡ Outcome.found u → (u ≤ k) × ⊥
      go true e = none-is-found f k e
      go false e = none-is-found f k e
  finds (Staged.ends Ending.clear) u = λ e. none-is-found f k e
  finds (Staged.ends (Ending.gave_up t)) u = go (leb t k) refl
    where
      go : (p : Bool) → leb t k ≡ p → seen f k (cond p (Cut.gave_up t) Cut.none) ≡ Outcome.found u → (u ≤ k) × FoundFrom f t u
      go true w e = on-found f k t u e
      go false w e = none-is-found f k e
  finds (Staged.cut_off t) u = go (leb t k) refl
    where
      go : (p : Bool) → leb t k ≡ p → seen f k (cond p (Cut.cut_off t) Cut.none) ≡ Outcome.found u → (u ≤ k) × FoundFrom f t u
      go true w e = on-found f k t u e
      go false w e = none-is-found f k e

  found : (s : Staged) (u : ℕ) → u ≤ k → Finds f s u → outcome_at f k s ≡ Outcome.found u
  found (Staged.ends (Ending.hit t x)) u l w =
      ap (λ (p : Bool). seen f k (cond p (Cut.hit t x) Cut.none)) (le-leb t k (omega arith)) ∙ ap Outcome.found w
  found (Staged.ends (Ending.never t)) u l w = absurd w
  found (Staged.ends Ending.clear) u l w = absurd w
  found (Staged.ends (Ending.gave_up t)) u l w =
      ap (λ (p : Bool). seen f k (cond p (Cut.gave_up t) Cut.none)) (le-leb t k (omega (arith, w.from))) ∙ found-on f k t u l w
  found (Staged.cut_off t) u l w =
      ap (λ (p : Bool). seen f k (cond p (Cut.cut_off t) Cut.none)) (le-leb t k (omega (arith, w.from))) ∙ found-on f k t u l w

  clears : (s : Staged) (j : ℕ) → outcome_at f k s ≡ Outcome.none j → Clears f s k
  clears (Staged.ends (Ending.hit t x)) j = go (leb t k) refl
    where
      go : (p : Bool) → leb t k ≡ p → seen f k (cond p (Cut.hit t x) Cut.none) ≡ Outcome.none j → k < t
      go true w e = found-is-none f k e
      go false w e = leb-false t k w
  clears (Staged.ends (Ending.never t)) j = λ e. tt
  clears (Staged.ends Ending.clear) j = λ e. tt
  clears (Staged.ends (Ending.gave_up t)) j = go (leb t k) refl
    where
      go : (p : Bool) → leb t k ≡ p → seen f k (cond p (Cut.gave_up t) Cut.none) ≡ Outcome.none j → ClearUpTo f t (k + 1)
      go true w e = on_none f k t j e
      go false w e = λ v a b. absurd (omega (arith, leb-false t k w))
  clears (Staged.cut_off t) j = go (leb t k) refl
    where
      go : (p : Bool) → leb t k ≡ p → seen f k (cond p (Cut.cut_off t) Cut.none) ≡ Outcome.none j → ClearUpTo f t (k + 1)
      go true w e = on_none f k t j e
      go false w e = λ v a b. absurd (omega (arith, leb-false t k w))

  none : (s : Staged) → Clears f s k → outcome_at f k s ≡ Outcome.none k
  none (Staged.ends (Ending.hit t x)) w = ap (λ (p : Bool). seen f k (cond p (Cut.hit t x) Cut.none)) (lt-leb t k w)
  none (Staged.ends (Ending.never t)) w = go (leb t k)
    where
      go : (p : Bool) → seen f k (cond p Cut.never Cut.none) ≡ Outcome.none k
      go true = refl
      go false = refl
  none (Staged.ends Ending.clear) w = refl
  none (Staged.ends (Ending.gave_up t)) w = go (leb t k)
    where
      go : (p : Bool) → seen f k (cond p (Cut.gave_up t) Cut.none) ≡ Outcome.none k
      go true = none-on f k t w
      go false = refl
  none (Staged.cut_off t) w = go (leb t k)
    where
      go : (p : Bool) → seen f k (cond p (Cut.cut_off t) Cut.none) ≡ Outcome.none k
      go true = none-on f k t w
      go false = refl

  -- up to a smaller bound
  clears-less : (j : ℕ) → j ≤ k → (s : Staged) → Clears f s k → Clears f s j
  clears-less j l (Staged.ends (Ending.hit t x)) w = omega arith
  clears-less j l (Staged.ends (Ending.never t)) w = tt
  clears-less j l (Staged.ends Ending.clear) w = tt
  clears-less j l (Staged.ends (Ending.gave_up t)) w = λ v a b. w v a (omega arith)
  clears-less j l (Staged.cut_off t) w = λ v a b. w v a (omega arith)

-- ---- a larger budget

module _ (q : Question) (f g : ℕ → Decision) (D : ℕ) (right : (t : ℕ) → decisions.Says (q.hitting t) (q.places t) 0 D (f t))
    (keeps : (t : ℕ) → (f t ≡ Decision.spent → ⊥) → g t ≡ f t) where
  hit-kept : {t x : ℕ} → f t ≡ Decision.hit x → g t ≡ Decision.hit x
  hit-kept {t} {x} e = keeps t (λ z. let s : Decision.hit x ≡ Decision.spent = sym e ∙ z in let o : ◌≡◌ {A = ℕ} 0 1 = cc in omega arith) ∙ e

  clear_kept : {t : ℕ} → f t ≡ Decision.clear → g t ≡ Decision.clear
  clear_kept {t} e = keeps t (λ z. let s : Decision.clear ≡ Decision.spent = sym e ∙ z in let o : ◌≡◌ {A = ℕ} 0 1 = cc in omega arith) ∙ e

  clears-kept : (t t' e : ℕ) → t ≤ t' → ClearUpTo f t e → ClearUpTo g t' e
  clears-kept t t' e l c v a b = clear_kept (c v (omega arith) b)

  found-kept : (t t' u : ℕ) → t ≤ t' → t' ≤ u → FoundFrom f t u → FoundFrom g t' u
  found-kept t t' u l m w = record { from = m; clears = clears-kept t t' u l w.clears; place = w.place; hits = hit-kept w.hits }

  -- a frame that is decided to be clear has no hit
  clear_none : (t : ℕ) → f t ≡ Decision.clear → NoHit q t
  clear_none t e x l h = subst (decisions.Says (q.hitting t) (q.places t) 0 D) e (right t) x (omega arith) l h

  none-up : (t e : ℕ) → NoneBefore q t → ClearUpTo f t e → NoneBefore q e
  none-up t e n c u l = elim (dec_lt u t) [ yes h ↦ n u h | no h ↦ clear_none u (c u (omega arith) l) ]

  -- and one with a hit that is decided has one
  hit-some : (t x : ℕ) → f t ≡ Decision.hit x → NoHit q t → ⊥
  hit-some t x e n = let w = subst (decisions.Says (q.hitting t) (q.places t) 0 D) e (right t) in n x w.fits w.hit

  -- the smaller budget cut the list off at frame t and found u: so does the larger one, wherever its list ends
  found-past : (t u : ℕ) → u ≤ 255 → NoneBefore q t → FoundFrom f t u → (s : Staged) → StagedRight q 0 s → FromOn t s → Finds g s u
  found-past t u small n w (Staged.ends (Ending.hit v y)) (a, b, m, h) l =
      let before : v < u → ⊥ = λ less. none-up t u n w.clears v less y h.fits h.hits in
      let after : u < v → ⊥ = λ more. hit-some u w.place w.hits (m u more) in
      omega arith
  found-past t u small n w (Staged.ends (Ending.never v)) (a, b, m) l = hit-some u w.place w.hits (m u)
  found-past t u small n w (Staged.ends Ending.clear) h l = hit-some u w.place w.hits (h u (omega arith))
  found-past t u small n w (Staged.ends (Ending.gave_up v)) (a, b, m) l =
      let within : u < v → ⊥ = λ more. hit-some u w.place w.hits (m u more) in
      found-kept t v u l (omega arith) w
  found-past t u small n w (Staged.cut_off v) (a, b, m) l =
      let within : u < v → ⊥ = λ more. hit-some u w.place w.hits (m u more) in
      found-kept t v u l (omega arith) w

  clears-past : (t k : ℕ) → NoneBefore q t → ClearUpTo f t (k + 1) → (s : Staged) → StagedRight q 0 s → FromOn t s → Clears g s k
  clears-past t k n w (Staged.ends (Ending.hit v y)) (a, b, m, h) l =
      let before : v < k + 1 → ⊥ = λ less. none-up t (k + 1) n w v less y h.fits h.hits in
      omega arith
  clears-past t k n w (Staged.ends (Ending.never v)) h l = tt
  clears-past t k n w (Staged.ends Ending.clear) h l = tt
  clears-past t k n w (Staged.ends (Ending.gave_up v)) h l = clears-kept t v (k + 1) l w
  clears-past t k n w (Staged.cut_off v) h l = clears-kept t v (k + 1) l w

  ends_found : (e : Ending) (u : ℕ) → Finds f (Staged.ends e) u → Finds g (Staged.ends e) u
  ends_found (Ending.hit t x) u w = w
  ends_found (Ending.never t) u w = w
  ends_found Ending.clear u w = w
  ends_found (Ending.gave_up t) u w = found-kept t t u (omega arith) w.from w

  ends-clear : (e : Ending) (k : ℕ) → Clears f (Staged.ends e) k → Clears g (Staged.ends e) k
  ends-clear (Ending.hit t x) k w = w
  ends-clear (Ending.never t) k w = tt
  ends-clear Ending.clear k w = tt
  ends-clear (Ending.gave_up t) k w = clears-kept t t (k + 1) (omega arith) w

  found-more : (s s' : Staged) → Keeps s s' → StagedRight q 0 s → StagedRight q 0 s' → (u : ℕ) → u ≤ 255 → Finds f s u → Finds g s' u
  found-more (Staged.ends e) s' kept h h' u small w = subst (λ (s : Staged). Finds g s u) (sym kept) (ends_found e u w)
  found-more (Staged.cut_off t) s' kept (a, b, n) h' u small w = found-past t u small n w s' h' kept

  clears-more : (s s' : Staged) → Keeps s s' → StagedRight q 0 s → StagedRight q 0 s' → (k : ℕ) → Clears f s k → Clears g s' k
  clears-more (Staged.ends e) s' kept h h' k w = subst (λ (s : Staged). Clears g s k) (sym kept) (ends-clear e k w)
  clears-more (Staged.cut_off t) s' kept (a, b, n) h' k w = clears-past t k n w s' h' kept

-- ---- the choice

module _ (q : Question) (stages : List Stage) (sound : AllSound q stages) (decide : ℕ → ℕ → Decision)
    (right : (t D : ℕ) → decisions.Says (q.hitting t) (q.places t) 0 D (decide t D))
    (keeps : (t D E : ℕ) → D ≤ E → (decide t D ≡ Decision.spent → ⊥) → decide t E ≡ decide t D) where
  none-at-start : NoneBefore q 0
  none-at-start u l x h r = omega arith

  lists-keep : (D E : ℕ) → D ≤ E → Keeps (listed stages 0 D) (listed stages 0 E)
  lists-keep D E l = (listed-sound q stages sound).keeps 0 D E (omega arith) none-at-start l

  -- found with a bound and a budget is found with every larger bound up to 255 and every larger budget
  pub found-stays : (k k' D E u : ℕ) → k ≤ k' → k' ≤ 255 → D ≤ E → chosen_by stages decide k D ≡ Outcome.found u
      → chosen_by stages decide k' E ≡ Outcome.found u
  unfolding chosen_by
  found-stays k k' D E u l small m e =
      let w = finds (λ t. decide t D) k (listed stages 0 D) u e in
      found (λ t. decide t E) k' (listed stages 0 E) u (omega (arith, w.0))
      (found-more q (λ t. decide t D) (λ t. decide t E) D (λ t. right t D) (λ t. keeps t D E m) (listed stages 0 D) (listed stages 0 E)
      (lists-keep D E m) (list_right q stages sound D) (list_right q stages sound E) u (omega (arith, w.0)) w.1)

  -- none with a bound and a budget is none with every smaller bound and every larger budget
  pub none_stays : (k j D E i : ℕ) → j ≤ k → D ≤ E → chosen_by stages decide k D ≡ Outcome.none i → chosen_by stages decide j E ≡ Outcome.none j
  unfolding chosen_by
  none_stays k j D E i l m e =
      none (λ t. decide t E) j (listed stages 0 E) (clears-less (λ t. decide t E) k j l (listed stages 0 E)
      (clears-more q (λ t. decide t D) (λ t. decide t E) D (λ t. right t D) (λ t. keeps t D E m) (listed stages 0 D) (listed stages 0 E)
      (lists-keep D E m) (list_right q stages sound D) (list_right q stages sound E) k
      (clears (λ t. decide t D) k (listed stages 0 D) i e)))

  -- where it is found out up to a bound that no frame at all has a hit, it is with every larger bound and every larger budget
  pub never-stays : (k k' D E : ℕ) → k ≤ k' → D ≤ E → T (never_by stages k D) → T (never_by stages k' E)
  unfolding never_by
  never-stays k k' D E l m h =
      let (t, a, e) = never-is k (listed stages 0 D) h in
      let kept = subst (λ (s : Staged). Keeps s (listed stages 0 E)) e (lists-keep D E m) in
      subst (λ (s : Staged). T (is_never (staged_at k' s))) (sym kept)
      (subst (λ (p : Bool). T (is_never (cond p Cut.never Cut.none))) (sym (le-leb t k' (omega arith))) tt)

  none-bound : (k D i : ℕ) → chosen_by stages decide k D ≡ Outcome.none i → i ≡ k
  unfolding chosen_by
  none-bound k D i e =
      let o : Outcome.none i ≡ Outcome.none k =
      sym e ∙ none (λ t. decide t D) k (listed stages 0 D) (clears (λ t. decide t D) k (listed stages 0 D) i e) in
      cc

  -- what is not spent is chosen with every larger budget
  pub answer-stays : (k D E : ℕ) → k ≤ 255 → D ≤ E → Decided (chosen_by stages decide k D) → chosen_by stages decide k E ≡ chosen_by stages decide k D
  answer-stays k D E small m = go (chosen_by stages decide k D) refl
    where
      go : (o : Outcome) → chosen_by stages decide k D ≡ o → Decided o → chosen_by stages decide k E ≡ o
      go (Outcome.found u) e d = found-stays k k D E u (omega arith) small m e
      go (Outcome.none i) e d = none_stays k k D E i (omega arith) m e ∙ ap Outcome.none (sym (none-bound k D i e))
      go (Outcome.spent t) e d = absurd d
