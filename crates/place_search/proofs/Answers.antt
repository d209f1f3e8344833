-- What a search of one frame from a place may answer, in plain terms, and which answers exclude each other. Assumes nothing.
use mathlib.Core.Path.{◌≡◌, refl, sym, ap, ◌∙◌, subst}
use mathlib.Core.Bool.{Bool, true, ◌&&◌}
use mathlib.Core.Option.{Option}
use Prim.Native.Nat.{ℕ, ◌+◌, ◌≤◌, ◌<◌, min}
use native.Mathlib.Decide.{dec_lt}
use native.Mathlib.Omega.{arith}
use lib.Dec.{T}
use Rattle.aiger.specs.Search.{Question, Decision, Outcome, decides, permitted_of, greatest, tells, reached_right}
use Rattle.aiger.proofs.Tests.{and, and_left, and_right}
use Rattle.aiger.proofs.Reached.{tells-parts, tells_all, found-reached, none-reached, spent-reached}
use Rattle.meaning.proofs.Decisions.{NoneFrom, FirstHit, Exceeded, clear-out, clear_in, decides-out, decides-in, first-same, hit-not-clear}
use Rattle.meaning.proofs.Outcomes.{Decided, Quiet, found_in, none_in, spent-in}
use Rattle.place_search.specs.Places.{Placed, decision_of, tells_of, answers, Unspent, frame_alone, outcome_of, reached_of}

module _ (p : ℕ → Bool) (places : ℕ) where
  -- what is told of R, in plain terms
  pub record Reached (lo D R : ℕ) : Type 0 where
    pub far : min (lo + D) greatest ≤ R
    pub told : R ≤ greatest
    pub fits : R < places
    pub none : NoneFrom p lo R

  pub tells-out : (lo D R : ℕ) → T (tells p places lo D R) → Reached lo D R
  tells-out lo D R h =
      let (far, told, fits, clear) = tells-parts p places lo D R h in
      record { far = far; told = told; fits = fits; none = clear-out p lo R clear }

  pub tells-in : (lo D R : ℕ) → Reached lo D R → T (tells p places lo D R)
  tells-in lo D R r = tells_all p places lo D R r.far r.told r.fits (clear_in p lo R r.none)

  -- what an answer says: the first hit at or after lo; none from there on; or D places and those up to R without a hit, and places beyond
  abbrev pub Said : ℕ → ℕ → Placed → Type 0
  Said lo D (Placed.hit x) = FirstHit p places lo x
  Said lo D Placed.clear = NoneFrom p lo places
  Said lo D (Placed.spent R) = Exceeded p places lo D × Reached lo D R

  pub answers-out : (lo D : ℕ) (a : Placed) → T (answers p places lo D a) → Said lo D a
  unfolding answers
  answers-out lo D (Placed.hit x) h = decides-out p places lo D (Decision.hit x) (and_left (decides p places lo D (Decision.hit x)) true h)
  answers-out lo D Placed.clear h = decides-out p places lo D Decision.clear (and_left (decides p places lo D Decision.clear) true h)
  answers-out lo D (Placed.spent R) h = (
    decides-out p places lo D Decision.spent (and_left (decides p places lo D Decision.spent) (tells p places lo D R) h),
    tells-out lo D R (and_right (decides p places lo D Decision.spent) (tells p places lo D R) h),
  )

  pub answers-in : (lo D : ℕ) (a : Placed) → Said lo D a → T (answers p places lo D a)
  unfolding answers
  answers-in lo D (Placed.hit x) s = and (decides p places lo D (Decision.hit x)) true (decides-in p places lo D (Decision.hit x) s) tt
  answers-in lo D Placed.clear s = and (decides p places lo D Decision.clear) true (decides-in p places lo D Decision.clear s) tt
  answers-in lo D (Placed.spent R) s =
      and (decides p places lo D Decision.spent) (tells p places lo D R) (decides-in p places lo D Decision.spent s.0) (tells-in lo D R s.1)

  -- Clause 12.11: spent is forbidden where the D places from lo on are all that there are
  pub spent-beyond : (lo D R : ℕ) → T (answers p places lo D (Placed.spent R)) → lo + D < places
  spent-beyond lo D R h = (answers-out lo D (Placed.spent R) h).0.beyond

  -- ---- answers that are not spent

  -- the answer is so, whatever the budget
  abbrev pub True : ℕ → Placed → Type 0
  True lo (Placed.hit x) = FirstHit p places lo x
  True lo Placed.clear = NoneFrom p lo places
  True lo (Placed.spent R) = ⊥

  pub unspent-true : (lo D : ℕ) (a : Placed) → Unspent a → T (answers p places lo D a) → True lo a
  unspent-true lo D (Placed.hit x) u h = answers-out lo D (Placed.hit x) h
  unspent-true lo D Placed.clear u h = answers-out lo D Placed.clear h
  unspent-true lo D (Placed.spent R) u h = absurd u

  pub true_same : (lo : ℕ) (a a' : Placed) → True lo a → True lo a' → a ≡ a'
  true_same lo (Placed.hit x) (Placed.hit y) h h' = ap Placed.hit (first-same p h h')
  true_same lo (Placed.hit x) Placed.clear h h' = absurd (hit-not-clear p h h')
  true_same lo Placed.clear (Placed.hit y) h h' = absurd (hit-not-clear p h' h)
  true_same lo Placed.clear Placed.clear h h' = refl
  true_same lo (Placed.hit x) (Placed.spent R) h h' = absurd h'
  true_same lo Placed.clear (Placed.spent R) h h' = absurd h'
  true_same lo (Placed.spent R) a' h h' = absurd h

  -- Clause 12.13: two answers from one place that are not spent are the same, whatever the budgets: more budget keeps an answer and its hit
  pub unspent-same : (lo D D' : ℕ) (a a' : Placed) → Unspent a → Unspent a' → T (answers p places lo D a) → T (answers p places lo D' a')
      → a ≡ a'
  unspent-same lo D D' a a' u u' h h' = true_same lo a a' (unspent-true lo D a u h) (unspent-true lo D' a' u' h')

  -- none of the places from lo up to R hits: what is so from R on is so from lo on
  pub none_then : (lo R : ℕ) → NoneFrom p lo R → (hi : ℕ) → NoneFrom p R hi → NoneFrom p lo hi
  none_then lo R f hi g x l m t = elim (dec_lt x R) [ yes b ↦ f x l b t | no b ↦ g x (omega arith) m t ]

  pub true-back : (lo R : ℕ) → lo ≤ R → NoneFrom p lo R → (a : Placed) → True R a → True lo a
  true-back lo R le f (Placed.hit x) h =
      record { from = omega (arith, h.from); fits = h.fits; first = none_then lo R f x h.first; hit = h.hit }
  true-back lo R le f Placed.clear h = none_then lo R f places h
  true-back lo R le f (Placed.spent Q) h = absurd h

-- ---- what a search of all frames tells

-- Clause 12.10: with spent t a place that was reached in frame t from its first place on; with an answer that is not spent, 0
pub reached-out : (q : Question) (D R t : ℕ) → T (reached_right q D (Outcome.spent t) R) → Reached (q.hitting t) (q.places t) 0 D R
reached-out q D R t h = tells-out (q.hitting t) (q.places t) 0 D R (spent-reached q D R t h)

pub decided-reached : (q : Question) (D R : ℕ) (o : Outcome) → Decided o → T (reached_right q D o R) → R ≡ 0
decided-reached q D R (Outcome.found t) d h = found-reached q D R t h
decided-reached q D R (Outcome.none k) d h = none-reached q D R k h
decided-reached q D R (Outcome.spent t) d h = absurd d

-- ---- place 0

module _ (q : Question) (t D : ℕ) where
  -- Clause 12.11: where no frame before t has a hit, the answer from place 0 is permitted for the plain search with bound t
  pub zero-permitted : (a : Placed) → Quiet q t → T (answers (q.hitting t) (q.places t) 0 D a) → T (permitted_of q t D (outcome_of t a))
  zero-permitted (Placed.hit x) quiet h =
      found_in q t D t
      (record { within = omega arith; quiet = quiet; place = x; first = answers-out (q.hitting t) (q.places t) 0 D (Placed.hit x) h })
  zero-permitted Placed.clear quiet h =
      let none = answers-out (q.hitting t) (q.places t) 0 D Placed.clear h in
      none_in q t D t (record { bound = refl; quiet = λ u l. through u l none })
    where
      through : (u : ℕ) → u < t + 1 → NoneFrom (q.hitting t) 0 (q.places t) → NoneFrom (q.hitting u) 0 (q.places u)
      through u l none =
          elim (dec_lt u t) [
            | yes b ↦ quiet u b
            | no b ↦ let e : t ≡ u = omega arith in subst (λ (v : ℕ). NoneFrom (q.hitting v) 0 (q.places v)) e none
          ]
  zero-permitted (Placed.spent R) quiet h =
      spent-in q t D t (record { within = omega arith; quiet = quiet; first = (answers-out (q.hitting t) (q.places t) 0 D (Placed.spent R) h).0 })

  -- and what it tells may be told with that outcome
  pub zero-tells : (a : Placed) → T (answers (q.hitting t) (q.places t) 0 D a) → T (reached_right q D (outcome_of t a) (reached_of a))
  unfolding reached_right
  zero-tells (Placed.hit x) h = tt
  zero-tells Placed.clear h = tt
  zero-tells (Placed.spent R) h = tells-in (q.hitting t) (q.places t) 0 D R (answers-out (q.hitting t) (q.places t) 0 D (Placed.spent R) h).1

-- Clause 12.11: at place 0 the answer is permitted for the plain search of that frame alone
pub alone-permitted : (q : Question) (t D : ℕ) (a : Placed) → T (answers (q.hitting t) (q.places t) 0 D a)
    → T (permitted_of (frame_alone q t) 0 D (outcome_of 0 a))
alone-permitted q t D a h = zero-permitted (frame_alone q t) 0 D a (λ u l. absurd (omega arith)) h
