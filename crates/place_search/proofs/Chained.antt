-- Clause 12.13: chains of searches of one frame, and searches of it from several places: their answer is that of every search from the first
-- place that is not spent. Assumes nothing.
use mathlib.Core.Path.{◌≡◌, refl, sym, ap, ◌∙◌, subst}
use mathlib.Core.Bool.{Bool}
use mathlib.Core.Option.{Option}
use Prim.Native.Nat.{ℕ, ◌+◌, ◌≤◌, ◌<◌, min}
use native.Mathlib.Decide.{dec_le, dec_lt}
use native.Mathlib.Omega.{arith}
use lib.Dec.{T}
use Rattle.aiger.specs.Search.{Question, Outcome, first_at, permitted_of, greatest, reached_right}
use Rattle.meaning.proofs.Decisions.{NoneFrom, FirstHit, first-from}
use Rattle.meaning.proofs.Outcomes.{Decided, Quiet, answer-same, found_in, found-out, none_in, none_out, spent-out, found-same, none_found}
use Rattle.place_search.specs.Places.{Placed, answers, Unspent}
use Rattle.place_search.specs.Chains.{Chain, lower, Covers, Ranges}
use Rattle.place_search.proofs.Answers.{Reached, True, unspent-true, true_same, true-back, answers-out, reached-out}

module _ (p : ℕ → Bool) (places : ℕ) where
  -- the end of a chain is so from its first place on
  pub chain-true : {lo : ℕ} {a : Placed} → lo ≤ greatest → Chain p places lo a → True p places lo a
  chain-true {lo} {a} le (Chain.last D h u) = unspent-true p places lo D a u h
  chain-true {lo} {a} le (Chain.next D R h c) =
      let r = (answers-out p places lo D (Placed.spent R) h).1 in
      true-back p places lo R (omega (arith, r.far)) r.none a (chain-true r.told c)

  -- Clause 12.13: the end of a chain is the answer of every search from its first place that is not spent
  pub chain-answer : {lo : ℕ} {a : Placed} → lo ≤ greatest → Chain p places lo a
      → (D : ℕ) (a' : Placed) → T (answers p places lo D a') → Unspent a' → a' ≡ a
  chain-answer {lo} {a} le c D a' h u = true_same p places lo a' a (unspent-true p places lo D a' u h) (chain-true le c)

  -- ---- ranges

  -- the first hit from lo on is no later than one from a later place on
  first-least : {lo lo' x y : ℕ} → lo < lo' → FirstHit p places lo x → FirstHit p places lo' y → x ≤ y
  first-least {x = x} {y = y} l f g =
      elim (dec_le x y) [ yes b ↦ b | no b ↦ absurd (f.first y (omega (arith, g.from)) (omega arith) g.hit) ]

  lower-true : (lo lo' : ℕ) → lo < lo' → (D : ℕ) (b a : Placed) → T (answers p places lo D b) → Covers b lo' → True p places lo' a
      → True p places lo (lower b a)
  lower-true lo lo' l D (Placed.hit x) (Placed.hit y) h v g =
      let f = answers-out p places lo D (Placed.hit x) h in
      let e : min x y ≡ x = omega (arith, first-least l f g) in
      subst (FirstHit p places lo) (sym e) f
  lower-true lo lo' l D (Placed.hit x) Placed.clear h v g = answers-out p places lo D (Placed.hit x) h
  lower-true lo lo' l D Placed.clear (Placed.hit y) h v g =
      absurd (answers-out p places lo D Placed.clear h y (omega (arith, g.from)) g.fits g.hit)
  lower-true lo lo' l D Placed.clear Placed.clear h v g = answers-out p places lo D Placed.clear h
  lower-true lo lo' l D (Placed.spent R) (Placed.hit y) h v g =
      let r = (answers-out p places lo D (Placed.spent R) h).1 in
      true-back p places lo lo' (omega arith) (λ x a b. r.none x a (omega arith)) (Placed.hit y) g
  lower-true lo lo' l D (Placed.spent R) Placed.clear h v g =
      let r = (answers-out p places lo D (Placed.spent R) h).1 in
      true-back p places lo lo' (omega arith) (λ x a b. r.none x a (omega arith)) Placed.clear g
  lower-true lo lo' l D b (Placed.spent Q) h v g = absurd g

  -- the lowest hit found, else none, is so from the first place on
  pub ranges-true : {lo : ℕ} {a : Placed} → Ranges p places lo a → True p places lo a
  ranges-true {lo} {a} (Ranges.last D h u) = unspent-true p places lo D a u h
  ranges-true {lo} (Ranges.more {a = a} D lo' b l h v r) = lower-true lo lo' l D b a h v (ranges-true r)

  -- Clause 12.13: it is the answer of every search from the first place that is not spent
  pub ranges-answer : {lo : ℕ} {a : Placed} → Ranges p places lo a
      → (D : ℕ) (a' : Placed) → T (answers p places lo D a') → Unspent a' → a' ≡ a
  ranges-answer {lo} {a} r D a' h u = true_same p places lo a' a (unspent-true p places lo D a' u h) (ranges-true r)

-- ---- a chain whose first search is one of all frames, spent at frame t

module _ (q : Question) (k D t R : ℕ) (h : T (permitted_of q k D (Outcome.spent t))) (r : T (reached_right q D (Outcome.spent t) R)) where
  reached : Reached (q.hitting t) (q.places t) 0 D R
  reached = reached-out q D R t r

  -- what the chain ends with is so of all of frame t
  pub plain-true : (a : Placed) → Chain (q.hitting t) (q.places t) R a → True (q.hitting t) (q.places t) 0 a
  plain-true a c =
      true-back (q.hitting t) (q.places t) 0 R (omega arith) reached.none a
      (chain-true (q.hitting t) (q.places t) reached.told c)

  -- Clause 12.13: a hit is the answer of every search of all frames that is not spent and whose bound is t or more, and its first hit
  pub plain-found : (x : ℕ) → Chain (q.hitting t) (q.places t) R (Placed.hit x)
      → (k' D' : ℕ) (o : Outcome) → t ≤ k' → Decided o → T (permitted_of q k' D' o) → (o ≡ Outcome.found t) × (first_at q t ≡ Option.some x)
  plain-found x c k' D' o le d g =
      let f = plain-true (Placed.hit x) c in
      let s = spent-out q k D t h in
      let w = found_in q k' D' t (record { within = le; quiet = s.quiet; place = x; first = f }) in
      (answer-same q k' D' D' o (Outcome.found t) d tt g w, first-from (q.hitting t) f)

  -- and where there is none, no frame up to t has a hit
  pub plain-none : Chain (q.hitting t) (q.places t) R Placed.clear → Quiet q (t + 1)
  plain-none c u l =
      elim (dec_lt u t) [
        | yes b ↦ (spent-out q k D t h).quiet u b
        | no b ↦
            let e : t ≡ u = omega arith in
            subst (λ (v : ℕ). NoneFrom (q.hitting v) 0 (q.places v)) e (plain-true Placed.clear c)
      ]
