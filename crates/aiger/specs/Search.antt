-- What a search may answer. Assumes nothing.
use Rattle.std.specs.Prelude.{◌≡◌, Bool, not, cond, ◌&&◌, List, [], ℕ, zero, suc, ◌+◌, ◌^◌, ◌<◌, min, T, leb, ltb, eqb}
use Rattle.std.proofs.Math.Option.{Option}
use Rattle.aiger.specs.Lists.{every_below}
use Rattle.aiger.specs.Circuit.{Circuit}
use Rattle.aiger.specs.Frames.{Space, space, run_in, hits, free_bits, run}
use Rattle.aiger.specs.Witness.{witness}

-- ---- the places of one frame: sequence x stands at place x, and p says which places hit

-- the places that hit, from lo on
abbrev pub onward : ℕ → (ℕ → Bool) → ℕ → Bool
onward lo p x = leb lo x && p x

-- no place from lo up to hi hits
abbrev pub clear_from : (ℕ → Bool) → ℕ → ℕ → Bool
clear_from p lo hi = every_below hi (λ x. not (onward lo p x))

-- the least number below n that passes
unfoldable pub least_below : ℕ → (ℕ → Bool) → Option ℕ
least_below zero p = Option.none
least_below (suc n) p = elim (least_below n p) [ Option.some x ↦ Option.some x | Option.none ↦ cond (p n) (Option.some n) Option.none ]

-- the first hit from lo on, where there are `places` in all
abbrev pub first_from : (ℕ → Bool) → ℕ → ℕ → Option ℕ
first_from p places lo = least_below places (onward lo p)

-- the first hit, by its place; no hit; or more places than the budget, of which the first ones do not hit
pub data Decision : Type 0 where
  hit : ℕ → Decision
  clear : Decision
  spent : Decision

-- what may be decided of the places from lo on, where there are `places` in all and the budget is D
unfoldable pub decides : (ℕ → Bool) → ℕ → ℕ → ℕ → Decision → Bool
decides p places lo D (Decision.hit x) = leb lo x && ltb x places && clear_from p lo x && p x
decides p places lo D Decision.clear = clear_from p lo places
decides p places lo D Decision.spent = ltb (lo + D) places && clear_from p lo (lo + D)

-- Clause 12.10: no greater number is told: 2 to the power 62
unfoldable pub greatest : ℕ
greatest = 4611686018427387904

-- Clause 12.10: R may be told where the places from lo on are spent: it is lo + D or more, under the greatest number that is told, it is a
-- place, and no place from lo up to R hits
unfoldable pub tells : (ℕ → Bool) → ℕ → ℕ → ℕ → ℕ → Bool
tells p places lo D R = leb (min (lo + D) greatest) R && leb R greatest && ltb R places && clear_from p lo R

-- ---- frame after frame

-- what is asked: how many places each frame has, and which of them hit
pub record Question : Type 0 where
  pub places : ℕ → ℕ
  pub hitting : ℕ → ℕ → Bool

-- what a search answers: found t, none k or spent t
pub data Outcome : Type 0 where
  found : ℕ → Outcome
  none : ℕ → Outcome
  spent : ℕ → Outcome

-- what a search reports: the outcome, the length of the witness that found leaves (0 otherwise), whether it knows that no frame at all,
-- however late, has a hit, and the place that was reached in the frame that is spent (0 otherwise)
pub record Report : Type 0 where
  pub outcome : Outcome
  pub length : ℕ
  pub never : Bool
  pub reached : ℕ

-- what may be decided of frame t, from its first place on
abbrev pub decides_at : Question → ℕ → ℕ → Decision → Bool
decides_at q t D d = decides (q.hitting t) (q.places t) 0 D d

-- frame t has no hit
abbrev pub clear_at : Question → ℕ → Bool
clear_at q t = clear_from (q.hitting t) 0 (q.places t)

-- no frame before t has a hit
abbrev pub clear_before : Question → ℕ → Bool
clear_before q t = every_below t (clear_at q)

-- the first hit of frame t
abbrev pub first_at : Question → ℕ → Option ℕ
first_at q t = first_from (q.hitting t) (q.places t) 0

-- what a search up to bound k with budget D may answer:
-- Clause 3.2: found t, where t is the first frame with a hit;
-- Clause 3.3: none k, where frames 0 to k have no hit;
-- Clause 3.4: spent t, where frames before t have no hit, frame t has more than D places, and its first D do not hit
unfoldable pub permitted_of : Question → ℕ → ℕ → Outcome → Bool
permitted_of q k D (Outcome.found t) = leb t k && clear_before q t && not (clear_at q t)
permitted_of q k D (Outcome.none j) = eqb j k && clear_before q (k + 1)
permitted_of q k D (Outcome.spent t) = leb t k && clear_before q t && decides_at q t D Decision.spent

-- where a search knows that no frame at all has a hit, it answers none, and no frame, also past the bound k, has one
abbrev pub NeverOf : Question → ℕ → Report → Type 0
NeverOf q k o = T o.never → (o.outcome ≡ Outcome.none k) × ((t x : ℕ) → x < q.places t → T (q.hitting t x) → ⊥)

-- Clause 12.10: what a search of all frames may tell with its outcome: where frame t is spent, a place that was reached in it from its
-- first place on; else 0
unfoldable pub reached_right : Question → ℕ → Outcome → ℕ → Bool
reached_right q D (Outcome.found t) R = eqb R 0
reached_right q D (Outcome.none k) R = eqb R 0
reached_right q D (Outcome.spent t) R = tells (q.hitting t) (q.places t) 0 D R

-- ---- the question about bad line b of a circuit

-- Clauses 2.5 and 2.7: sequence x of a space hits bad line b at frame t
unfoldable pub reaches_in : Space → Circuit → ℕ → ℕ → ℕ → Bool
reaches_in s c b t x = hits c b (run_in s t x) t

unfoldable pub reaches : Circuit → ℕ → ℕ → ℕ → Bool
reaches c b t x = reaches_in (space c) c b t x

abbrev pub question : Circuit → ℕ → Question
question c b = record { places = λ t. 2 ^ free_bits c t; hitting = reaches c b }

abbrev pub permitted : Circuit → ℕ → ℕ → ℕ → Outcome → Bool
permitted c b k D o = permitted_of (question c b) k D o

-- Clause 3.2: the witness that found t shows is that of the first hit in counting order
unfoldable pub first_witness : Circuit → ℕ → ℕ → List ℕ
first_witness c b t = elim (first_at (question c b) t) [ Option.some x ↦ witness b (run c t x) | Option.none ↦ [] ]
