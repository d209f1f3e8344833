-- The runs that can still hit, frame by frame, in either mode. Assumes nothing.
use mathlib.Core.Path.{◌≡◌, refl, sym, ap, ap₂, ◌∙◌}
use mathlib.Core.Bool.{Bool, true, false, not, cond, ◌&&◌}
use Prim.Native.Nat.{ℕ, zero, suc}
use lib.ListN.{get_or}
use Rattle.aiger.specs.Lists.{every_below}
use Rattle.aiger.specs.Circuit.{Circuit}
use Rattle.aiger.specs.Frames.{Run, space, value_at, constrained, allowed, hits, run}
use Rattle.aiger.specs.Search.{reaches, reaches_in}
use Rattle.meaning.proofs.Allowed.{allowed-first, allowed-next}
use Rattle.never_search.specs.Runs.{hits_alone, reaches_alone, left_by, reaches_by}

-- the constraints so far and those of the next frame, with what was excluded before and now
turn : (a e n c : Bool) → (a && e && n && c) ≡ (a && c && (e && n))
turn true true true true = refl
turn true true true false = refl
turn true true false true = refl
turn true true false false = refl
turn true false n true = refl
turn true false n false = refl
turn false e n c = refl

last : (a e v : Bool) → (a && e && v) ≡ (a && v && e)
last true true true = refl
last true true false = refl
last true false true = refl
last true false false = refl
last false e v = refl

and-true : (a : Bool) → a ≡ (a && true)
and-true true = refl
and-true false = refl

all_true : (t : ℕ) → every_below t (λ u. true) ≡ true
all_true zero = refl
all_true (suc t) = ap (λ (x : Bool). x && true) (all_true t)

module _ (c : Circuit) (b : ℕ) (r : Run) where
  abbrev bad : ℕ → Bool
  bad u = value_at c r u (get_or c.bads b 0)

  pub left-first : (alone : Bool) → left_by alone c b r 0 ≡ constrained c r 0
  unfolding left_by
  left-first alone = refl

  pub left-next : (alone : Bool) (t : ℕ) → left_by alone c b r (suc t) ≡ (left_by alone c b r t && not (alone && bad t) && constrained c r (suc t))
  unfolding left_by
  left-next alone t = refl

  left_is : (alone : Bool) (t : ℕ) → left_by alone c b r t ≡ (allowed c r t && every_below t (λ u. not (alone && bad u)))
  unfolding left_by
  left_is alone zero = sym (allowed-first c r) ∙ and-true (allowed c r 0)
  left_is alone (suc t) =
      ap (λ (x : Bool). x && not (alone && bad t) && constrained c r (suc t)) (left_is alone t)
      ∙ turn (allowed c r t) (every_below t (λ u. not (alone && bad u))) (not (alone && bad t)) (constrained c r (suc t))
      ∙ ap (λ (x : Bool). x && (every_below t (λ u. not (alone && bad u)) && not (alone && bad t))) (sym (allowed-next c r t))

  -- a run that can still hit, and whose bad line is true, hits in the mode
  pub left-hits : (alone : Bool) (t : ℕ) → (left_by alone c b r t && bad t) ≡ cond alone (hits_alone c b r t) (hits c b r t)
  unfolding hits_alone hits
  left-hits true t =
      ap (λ (x : Bool). x && bad t) (left_is true t) ∙ last (allowed c r t) (every_below t (λ u. not (bad u))) (bad t)
  left-hits false t =
      ap (λ (x : Bool). x && bad t) (left_is false t ∙ ap (λ (x : Bool). allowed c r t && x) (all_true t) ∙ sym (and-true (allowed c r t)))

-- so does a sequence
pub left-reaches : (alone : Bool) (c : Circuit) (b t x : ℕ)
    → (left_by alone c b (run c t x) t && value_at c (run c t x) t (get_or c.bads b 0)) ≡ reaches_by alone c b t x
unfolding reaches reaches_in reaches_alone run
left-reaches true c b t x = left-hits c b (run c t x) true t
left-reaches false c b t x = left-hits c b (run c t x) false t
