-- A list of stages is a stage: it says what is so, and a larger budget changes nothing but where it is cut off. Assumes nothing.
use mathlib.Core.Path.{◌≡◌, refl, sym, ap, subst}
use mathlib.Core.List.{List, [], ◌∷◌, ◌++◌}
use Prim.Native.Nat.{ℕ, zero, suc, ◌≤◌}
use native.Mathlib.Omega.{arith}
use Rattle.aiger.specs.Search.{Question}
use Rattle.stages.specs.Endings.{Ending, Staged, Endings, Stage, any_budget, NoneBefore}
use Rattle.stages.specs.Endings.{EndsRight, StagedRight, FromOn, Keeps, Sound, AllSound}
use Rattle.stages.specs.Choice.{followed, listed, rounds}

-- where nothing before a frame is left, nothing before an earlier one is
pub from-earlier : (t u : ℕ) → t ≤ u → (s : Staged) → FromOn u s → FromOn t s
from-earlier t u l (Staged.ends (Ending.hit v x)) h = omega arith
from-earlier t u l (Staged.ends (Ending.never v)) h = omega arith
from-earlier t u l (Staged.ends Ending.clear) h = tt
from-earlier t u l (Staged.ends (Ending.gave_up v)) h = omega arith
from-earlier t u l (Staged.cut_off v) h = omega arith

module _ (q : Question) where
  -- nothing before its first frame is left to a stage
  pub from_first : (first : ℕ) (s : Staged) → StagedRight q first s → FromOn first s
  from_first first (Staged.ends (Ending.hit t x)) h = h.0
  from_first first (Staged.ends (Ending.never t)) h = h.0
  from_first first (Staged.ends Ending.clear) h = tt
  from_first first (Staged.ends (Ending.gave_up t)) h = h.0
  from_first first (Staged.cut_off t) h = h.0

  -- what is right from a later frame on is right from an earlier one
  pub right-earlier : (t u : ℕ) → t ≤ u → (s : Staged) → StagedRight q u s → StagedRight q t s
  right-earlier t u l (Staged.ends (Ending.hit v x)) (a, b, c, d) = (omega arith, b, c, d)
  right-earlier t u l (Staged.ends (Ending.never v)) (a, b, c) = (omega arith, b, c)
  right-earlier t u l (Staged.ends Ending.clear) h = h
  right-earlier t u l (Staged.ends (Ending.gave_up v)) (a, b, c) = (omega arith, b, c)
  right-earlier t u l (Staged.cut_off v) (a, b, c) = (omega arith, b, c)

  -- a stage that knows no budget: that its endings are right is all that is asked of it
  pub any-budget : (f : Endings) → ((first : ℕ) → first ≤ 256 → NoneBefore q first → EndsRight q first (f first)) → Sound q (any_budget f)
  any-budget f h = record { right = λ first D. h first; keeps = λ first D E l n m. refl }

  -- ---- a stage and those after it

  follow-right : (first : ℕ) (s : Staged) (next : ℕ → Staged) → StagedRight q first s
      → ((t : ℕ) → t ≤ 256 → NoneBefore q t → StagedRight q t (next t)) → StagedRight q first (followed s next)
  follow-right first (Staged.ends (Ending.hit t x)) next h r = h
  follow-right first (Staged.ends (Ending.never t)) next h r = h
  follow-right first (Staged.ends Ending.clear) next h r = h
  follow-right first (Staged.ends (Ending.gave_up t)) next (a, b, c) r = right-earlier first t a (next t) (r t b c)
  follow-right first (Staged.cut_off t) next h r = h

  follow-from : (first t : ℕ) (s : Staged) (next : ℕ → Staged) → FromOn t s → StagedRight q first s
      → ((t : ℕ) → t ≤ 256 → NoneBefore q t → StagedRight q t (next t)) → FromOn t (followed s next)
  follow-from first t (Staged.ends (Ending.hit u x)) next f h r = f
  follow-from first t (Staged.ends (Ending.never u)) next f h r = f
  follow-from first t (Staged.ends Ending.clear) next f h r = tt
  follow-from first t (Staged.ends (Ending.gave_up u)) next f (a, b, c) r = from-earlier t u f (next u) (from_first u (next u) (r u b c))
  follow-from first t (Staged.cut_off u) next f h r = f

  follow-keeps : (first : ℕ) (s s' : Staged) (next next' : ℕ → Staged) → Keeps s s' → StagedRight q first s → StagedRight q first s'
      → ((t : ℕ) → t ≤ 256 → NoneBefore q t → Keeps (next t) (next' t)) → ((t : ℕ) → t ≤ 256 → NoneBefore q t → StagedRight q t (next' t))
      → Keeps (followed s next) (followed s' next')
  follow-keeps first (Staged.ends (Ending.hit t x)) s' next next' e h h' k r = ap (λ (z : Staged). followed z next') e
  follow-keeps first (Staged.ends (Ending.never t)) s' next next' e h h' k r = ap (λ (z : Staged). followed z next') e
  follow-keeps first (Staged.ends Ending.clear) s' next next' e h h' k r = ap (λ (z : Staged). followed z next') e
  follow-keeps first (Staged.ends (Ending.gave_up t)) s' next next' e (a, b, c) h' k r =
      subst (λ (z : Staged). Keeps (next t) (followed z next')) (sym e) (k t b c)
  follow-keeps first (Staged.cut_off t) s' next next' f h h' k r = follow-from first t s' next' f h' r

  pub listed-sound : (ss : List Stage) → AllSound q ss → Sound q (listed ss)
  unfolding listed
  listed-sound [] a = record { right = λ first D l n. (omega arith, l, n); keeps = λ first D E l n m. omega arith }
  listed-sound (s ∷ ss) (a, others) =
      let rest = listed-sound ss others in
      record {
        right = λ first D l n. follow-right first (s first D) (λ t. listed ss t D) (a.right first D l n) (λ t. rest.right t D);
        keeps = λ first D E l n m. follow-keeps first (s first D) (s first E) (λ t. listed ss t D) (λ t. listed ss t E) (a.keeps first D E l n m)
            (a.right first D l n) (a.right first E l n) (λ t l' n'. rest.keeps t D E l' n' m) (λ t. rest.right t E);
      }

  -- ---- rounds

  append-sound : (ss us : List Stage) → AllSound q ss → AllSound q us → AllSound q (ss ++ us)
  append-sound [] us a b = b
  append-sound (s ∷ ss) us (a, others) b = (a, append-sound ss us others b)

  pub rounds-sound : (stages : ℕ → List Stage) → ((r : ℕ) → AllSound q (stages r)) → (r n : ℕ) → AllSound q (rounds stages r n)
  unfolding rounds
  rounds-sound stages h r zero = tt
  rounds-sound stages h r (suc n) = append-sound (stages r) (rounds stages (suc r) n) (h r) (rounds-sound stages h (suc r) n)
