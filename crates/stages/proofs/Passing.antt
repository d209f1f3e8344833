-- A program with bound k takes the stages one after the other: what it sees of a stage is what is seen of the list that begins with it, or
-- the list goes on with the stages after it. Assumes nothing.
use mathlib.Core.Path.{◌≡◌, refl, sym, ap, ◌∙◌, subst}
use mathlib.Core.Bool.{Bool, true, false, cond}
use mathlib.Core.List.{List, [], ◌∷◌, ◌++◌}
use Prim.Native.Nat.{ℕ, zero, suc, ◌+◌, ◌-◌, ◌≤◌, ◌<◌}
use native.Mathlib.Numerals.{add-one}
use native.Mathlib.Omega.{arith}
use borrow.Author.Tests.{leb-true, leb-false, le-leb}
use lib.Dec.{leb}
use Rattle.aiger.specs.Search.{Question}
use Rattle.stages.specs.Endings.{Ending, Cut, Staged, Stage, staged_at, NoneBefore, FirstAt, StagedRight, Sound, AllSound}
use Rattle.stages.specs.Choice.{followed, listed, rounds}
use Rattle.stages.proofs.Lists.{from_first, listed-sound}
use Rattle.stages.proofs.Choice.{past_bound}

-- the stages after it begin at frame t, which is within the bound, and no frame before it has a hit
pub record On (q : Question) (ss : List Stage) (k D t : ℕ) (o : Staged) : Type 0 where
  pub within : t ≤ k
  pub none : NoneBefore q t
  pub gives : o ≡ listed ss t D

-- what is seen of a stage, and what a list that begins with it gives
abbrev pub Passing : Question → List Stage → ℕ → ℕ → Staged → Cut → Type 0
Passing q ss k D o (Cut.hit t x) = staged_at k o ≡ Cut.hit t x
Passing q ss k D o Cut.never = staged_at k o ≡ Cut.never
Passing q ss k D o Cut.none = staged_at k o ≡ Cut.none
Passing q ss k D o (Cut.gave_up t) = On q ss k D t o
Passing q ss k D o (Cut.cut_off t) = staged_at k o ≡ Cut.cut_off t

module _ (q : Question) (ss : List Stage) (sound : AllSound q ss) (k D : ℕ) where
  pass : (first : ℕ) (s : Staged) → StagedRight q first s → Passing q ss k D (followed s (λ t. listed ss t D)) (staged_at k s)
  pass first (Staged.ends (Ending.hit t x)) (a, b, n, h) = go (leb t k) refl
    where
      go : (p : Bool) → leb t k ≡ p → Passing q ss k D (Staged.ends (Ending.hit t x)) (cond p (Cut.hit t x) Cut.none)
      go true e = ap (λ (p : Bool). cond p (Cut.hit t x) Cut.none) e
      go false e = ap (λ (p : Bool). cond p (Cut.hit t x) Cut.none) e
  pass first (Staged.ends (Ending.never t)) h = go (leb t k) refl
    where
      go : (p : Bool) → leb t k ≡ p → Passing q ss k D (Staged.ends (Ending.never t)) (cond p Cut.never Cut.none)
      go true e = ap (λ (p : Bool). cond p Cut.never Cut.none) e
      go false e = ap (λ (p : Bool). cond p Cut.never Cut.none) e
  pass first (Staged.ends Ending.clear) h = refl
  pass first (Staged.ends (Ending.gave_up t)) (a, b, n) = go (leb t k) refl
    where
      go : (p : Bool) → leb t k ≡ p → Passing q ss k D (listed ss t D) (cond p (Cut.gave_up t) Cut.none)
      go true e = record { within = leb-true t k e; none = n; gives = refl }
      go false e =
          past_bound k t (leb-false t k e) (listed ss t D) (from_first q t (listed ss t D) ((listed-sound q ss sound).right t D b n))
  pass first (Staged.cut_off t) h = go (leb t k) refl
    where
      go : (p : Bool) → leb t k ≡ p → Passing q ss k D (Staged.cut_off t) (cond p (Cut.cut_off t) Cut.none)
      go true e = ap (λ (p : Bool). cond p (Cut.cut_off t) Cut.none) e
      go false e = ap (λ (p : Bool). cond p (Cut.cut_off t) Cut.none) e

  -- the list with a stage before it
  pub stage-passes : (s : Stage) → Sound q s → (first : ℕ) → first ≤ 256 → NoneBefore q first
      → Passing q ss k D (listed (s ∷ ss) first D) (staged_at k (s first D))
  unfolding listed
  stage-passes s right first l n = pass first (s first D) (right.right first D l n)

-- where no stage is left the list is cut off
pub none_left : (k D first : ℕ) → first ≤ k → staged_at k (listed [] first D) ≡ Cut.cut_off first
unfolding listed
none_left k D first l = ap (λ (p : Bool). cond p (Cut.cut_off first) Cut.none) (le-leb first k l)

-- a round and those after it
pub next-round : (stages : ℕ → List Stage) (r n : ℕ) → rounds stages r (suc n) ≡ stages r ++ rounds stages (r + 1) n
unfolding rounds
next-round stages r n = ap (λ (i : ℕ). stages r ++ rounds stages i n) (sym (add-one r))

-- what is seen of a result that is right: a hit is the first of its frame, which is within the bound
abbrev HitRight : Question → ℕ → Cut → Type 0
HitRight q k (Cut.hit t x) = (t ≤ k) × FirstAt q t x
HitRight q k Cut.never = Unit {0}
HitRight q k Cut.none = Unit {0}
HitRight q k (Cut.gave_up t) = Unit {0}
HitRight q k (Cut.cut_off t) = t ≤ k

hit-right : (q : Question) (k first : ℕ) (s : Staged) → StagedRight q first s → HitRight q k (staged_at k s)
hit-right q k first (Staged.ends (Ending.hit t x)) (a, b, n, h) = go (leb t k) refl
  where
    go : (p : Bool) → leb t k ≡ p → HitRight q k (cond p (Cut.hit t x) Cut.none)
    go true e = (leb-true t k e, h)
    go false e = tt
hit-right q k first (Staged.ends (Ending.never t)) h = go (leb t k)
  where
    go : (p : Bool) → HitRight q k (cond p Cut.never Cut.none)
    go true = tt
    go false = tt
hit-right q k first (Staged.ends Ending.clear) h = tt
hit-right q k first (Staged.ends (Ending.gave_up t)) h = go (leb t k)
  where
    go : (p : Bool) → HitRight q k (cond p (Cut.gave_up t) Cut.none)
    go true = tt
    go false = tt
hit-right q k first (Staged.cut_off t) h = go (leb t k) refl
  where
    go : (p : Bool) → leb t k ≡ p → HitRight q k (cond p (Cut.cut_off t) Cut.none)
    go true e = leb-true t k e
    go false e = tt

pub hit-seen : (q : Question) (k first : ℕ) (s : Staged) → StagedRight q first s → {t x : ℕ} → staged_at k s ≡ Cut.hit t x
    → (t ≤ k) × FirstAt q t x
hit-seen q k first s h e = subst (HitRight q k) e (hit-right q k first s h)

-- and the list is cut off at a frame within the bound
pub cut-seen : (q : Question) (k first : ℕ) (s : Staged) → StagedRight q first s → {t : ℕ} → staged_at k s ≡ Cut.cut_off t → t ≤ k
cut-seen q k first s h e = subst (HitRight q k) e (hit-right q k first s h)
