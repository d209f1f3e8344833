-- What a stage of the search finds of the frames from its first one up to frame 255, the largest bound; and what is asked of it. No stage
-- knows the bound of the search. Assumes nothing.
use Rattle.std.specs.Prelude.{◌≡◌, cond, List, [], ◌∷◌, ℕ, ◌≤◌, ◌<◌, T, leb}
use Rattle.aiger.specs.Search.{Question}

-- The first frame with a hit and its first hit; no frame at all, however late, has a hit, which is known at a frame; no frame up to 255 has
-- one; or the stage gives up at a frame, where the next stage begins.
pub data Ending : Type 0 where
  hit : ℕ → ℕ → Ending
  never : ℕ → Ending
  clear : Ending
  gave_up : ℕ → Ending

-- A stage under a budget: it ends as it would under any budget, or the budget cuts the list of stages off at a frame. From there on each
-- frame is decided by itself.
pub data Staged : Type 0 where
  ends : Ending → Staged
  cut_off : ℕ → Staged

-- What a search with a bound sees of it: a hit up to the bound; no hit at all, where this is known at a frame up to the bound; no hit up to
-- the bound; or a frame up to it at which the stage gives up or the list is cut off.
pub data Cut : Type 0 where
  hit : ℕ → ℕ → Cut
  never : Cut
  none : Cut
  gave_up : ℕ → Cut
  cut_off : ℕ → Cut

-- what bound k lets be seen of an ending
abbrev pub cut_at : ℕ → Ending → Cut
cut_at k (Ending.hit t x) = cond (leb t k) (Cut.hit t x) Cut.none
cut_at k (Ending.never t) = cond (leb t k) Cut.never Cut.none
cut_at k Ending.clear = Cut.none
cut_at k (Ending.gave_up t) = cond (leb t k) (Cut.gave_up t) Cut.none

-- and of a stage under a budget
abbrev pub staged_at : ℕ → Staged → Cut
staged_at k (Staged.ends e) = cut_at k e
staged_at k (Staged.cut_off t) = cond (leb t k) (Cut.cut_off t) Cut.none

-- a stage that knows no budget: its ending, by its first frame
abbrev pub Endings : Type 0
Endings = ℕ → Ending

-- a stage, by its first frame and the budget
abbrev pub Stage : Type 0
Stage = ℕ → ℕ → Staged

-- it knows no budget
abbrev pub any_budget : Endings → Stage
any_budget f first D = Staged.ends (f first)

-- ---- what is asked of a stage

-- no sequence of frame t hits
abbrev pub NoHit : Question → ℕ → Type 0
NoHit q t = (x : ℕ) → x < q.places t → T (q.hitting t x) → ⊥

-- no frame before t has a hit
abbrev pub NoneBefore : Question → ℕ → Type 0
NoneBefore q t = (u : ℕ) → u < t → NoHit q u

-- x is the first hit of frame t
pub record FirstAt (q : Question) (t x : ℕ) : Type 0 where
  pub fits : x < q.places t
  pub hits : T (q.hitting t x)
  pub first : (y : ℕ) → y < x → T (q.hitting t y) → ⊥

-- what an ending says, of a stage that begins at frame `first`
abbrev pub EndsRight : Question → ℕ → Ending → Type 0
EndsRight q first (Ending.hit t x) = (first ≤ t) × (t ≤ 255) × NoneBefore q t × FirstAt q t x
EndsRight q first (Ending.never t) = (first ≤ t) × (t ≤ 256) × ((u : ℕ) → NoHit q u)
EndsRight q first Ending.clear = NoneBefore q 256
EndsRight q first (Ending.gave_up t) = (first ≤ t) × (t ≤ 256) × NoneBefore q t

-- where the list is cut off no earlier frame has a hit
abbrev pub StagedRight : Question → ℕ → Staged → Type 0
StagedRight q first (Staged.ends e) = EndsRight q first e
StagedRight q first (Staged.cut_off t) = (first ≤ t) × (t ≤ 256) × NoneBefore q t

-- nothing before frame t is left to this result
abbrev pub FromOn : ℕ → Staged → Type 0
FromOn t (Staged.ends (Ending.hit u x)) = t ≤ u
FromOn t (Staged.ends (Ending.never u)) = t ≤ u
FromOn t (Staged.ends Ending.clear) = Unit {0}
FromOn t (Staged.ends (Ending.gave_up u)) = t ≤ u
FromOn t (Staged.cut_off u) = t ≤ u

-- What a stage gives under a budget and under a larger one: the same, save that the smaller budget may cut the list off, at a frame up to
-- which the larger one has come too.
abbrev pub Keeps : Staged → Staged → Type 0
Keeps (Staged.ends e) s = s ≡ Staged.ends e
Keeps (Staged.cut_off t) s = FromOn t s

-- What is asked of a stage: begun where no earlier frame has a hit it says what is so, and a larger budget changes nothing but where the
-- list is cut off.
pub record Sound (q : Question) (s : Stage) : Type 0 where
  pub right : (first D : ℕ) → first ≤ 256 → NoneBefore q first → StagedRight q first (s first D)
  pub keeps : (first D E : ℕ) → first ≤ 256 → NoneBefore q first → D ≤ E → Keeps (s first D) (s first E)

-- and of every stage of a list
abbrev pub AllSound : Question → List Stage → Type 0
AllSound q [] = Unit {0}
AllSound q (s ∷ ss) = Sound q s × AllSound q ss
