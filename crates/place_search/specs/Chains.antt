-- Searches of one frame that follow each other, and searches of one frame from several places. Assumes nothing.
use Rattle.std.specs.Prelude.{Bool, ℕ, ◌≤◌, ◌<◌, min, T}
use Rattle.place_search.specs.Places.{Placed, Unspent, answers}

-- Clause 12.13: a chain from place lo to an answer that is not spent: each search before the last is spent, and the next begins at the
-- place that it reached. The budgets may differ
pub data Chain (p : ℕ → Bool) (places : ℕ) : ℕ → Placed → Type 0 where
  last : {lo : ℕ} {a : Placed} (D : ℕ) → T (answers p places lo D a) → Unspent a → Chain p places lo a
  next : {lo : ℕ} {a : Placed} (D R : ℕ) → T (answers p places lo D (Placed.spent R)) → Chain p places R a → Chain p places lo a

-- of two answers the lower hit, else that there is none
abbrev pub lower : Placed → Placed → Placed
lower (Placed.hit x) (Placed.hit y) = Placed.hit (min x y)
lower (Placed.hit x) Placed.clear = Placed.hit x
lower (Placed.hit x) (Placed.spent R) = Placed.hit x
lower Placed.clear (Placed.hit y) = Placed.hit y
lower Placed.clear Placed.clear = Placed.clear
lower Placed.clear (Placed.spent R) = Placed.clear
lower (Placed.spent Q) (Placed.hit y) = Placed.hit y
lower (Placed.spent Q) Placed.clear = Placed.clear
lower (Placed.spent Q) (Placed.spent R) = Placed.clear

-- an answer says enough of the places before `to`: where it is spent, it reached that place
abbrev pub Covers : Placed → ℕ → Type 0
Covers (Placed.hit x) to = Unit {0}
Covers Placed.clear to = Unit {0}
Covers (Placed.spent R) to = to ≤ R

-- Clause 12.13: searches from places lo < lo' < .., in any order of time, each covering the places before the next and the last not
-- spent; with them the lowest hit that any of them found, else that there is none
pub data Ranges (p : ℕ → Bool) (places : ℕ) : ℕ → Placed → Type 0 where
  last : {lo : ℕ} {a : Placed} (D : ℕ) → T (answers p places lo D a) → Unspent a → Ranges p places lo a
  more : {lo : ℕ} {a : Placed} (D lo' : ℕ) (b : Placed) → lo < lo' → T (answers p places lo D b) → Covers b lo' → Ranges p places lo' a
      → Ranges p places lo (lower b a)
