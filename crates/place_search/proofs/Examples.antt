-- Clauses 12.10 and 12.11: answers from a place, worked through. Assumes nothing.
use mathlib.Core.Path.{◌≡◌, refl}
use mathlib.Core.Bool.{Bool, true, false, ◌||◌}
use Prim.Native.Nat.{ℕ}
use lib.Dec.{eqb}
use Rattle.aiger.specs.Search.{decides, greatest, tells}
use Rattle.place_search.specs.Places.{Placed, answers}
use Rattle.place_search.specs.Operation.{place_right}

-- three free bits, of which the middle one does not lead to the hit: places 0 and 2 hit
abbrev two : ℕ → Bool
two x = eqb x 0 || eqb x 2

-- from place 1 the first hit is 2: neither the hit before the place nor none
pub from_one : (answers two 8 1 1 (Placed.hit 2) ≡ true) × (answers two 8 1 1 (Placed.hit 0) ≡ false) × (answers two 8 1 1 Placed.clear ≡ false)
unfolding answers decides tells greatest
from_one = (refl, refl, refl)

-- the place itself counts
pub itself : (answers two 8 2 4 (Placed.hit 2) ≡ true) × (answers two 8 2 4 Placed.clear ≡ false) × (answers two 8 2 4 (Placed.spent 6) ≡ false)
unfolding answers decides tells greatest
itself = (refl, refl, refl)

-- from place 3 on there is none; a budget of 4 may be spent with 7, not with 6 or 8, and one of 5 may not be spent
pub from-three : (answers two 8 3 4 Placed.clear ≡ true) × (answers two 8 3 4 (Placed.spent 7) ≡ true)
    × (answers two 8 3 4 (Placed.spent 6) ≡ false) × (answers two 8 3 4 (Placed.spent 8) ≡ false)
    × (answers two 8 3 5 (Placed.spent 7) ≡ false)
unfolding answers decides tells greatest
from-three = (refl, refl, refl, refl, refl)

-- starting places of 3 and of 66,560 free bits
pub starts : (place_right 3 7 ≡ true) × (place_right 3 8 ≡ false) × (place_right 62 4611686018427387904 ≡ false)
    × (place_right 63 4611686018427387904 ≡ true) × (place_right 63 4611686018427387905 ≡ false)
unfolding greatest
starts = (refl, refl, refl, refl, refl)
