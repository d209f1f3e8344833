-- The definitions computed on a small machine. Assumes nothing.
use mathlib.Core.Path.{◌≡◌, refl}
use mathlib.Core.Bool.{Bool, true, false, cond, ◌&&◌}
use mathlib.Core.List.{List, [], ◌∷◌, map}
use mathlib.Core.Option.{Option, none, some}
use Prim.Native.Nat.{ℕ, ◌+◌}
use lib.Dec.{eqb, ltb}
use Rattle.aiger.specs.Search.{least_below}
use Rattle.machine.specs.Machine.{Machine}
use Rattle.backward.specs.Sets.{any_below, hits_now, preimage, ahead, nearest, met}
use Rattle.backward.specs.Walk.{walk_from, walk, cut}
use Rattle.backward.specs.Place.{seek_from, seek}

-- States 0 to 3. Row 1 leads to the next state, from the last to itself; row 0 stays, and is not allowed in state 1. Row 1 of state 3 hits.
-- There are two start places, with the states 0 and 1.
abbrev ladder : Machine
ladder =
    record {
      starts = 2;
      rows = 2;
      slots = 64;
      start = λ y. y;
      step = λ s r. cond (eqb r 1) (some (cond (ltb s 3) (s + 1) 3)) (cond (eqb s 1) none (some s));
      hit = λ s r. eqb s 3 && eqb r 1;
    }

-- the nearest hit from state 1 is two frames ahead; a hit can also come in three, and in no less than two
nearest-example : ◌≡◌ {A = List Bool}
    (nearest ladder 2 1 ∷ nearest ladder 3 1 ∷ ahead ladder 3 1 ∷ ahead ladder 1 1 ∷ met ladder 1 1 ∷ met ladder 2 1 ∷ [])
    (true ∷ false ∷ true ∷ false ∷ false ∷ true ∷ [])
unfolding any_below hits_now preimage ahead nearest met
nearest-example = refl

-- frame 2 has one hit, from start place 1 by row 1 three times; the first of frame 4 stays in state 0 once; frame 1 has none
walk-example : ◌≡◌ {A = List (Option ℕ)}
    (walk ladder (nearest ladder) 2 ∷ walk ladder (ahead ladder) 4 ∷ walk ladder (ahead ladder) 1 ∷ [])
    (some 15 ∷ some 15 ∷ none ∷ [])
unfolding any_below hits_now preimage ahead nearest least_below walk_from walk
walk-example = refl

-- the hits of frame 3 are the sequences 15, 27, 29 and 31
seek-example : ◌≡◌ {A = List (Option ℕ)} (map (seek ladder (ahead ladder) 3) (15 ∷ 16 ∷ 28 ∷ 30 ∷ [])) (some 15 ∷ some 27 ∷ some 29 ∷ some 31 ∷ [])
unfolding any_below hits_now preimage ahead least_below walk_from cut seek_from seek
seek-example = refl
