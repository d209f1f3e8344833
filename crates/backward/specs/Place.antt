-- The first hit of a frame at or after a sequence: its start place and rows are followed as far as a hit can come, and left for a later one
-- at the last place where that is possible. Assumes nothing.
use Rattle.std.specs.Prelude.{◌≡◌, Bool, ◌&&◌, ℕ, zero, suc, ◌+◌, ◌-◌, ◌*◌, ◌/◌, ◌%◌, ◌≤◌, ◌<◌, T, leb, ltb}
use Rattle.std.proofs.Math.Option.{Option, none, some}
use Rattle.aiger.specs.Search.{least_below}
use Rattle.machine.specs.Machine.{Machine, state_after, hits_at}
use Rattle.backward.specs.Sets.{into, ahead}
use Rattle.backward.specs.Walk.{taken, walk_from, cut, prefix_of}

-- the row of frame f in sequence p of frame t
abbrev pub row_of : Machine → ℕ → ℕ → ℕ → ℕ
row_of m t f p = cut m (t - f) p % m.rows

-- row r of state s is after row d and leads to a state that passes
abbrev pub later : Machine → (ℕ → Bool) → ℕ → ℕ → ℕ → Bool
later m p s d r = ltb d r && into p (m.step s r)

-- row r of state s is not before row d, and hits
abbrev pub later_hit : Machine → ℕ → ℕ → ℕ → Bool
later_hit m s d r = leb d r && m.hit s r

-- start place y is after d, and its state passes
abbrev pub later_start : Machine → (ℕ → Bool) → ℕ → ℕ → Bool
later_start m p d y = ltb d y && p (m.start y)

-- no hit of frame t at or after sequence p begins with p's prefix of f frames
abbrev pub Passed : Machine → ℕ → ℕ → ℕ → Type 0
Passed m t p f = (x : ℕ) → p ≤ x → prefix_of m t f x ≡ prefix_of m t f p → T (hits_at m t x) → ⊥

-- after p's prefix of f frames no row after p's own leads to a state from which frame t can be hit
abbrev pub NoTurn : Machine → ℕ → ℕ → ℕ → Type 0
NoTurn m t p f =
    (s r : ℕ) → state_after m f (prefix_of m t f p) ≡ some s → r < m.rows → T (later m (ahead m (t - suc f)) s (row_of m t f p) r) → ⊥

-- the first where there is one, otherwise the second
abbrev pub or_else : Option ℕ → Option ℕ → Option ℕ
or_else none b = b
or_else (some x) b = some x

-- the first hit at or after p of those that begin with p's prefix, whose state is s, with j frames to go
unfoldable pub seek_from : Machine → (ℕ → ℕ → Bool) → ℕ → ℕ → ℕ → Option ℕ
seek_from m q p zero s = elim (least_below m.rows (later_hit m s (p % m.rows))) [ some r ↦ some (p / m.rows * m.rows + r) | none ↦ none ]
seek_from m q p (suc j) s =
    or_else (elim (m.step s (cut m (suc j) p % m.rows)) [ some x ↦ seek_from m q p j x | none ↦ none ])
    (taken m (walk_from m q j) (cut m (suc (suc j)) p) s (least_below m.rows (later m (q j) s (cut m (suc j) p % m.rows))))

-- the first hit of frame t at or after p
unfoldable pub seek : Machine → (ℕ → ℕ → Bool) → ℕ → ℕ → Option ℕ
seek m q t p =
    or_else (seek_from m q p t (m.start (cut m (suc t) p)))
    (elim (least_below m.starts (later_start m (q t) (cut m (suc t) p))) [ some y ↦ walk_from m q t y (m.start y) | none ↦ none ])
