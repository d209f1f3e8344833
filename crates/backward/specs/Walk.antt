-- The walk to the first hit of a frame. Assumes nothing.
use Rattle.std.specs.Prelude.{◌≡◌, Bool, ℕ, zero, suc, ◌+◌, ◌-◌, ◌*◌, ◌/◌, ◌≤◌, ◌<◌, T}
use Rattle.std.proofs.Math.Option.{Option, none, some}
use Rattle.aiger.specs.Search.{least_below}
use Rattle.machine.specs.Machine.{Machine, prefixes, state_after, hits_at}
use Rattle.backward.specs.Sets.{into, ahead}

-- the least row of state s that leads to a state that passes
abbrev pub row_into : Machine → (ℕ → Bool) → ℕ → Option ℕ
row_into m p s = least_below m.rows (λ r. into p (m.step s r))

-- the least row of state s that hits
abbrev pub hit_row : Machine → ℕ → Option ℕ
hit_row m s = least_below m.rows (m.hit s)

-- where row r of state s leads to a state, what goes on from there, with r after prefix y
abbrev pub taken : Machine → (ℕ → ℕ → Option ℕ) → ℕ → ℕ → Option ℕ → Option ℕ
taken m on y s none = none
taken m on y s (some r) = elim (m.step s r) [ some x ↦ on (y * m.rows + r) x | none ↦ none ]

-- The walk from prefix y and its state s, with j frames to go before that of the hit: in each of them the least row into the set with one
-- frame less to go, in the last the least row that hits. What is given is the number of the whole sequence.
unfoldable pub walk_from : Machine → (ℕ → ℕ → Bool) → ℕ → ℕ → ℕ → Option ℕ
walk_from m p zero y s = elim (hit_row m s) [ some r ↦ some (y * m.rows + r) | none ↦ none ]
walk_from m p (suc j) y s = taken m (walk_from m p j) y s (row_into m (p j) s)

-- the walk to frame t, from the least start place whose state passes
unfoldable pub walk : Machine → (ℕ → ℕ → Bool) → ℕ → Option ℕ
walk m p t = elim (least_below m.starts (λ y. p t (m.start y))) [ some y ↦ walk_from m p t y (m.start y) | none ↦ none ]

-- sequence x without its last k rows
unfoldable pub cut : Machine → ℕ → ℕ → ℕ
cut m zero x = x
cut m (suc k) x = cut m k x / m.rows

-- the prefix of f frames of sequence x of frame t
abbrev pub prefix_of : Machine → ℕ → ℕ → ℕ → ℕ
prefix_of m t f x = cut m (suc (t - f)) x

-- The walk to the first hit of frame t at or after sequence p, frame by frame. After f frames it is at prefix y, whose state s can hit in
-- frame t; every hit of frame t at or after p has y or a later prefix of f frames; and no sequence that begins with y is before p.
pub record Walking (m : Machine) (t p f y s : ℕ) : Type 0 where
  pub room : f ≤ t
  pub fits : y < prefixes m f
  pub reached : state_after m f y ≡ some s
  pub able : T (ahead m (t - f) s)
  pub least : (x : ℕ) → p ≤ x → T (hits_at m t x) → y ≤ prefix_of m t f x
  pub after : (x : ℕ) → prefix_of m t f x ≡ y → p ≤ x
