-- Runs that hit in their last frame and in none before it, from start states of their own. Assumes nothing.
use Rattle.std.specs.Prelude.{Bool, cond, ℕ}
use Rattle.std.proofs.Math.Option.{none}
use Rattle.machine.specs.Machine.{Machine}
use Rattle.backward.specs.Sets.{ahead}

-- the machine m with other start states, in which a row that hits leads nowhere
abbrev pub runs_from : Machine → ℕ → (ℕ → ℕ) → Machine
runs_from m n start =
    record { starts = n; rows = m.rows; slots = m.slots; start = start; step = λ s r. cond (m.hit s r) none (m.step s r); hit = m.hit }

-- from state s the machine can go j frames without a hit and hit in the next
abbrev pub runs_ahead : Machine → ℕ → ℕ → Bool
runs_ahead m j s = ahead (runs_from m 0 (λ y. y)) j s
