-- Sets of states: from where a machine can still hit. Assumes nothing.
use Rattle.std.specs.Prelude.{◌≡◌, Bool, false, not, ◌&&◌, ◌||◌, ℕ, zero, suc, ◌<◌}
use Rattle.std.proofs.Math.Option.{Option, none, some}
use Rattle.machine.specs.Machine.{Machine}

-- some number below n passes
unfoldable pub any_below : ℕ → (ℕ → Bool) → Bool
any_below zero p = false
any_below (suc n) p = any_below n p || p n

-- where a row leads is a state that passes; a row that is not allowed leads nowhere
abbrev pub into : (ℕ → Bool) → Option ℕ → Bool
into p none = false
into p (some s) = p s

-- some row of state s hits
unfoldable pub hits_now : Machine → ℕ → Bool
hits_now m s = any_below m.rows (m.hit s)

-- some row of state s leads to a state that passes
unfoldable pub preimage : Machine → (ℕ → Bool) → ℕ → Bool
preimage m p s = any_below m.rows (λ r. into p (m.step s r))

-- from state s the machine can hit in exactly j frames
unfoldable pub ahead : Machine → ℕ → ℕ → Bool
ahead m zero s = hits_now m s
ahead m (suc j) s = preimage m (ahead m j) s

-- the nearest hit from state s is j frames ahead: the set of distance j
unfoldable pub nearest : Machine → ℕ → ℕ → Bool
nearest m j s = ahead m j s && not (any_below j (λ i. ahead m i s))

-- a hit is at most j frames ahead: the union of the sets of distances 0 to j
unfoldable pub met : Machine → ℕ → ℕ → Bool
met m j s = any_below (suc j) (λ i. ahead m i s)

-- every start state and every next state of a state below n is below n
pub record Inside (m : Machine) (n : ℕ) : Type 0 where
  pub begins : (y : ℕ) → y < m.starts → m.start y < n
  pub goes : (s r x : ℕ) → s < n → r < m.rows → m.step s r ≡ some x → x < n
