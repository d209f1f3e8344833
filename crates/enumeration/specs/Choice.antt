-- What is decided of places that are tried one after the other, from a starting place on and no more than a budget of them. The search asks
-- this of the places that its choice says (`decision` Reach). What holds of a decision, and all that is known of it above, are the laws
-- `hit-first`, `clear_none` and `spent-first`. Assumes nothing.
use Rattle.std.specs.Prelude.{Bool, cond, ℕ, ◌+◌, min, leb}
use Rattle.std.proofs.Math.Option.{Option, none, some}
pub use Rattle.aiger.specs.Search.{least_below}
use Rattle.aiger.specs.Search.{Question, Decision, onward}

abbrev pub decided : Option ℕ → Decision → Decision
decided (some x) d = Decision.hit x
decided none d = d

-- what is decided of the places from lo on, where p says which places hit, there are `places` in all and the budget is D
unfoldable pub decision : (ℕ → Bool) → ℕ → ℕ → ℕ → Decision
decision p places lo D = decided (least_below (min places (lo + D)) (onward lo p)) (cond (leb places (lo + D)) Decision.clear Decision.spent)

-- what is decided of frame t, from its first place on
abbrev pub decision_at : Question → ℕ → ℕ → Decision
decision_at q t D = decision (q.hitting t) (q.places t) 0 D
