-- Clause 12.7: the history without the other user's calls, save accepted loads. Assumes nothing.
use Rattle.std.specs.Prelude.{Bool, cond, ◌||◌, List, [], ◌∷◌, ℕ, eqb}
use Rattle.call_forms.specs.History.{Event, user_of, is_accepted}

-- the events that concern user u: the user's own calls, and accepted loads
abbrev pub concerns : ℕ → Event → Bool
concerns u e = eqb (user_of e.call) u || is_accepted e.returned

unfoldable pub concerning : ℕ → List Event → List Event
concerning u [] = []
concerning u (e ∷ es) = cond (concerns u e) (e ∷ concerning u es) (concerning u es)
