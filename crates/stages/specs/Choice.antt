-- The search as a list of stages, and what it chooses where several outcomes are permitted. What stages there are and where each gives
-- up is known without the bound k and the budget D: k says how much of the ending is seen, D only where the list is cut off. Assumes
-- nothing.
use Rattle.std.specs.Prelude.{Bool, true, false, List, [], ◌∷◌, ◌++◌, ℕ, zero, suc, ◌+◌, ◌-◌, ◌*◌, ◌^◌}
use Rattle.aiger.specs.Search.{Decision, Outcome}
use Rattle.stages.specs.Endings.{Ending, Cut, Staged, Stage, staged_at}

-- ---- the list of stages

-- after a stage: where it gives up, the next one begins
abbrev pub followed : Staged → (ℕ → Staged) → Staged
followed (Staged.ends (Ending.hit t x)) next = Staged.ends (Ending.hit t x)
followed (Staged.ends (Ending.never t)) next = Staged.ends (Ending.never t)
followed (Staged.ends Ending.clear) next = Staged.ends Ending.clear
followed (Staged.ends (Ending.gave_up t)) next = next t
followed (Staged.cut_off t) next = Staged.cut_off t

-- the stages in turn, each from the first frame that is not decided; what they leave is decided frame by frame
unfoldable pub listed : List Stage → Stage
listed [] first D = Staged.cut_off first
listed (s ∷ ss) first D = followed (s first D) (λ t. listed ss t D)

-- n rounds from round r on, each a list of stages
unfoldable pub rounds : (ℕ → List Stage) → ℕ → ℕ → List Stage
rounds stages r zero = []
rounds stages r (suc n) = stages r ++ rounds stages (suc r) n

-- a limit in round r: eight times that of the round before
unfoldable pub limit_in : ℕ → ℕ → ℕ
limit_in base r = base * 8 ^ r

-- ---- frame by frame

-- after the decision on frame t: the outcome, or what the later frames give
abbrev pub outcome_of : Decision → ℕ → Outcome → Outcome
outcome_of (Decision.hit x) t later = Outcome.found t
outcome_of Decision.clear t later = later
outcome_of Decision.spent t later = Outcome.spent t

-- n frames from t on, of a search up to bound k, where f says what is decided of each frame
unfoldable pub chosen_from : (ℕ → Decision) → ℕ → ℕ → ℕ → Outcome
chosen_from f k t zero = Outcome.none k
chosen_from f k t (suc n) = outcome_of (f t) t (chosen_from f k (suc t) n)

-- frames t to k
abbrev pub on_from : (ℕ → Decision) → ℕ → ℕ → Outcome
on_from f k t = chosen_from f k t (k + 1 - t)

-- ---- the choice

-- the outcome of what is seen; from where the stages give up or are cut off the frames are decided by f
abbrev pub seen : (ℕ → Decision) → ℕ → Cut → Outcome
seen f k (Cut.hit t x) = Outcome.found t
seen f k Cut.never = Outcome.none k
seen f k Cut.none = Outcome.none k
seen f k (Cut.gave_up t) = on_from f k t
seen f k (Cut.cut_off t) = on_from f k t

-- the outcome with bound k
abbrev pub outcome_at : (ℕ → Decision) → ℕ → Staged → Outcome
outcome_at f k s = seen f k (staged_at k s)

-- what the stages give from frame `first` on, where `decide` is what is decided of a frame under a budget
abbrev pub outcome_from : List Stage → (ℕ → ℕ → Decision) → ℕ → ℕ → ℕ → Outcome
outcome_from stages decide k D first = outcome_at (λ t. decide t D) k (listed stages first D)

-- what a search with these stages chooses
unfoldable pub chosen_by : List Stage → (ℕ → ℕ → Decision) → ℕ → ℕ → Outcome
chosen_by stages decide k D = outcome_from stages decide k D 0

-- whether it is seen that no frame at all has a hit
abbrev pub is_never : Cut → Bool
is_never (Cut.hit t x) = false
is_never Cut.never = true
is_never Cut.none = false
is_never (Cut.gave_up t) = false
is_never (Cut.cut_off t) = false

-- whether the stages find out up to bound k that no frame at all has a hit
unfoldable pub never_by : List Stage → ℕ → ℕ → Bool
never_by stages k D = is_never (staged_at k (listed stages 0 D))
