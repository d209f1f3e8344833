-- What the search chooses where several outcomes are permitted, and what its answers mean. Assumes nothing.
use Rattle.std.specs.Prelude.{Bool, false, ℕ}
use Rattle.aiger.specs.Circuit.{Circuit}
use Rattle.aiger.specs.Load.{Answer, refused, gives}
use Rattle.aiger.specs.Search.{Outcome, Report}
use Rattle.aiger.specs.Operations.{shown_length}
use Rattle.decision.specs.Reach.{decision_of}
use Rattle.place_decision.specs.Reach.{reached_told}
use Rattle.stages.specs.Choice.{chosen_by, never_by}
use Rattle.staged.specs.Schedule.{stages_of}
use Rattle.search.specs.declared.SearchAnswer.{SearchAnswer}
use Rattle.search.specs.declared.SearchAnswer.TheVariants.{Found, Nothing, Spent, Refused}

-- the outcome that the search chooses; what the stages leave is decided frame by frame
unfoldable pub outcome_chosen : Circuit → ℕ → ℕ → ℕ → Outcome
outcome_chosen c b k D = chosen_by (stages_of c b) (decision_of c b) k D

-- whether it finds out that no frame at all has a hit, however late
unfoldable pub never_chosen : Circuit → ℕ → ℕ → ℕ → Bool
never_chosen c b k D = never_by (stages_of c b) k D

-- Clause 12.10: the place that is told with an outcome: that of the frame that is spent, 0 where none is
abbrev pub reached_with : Circuit → ℕ → ℕ → Outcome → ℕ
reached_with c b D (Outcome.found t) = 0
reached_with c b D (Outcome.none k) = 0
reached_with c b D (Outcome.spent t) = reached_told c b t D

unfoldable pub reached_chosen : Circuit → ℕ → ℕ → ℕ → ℕ
reached_chosen c b k D = reached_with c b D (outcome_chosen c b k D)

-- what it reports
unfoldable pub chosen : Circuit → ℕ → ℕ → ℕ → Report
chosen c b k D =
    record {
      outcome = outcome_chosen c b k D;
      length = shown_length c b (outcome_chosen c b k D);
      never = never_chosen c b k D;
      reached = reached_chosen c b k D;
    }

-- the report of found t with a witness of n bytes, of none k, and of spent t with place R
abbrev pub found_report : ℕ → ℕ → Report
found_report t n = record { outcome = Outcome.found t; length = n; never = false; reached = 0 }

abbrev pub none_report : ℕ → Bool → Report
none_report k flag = record { outcome = Outcome.none k; length = 0; never = flag; reached = 0 }

abbrev pub spent_report : ℕ → ℕ → Report
spent_report t R = record { outcome = Outcome.spent t; length = 0; never = false; reached = R }

-- the answer that each case of the enum is
abbrev pub said : SearchAnswer → Answer Report
said (Found t n) = gives (found_report t n)
said (Nothing k flag) = gives (none_report k flag)
said (Spent t R) = gives (spent_report t R)
said (Refused n) = refused n
