-- The stages of the search: rounds of layers of states, sets of states, and attempts frame by frame. Assumes nothing.
use Rattle.std.specs.Prelude.{Bool, cond, ◌&&◌, List, [], ◌∷◌, ℕ, zero, suc, ◌*◌, min, leb, length}
use Rattle.aiger.specs.Circuit.{Circuit, literals_right, acyclic}
use Rattle.aiger.specs.Frames.{size}
use Rattle.influence.specs.Cone.{part_of}
use Rattle.transitions.specs.Transitions.{machine_of}
use Rattle.reachable.specs.declared.Limit.{Limit}
use Rattle.reachable.specs.Quota.{quota}
use Rattle.stages.specs.Endings.{Ending, Endings, Stage, any_budget}
use Rattle.stages.specs.Layers.{layers_ending}
use Rattle.stages.specs.Choice.{rounds, limit_in}
use Rattle.set_attempt.specs.Stage.{stage_ending}
use Rattle.attempts.specs.Stage.{conflict_stage}

-- the same work for every frame
abbrev pub flat : ℕ → Limit
flat work = record { base = work; unit = 0 }

-- layers of states, with a limit on their work
unfoldable pub layers_stage : Circuit → ℕ → ℕ → Stage
layers_stage c b limit = any_budget (layers_ending (machine_of (part_of c b) b) (λ first. quota (part_of c b) first (flat limit)))

-- so is every circuit in memory: its literals are right, no gate depends on itself, and there are not too many gates and latches
unfoldable pub is_proper : Circuit → Bool
is_proper c = literals_right c && (acyclic c && (leb (length c.gates) 3072 && leb (length c.latches) 4096))

-- sets of states from a frame on, with a share of looks for each order of the latches
unfoldable pub sets_once : Circuit → ℕ → ℕ → Endings
sets_once c b share first = cond (is_proper c) (stage_ending (part_of c b) b share first) (Ending.gave_up first)

-- after a stage that begins at frame `first`: the same from the frame at which it gives up, where that is far enough
abbrev pub onward : (ℕ → ℕ → Bool) → ℕ → Ending → Endings → Ending
onward far first (Ending.hit t x) later = Ending.hit t x
onward far first (Ending.never t) later = Ending.never t
onward far first Ending.clear later = Ending.clear
onward far first (Ending.gave_up t) later = cond (far first t) (later t) (Ending.gave_up t)

-- a stage up to n times, each time from the frame that was reached
unfoldable pub gone_on : (ℕ → ℕ → Bool) → Endings → ℕ → Endings
gone_on far s zero first = Ending.gave_up first
gone_on far s (suc n) first = onward far first (s first) (gone_on far s n)

-- a frame is far enough where its size, and with it the words of a diagram, is 3/2 of that at the stage's first frame
abbrev pub is_far : Circuit → ℕ → ℕ → Bool
is_far c first t = leb (3 * size c first) (2 * size c t)

-- sets of states, begun again in the words of a frame that is far enough
unfoldable pub sets_stage : Circuit → ℕ → ℕ → Stage
sets_stage c b share = any_budget (gone_on (is_far c) (sets_once c b share) 12)

-- the share in round r: a word has it
abbrev pub share_in : ℕ → ℕ
share_in r = min (limit_in 40000 r) 4294967295

-- what comes after the layers of round r
abbrev pub later_of : Circuit → ℕ → ℕ → List Stage
later_of c b r = sets_stage c b (share_in r) ∷ conflict_stage c b (limit_in 6000 r) ∷ []

-- round r
abbrev pub round_of : Circuit → ℕ → ℕ → List Stage
round_of c b r = layers_stage c b (limit_in 300000 r) ∷ later_of c b r

-- eight rounds
unfoldable pub stages_of : Circuit → ℕ → List Stage
stages_of c b = rounds (round_of c b) 0 8
