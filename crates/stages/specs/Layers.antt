-- The layers of states as a stage. They begin at frame 0, wherever the stage begins. Assumes nothing.
use Rattle.std.specs.Prelude.{ℕ, max}
use Rattle.machine.specs.Machine.{Machine}
use Rattle.machine.specs.Layers.{Layered, layered}
use Rattle.stages.specs.Endings.{Ending, Endings}

-- what layers of all frames up to 255 say, as an ending
abbrev pub of_layers : Layered → Ending
of_layers (Layered.hit t x) = Ending.hit t x
of_layers Layered.clear = Ending.clear
of_layers (Layered.never t) = Ending.never t
of_layers (Layered.gave_up t) = Ending.gave_up t

-- an ending that was found from frame 0 on, for a stage that begins at frame `first`
abbrev pub from_start : Ending → Endings
from_start (Ending.hit t x) first = Ending.hit t x
from_start (Ending.never t) first = Ending.never (max t first)
from_start Ending.clear first = Ending.clear
from_start (Ending.gave_up t) first = Ending.gave_up (max t first)

-- the stage: quota says how many states may be met, by the stage's first frame and each frame
unfoldable pub layers_ending : Machine → (ℕ → ℕ → ℕ) → Endings
layers_ending m quota first = from_start (of_layers (layered m (quota first) 256)) first
