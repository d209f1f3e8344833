-- The words of a circuit memory after a load. Assumes nothing.
use Rattle.std.specs.Prelude.{List, ℕ, length}
use Rattle.aiger.specs.Circuit.{Circuit}
use Rattle.aiger.specs.Load.{Answer, refused, gives, load}
use Rattle.aiger.specs.Memory.{image}
use Rattle.aiger.specs.Operations.{front}

-- by load's answer
abbrev pub words_after : List ℕ → Answer Circuit → List ℕ
words_after m (refused n) = m
words_after m (gives c) = front (image c) m

abbrev pub loaded_words : List ℕ → List ℕ → List ℕ
loaded_words m file = words_after m (load (length m) file)
