-- What a loop leaves, by the equation of its function. Assumes nothing.
use mathlib.Core.Path.{◌≡◌, ap}
use Rattle.memory.specs.Record.{Counted, Told}

pub told-by : {a b : Counted} → a ≡ b → Told a.words a.count b
told-by e = record { words = ap (λ (t : Counted). t.words) e; count = ap (λ (t : Counted). t.count) e }
