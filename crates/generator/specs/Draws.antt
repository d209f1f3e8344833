-- Draws of a generator. Assumes nothing.
use Rattle.std.specs.Prelude.{ℕ}
use Rattle.aiger.specs.Signature.{step}
use Rattle.generator.specs.declared.Generator.{Generator}
use Rattle.generator.specs.declared.Draw.{Draw}

-- the generator at a state
abbrev pub started_at : ℕ → Generator
started_at s = record { state = s }

-- Clause 5.7: a draw is the state after its step, and the generator is then at that state
abbrev pub drawn_by : Generator → Draw
drawn_by g = record { value = step g.state; generator = started_at (step g.state) }
