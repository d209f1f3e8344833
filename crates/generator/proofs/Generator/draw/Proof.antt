-- `generator::Generator::draw` meets its contract. Assumes nothing.
use Rattle.std.proofs.Common.{ℕ, ap, rules}
use Rattle.generator.specs.declared.Draw.{Draw}
use Rattle.generator.specs.Draws.{started_at}
use Rattle.generator.proofs.Generator.draw.Statement.{statement}
use Rattle.generator.proofs.Generator.draw.Tie as tie

-- the draw and the generator at a state
abbrev both : ℕ → Draw
both s = record { value = s; generator = started_at s }

returns : tie.Need-returns
returns c = ap both c.step-value.ensures

pub draw_spec : {M : Type 1} → statement M
draw_spec = tie.close (tie.spec (λ c κs. search rules) returns)
