use Rattle.std.proofs.Common.{◌≡◌}
use Rattle.aiger.specs.Signature as Signature
use Rattle.words.proofs.draw.Given as goal

-- the value is the draw of the steps so far, and so is the generator's state
abbrev pub invariant-loop : goal.invariant-loop
invariant-loop l = record { drawn : l.value ≡ Signature.draw l.counter; stands : l.generator.state ≡ Signature.draw l.counter }
