-- What the tests of a search from a place answer. Assumes nothing.
use Rattle.std.specs.Prelude.{◌≡◌, ℕ, length, Result}
use Rattle.aiger.specs.Circuit.{Circuit}
use Rattle.aiger.specs.Frames.{free_starts}
use Rattle.aiger.specs.Operations.{judge}
use Rattle.layout.specs.declared.Layout.{Layout}
use Rattle.limits.specs.Limits.{CountsOf, told}
use Rattle.refusals.specs.declared.Refusal.{Refusal}
use Rattle.place_search.specs.Operation.{place_tests}

-- Clause 12.11: the number of the first test that fails, or that all pass, of any circuit with these counts, where the circuit that is
-- asked has so many inputs and the same free starts: under pins the inputs that are free
abbrev pub PlaceRuling : Layout → ℕ → ℕ → ℕ → ℕ → ℕ → ℕ → ℕ → Result (Unit {0}) Refusal → Type 0
PlaceRuling p inputs b t place D room len r =
    (asked c : Circuit) → CountsOf c p → length asked.inputs ≡ inputs → free_starts asked ≡ free_starts c
    → judge (place_tests asked c b t place D room len) ≡ told r
