-- Counts within their limits, the size and the length of a witness by the counts, and what the tests 10 to 12 answer. Assumes nothing.
use Rattle.std.specs.Prelude.{◌≡◌, Bool, ◌&&◌, List, [], ◌∷◌, ℕ, ◌+◌, ◌*◌, ◌≤◌, ◌<◌, T, leb, length, Result, OnOk}
use Rattle.aiger.specs.Text.{digits}
use Rattle.aiger.specs.Circuit.{Circuit}
use Rattle.aiger.specs.Load.{Answer}
use Rattle.aiger.specs.Frames.{free_starts}
use Rattle.aiger.specs.Operations.{Test, need, judge, bad_test, size_test, bound_tests}
use Rattle.layout.specs.declared.Layout.{Layout}
use Rattle.refusals.specs.Refusals.{answer_of}
use Rattle.refusals.specs.declared.Refusal.{Refusal}

-- counts within document 01's limits, and no more free starts than latches
pub record Limited (p : Layout) : Type 0 where
  pub inputs : p.i ≤ 256
  pub latches : p.l ≤ 1024
  pub gates : p.a ≤ 3072
  pub bads : p.b ≤ 16
  pub constraints : p.c ≤ 16
  pub starts : p.u ≤ p.l

-- the counts are those of circuit c
pub record CountsOf (c : Circuit) (p : Layout) : Type 0 where
  pub inputs : p.i ≡ length c.inputs
  pub latches : p.l ≡ length c.latches
  pub gates : p.a ≡ length c.gates
  pub bads : p.b ≡ length c.bads
  pub constraints : p.c ≡ length c.constraints
  pub starts : p.u ≡ free_starts c

-- the size for bound k
abbrev pub size_of : Layout → ℕ → ℕ
size_of p k = (k + 1) * (p.i + p.a + p.c + 1) + p.u + 1

-- the length of a witness for b of k + 1 frames
abbrev pub length_of : Layout → ℕ → ℕ → ℕ
length_of p b k = 3 + length (digits b) + 1 + (p.l + 1) + (k + 1) * (p.i + 1) + 2

-- what tests say as their answer: that all pass, or the number of the first that fails
abbrev pub told : Result (Unit {0}) Refusal → Answer (Unit {0})
told = answer_of

-- the tests 10 and 11
abbrev pub line_tests : Circuit → ℕ → ℕ → Bool → List Test
line_tests c b k budget = bad_test c b ∷ need 11 (leb k 255 && budget) ∷ []

-- what they leave to be used, where both pass
pub record OnLine (p : Layout) (b k : ℕ) (budget : Bool) : Type 0 where
  pub bad : b < p.b
  pub bound : k ≤ 255
  pub right : T budget

-- the number of the first of them that fails, or that both pass, of any circuit with these counts
pub record LineIs (p : Layout) (b k : ℕ) (budget : Bool) (r : Result (Unit {0}) Refusal) : Type 0 where
  pub tests : (c : Circuit) → CountsOf c p → judge (line_tests c b k budget) ≡ told r
  pub within : OnOk r (OnLine p b k budget)

-- what test 12 leaves to be used
pub record InSize (p : Layout) (k room : ℕ) : Type 0 where
  pub small : size_of p k ≤ 65536
  pub words : 16 * size_of p k ≤ room

-- 12, or that the test passes, of any circuit with these counts
pub record SizeIs (p : Layout) (k room : ℕ) (r : Result (Unit {0}) Refusal) : Type 0 where
  pub tests : (c : Circuit) → CountsOf c p → judge (size_test c k room ∷ []) ≡ told r
  pub within : OnOk r (InSize p k room)

-- what the tests 10 to 12 leave to be used, where all pass
pub record Within (p : Layout) (b k : ℕ) (budget : Bool) (room : ℕ) : Type 0 where
  pub bad : b < p.b
  pub bound : k ≤ 255
  pub right : T budget
  pub small : size_of p k ≤ 65536
  pub words : 16 * size_of p k ≤ room

-- the number of the first of the tests 10 to 12 that fails, or that all pass, of any circuit with these counts
pub record RulingIs (p : Layout) (b k : ℕ) (budget : Bool) (room : ℕ) (r : Result (Unit {0}) Refusal) : Type 0 where
  pub tests : (c : Circuit) → CountsOf c p → judge (bound_tests c b k budget room) ≡ told r
  pub within : OnOk r (Within p b k budget room)
