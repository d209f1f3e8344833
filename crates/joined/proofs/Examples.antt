-- A worked example of a joined circuit, number by number, and of join's tests. Clause 12.6. Assumes nothing.
use mathlib.Core.Path.{◌≡◌, refl}
use mathlib.Core.List.{[], ◌∷◌}
use Prim.Native.Nat.{ℕ}
use Rattle.aiger.specs.Circuit.{Circuit}
use Rattle.aiger.specs.File.{counts_fit}
use Rattle.aiger.specs.Load.{refused, gives}
use Rattle.aiger.specs.Operations.{judge}
use Rattle.joined.specs.Joined.{place_from, number_of, pairs_gates, joined, join_tests}

-- inputs in another order than their numbers, a latch with a free start, a bad line, a constraint
abbrev first : Circuit
first =
    record {
      max_var = 5;
      inputs = 4 ∷ 2 ∷ [];
      latches = record { lit = 8; next = 6; reset = 8 } ∷ [];
      outputs = 7 ∷ [];
      bads = 6 ∷ [];
      constraints = 2 ∷ [];
      gates = record { lit = 6; left = 8; right = 5 } ∷ [];
    }

-- variables that nothing defines, a latch that starts at 1, a constant operand
abbrev second : Circuit
second =
    record {
      max_var = 7;
      inputs = 2 ∷ 4 ∷ [];
      latches = record { lit = 10; next = 2; reset = 1 } ∷ [];
      outputs = 12 ∷ [];
      bads = [];
      constraints = 11 ∷ [];
      gates = record { lit = 12; left = 1; right = 10 } ∷ [];
    }

-- the second with one input less
abbrev narrow : Circuit
narrow =
    record {
      max_var = 7;
      inputs = 2 ∷ [];
      latches = record { lit = 10; next = 2; reset = 1 } ∷ [];
      outputs = 12 ∷ [];
      bads = [];
      constraints = 11 ∷ [];
      gates = record { lit = 12; left = 1; right = 10 } ∷ [];
    }

pub both-joined : joined first second
    ≡ record {
      max_var = 9;
      inputs = 2 ∷ 4 ∷ [];
      latches = record { lit = 6; next = 10; reset = 6 } ∷ record { lit = 8; next = 2; reset = 1 } ∷ [];
      outputs = [];
      bads = 19 ∷ [];
      constraints = 4 ∷ 9 ∷ [];
      gates =
          record { lit = 10; left = 6; right = 3 } ∷ record { lit = 12; left = 1; right = 8 }
          ∷ record { lit = 14; left = 11; right = 13 } ∷ record { lit = 16; left = 10; right = 12 } ∷ record { lit = 18; left = 15; right = 17 } ∷ [];
    }
unfolding place_from number_of pairs_gates joined
both-joined = refl

-- enough words; a word less; and 17 before 4
pub enough : judge (join_tests first second 336) ≡ gives tt
unfolding place_from number_of pairs_gates joined counts_fit judge
enough = refl

pub short : judge (join_tests first second 335) ≡ refused 4
unfolding place_from number_of pairs_gates joined counts_fit judge
short = refl

pub pair-first : judge (join_tests first narrow 335) ≡ refused 17
unfolding place_from number_of pairs_gates joined counts_fit judge
pair-first = refl
