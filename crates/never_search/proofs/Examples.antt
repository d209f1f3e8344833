-- Clause 12.15: searches at a depth, worked through. Assumes nothing.
use mathlib.Core.Path.{◌≡◌, refl}
use mathlib.Core.Bool.{Bool, true, false}
use mathlib.Core.List.{List, [], ◌∷◌, map}
use Prim.Native.Nat.{ℕ}
use Rattle.aiger.specs.Bits.{bit}
use Rattle.aiger.specs.Text.{bytes, digits_up_to}
use Rattle.aiger.specs.Circuit.{Circuit, Latch, Gate, gate_of}
use Rattle.aiger.specs.Frames.{conjunction, through, look, leaf, frame, state, value_at, constrained, allowed, hits, free_starts, starts, space, size}
use Rattle.aiger.specs.Search.{greatest, least_below, tells, decides, permitted_of, reaches_in}
use Rattle.aiger.specs.Witness.{witness, witness_length}
use Rattle.aiger.specs.Operations.{judge}
use Rattle.aiger.specs.Examples.{refusal_of}
use Rattle.never_search.specs.Runs.{hits_alone, reaches_alone, freed}
use Rattle.never_search.specs.Depth.{Verdict, depth_question, permitted_at, witness_at}
use Rattle.never_search.specs.Operation.{never_tests}

-- what may be answered of these
abbrev permits : Circuit → ℕ → ℕ → List Verdict → List Bool
permits c k D vs = map (permitted_at (depth_question c (space c) 0 k) k D) vs

-- Two latches that start at 0. The first becomes 0, the second follows it; bad is the second.
abbrev followed : Circuit
followed =
    record {
      max_var = 2;
      inputs = [];
      latches = record { lit = 2; next = 0; reset = 0 } ∷ record { lit = 4; next = 2; reset = 0 } ∷ [];
      outputs = [];
      bads = 4 ∷ [];
      constraints = [];
      gates = [];
    }

-- at depth 0 it is open: from the values 1 and 0 the second frame hits
open-zero : permits followed 0 16 (Verdict.opened 0 ∷ Verdict.never 0 ∷ Verdict.found 0 ∷ Verdict.found 1 ∷ Verdict.opened 1 ∷ [])
    ≡ true ∷ false ∷ false ∷ false ∷ false ∷ []
unfolding bit gate_of conjunction through look leaf frame state value_at constrained allowed hits free_starts starts reaches_in decides permitted_of
    hits_alone reaches_alone permitted_at
open-zero = refl

-- the witness has two frames, and the values that the run starts from
open-text : witness_at followed (space followed) 0 0 1 ≡ bytes "1\nb0\n10\n\n\n.\n"
unfolding bit gate_of conjunction through look leaf frame state value_at constrained allowed hits free_starts starts reaches_in least_below
    digits_up_to witness hits_alone reaches_alone witness_at
open-text = refl

-- at depth 1 it is never: the value that follows was 0 one frame before
never-one : permits followed 1 16 (Verdict.never 1 ∷ Verdict.opened 1 ∷ Verdict.never 0 ∷ []) ≡ true ∷ false ∷ false ∷ []
unfolding bit gate_of conjunction through look leaf frame state value_at constrained allowed hits free_starts starts reaches_in decides permitted_of
    hits_alone reaches_alone permitted_at
never-one = refl

-- The plain frames have one place, the second question has four. A budget of 1 may be spent there with 1 or 2, not with 3, since place 2
-- hits; a budget of 3 may not be spent, nor may frame 0.
spent-second : permits followed 0 1 (Verdict.spent 1 1 ∷ Verdict.spent 1 2 ∷ Verdict.spent 1 3 ∷ Verdict.spent 1 0 ∷ Verdict.spent 0 1 ∷ [])
    ≡ true ∷ true ∷ false ∷ false ∷ false ∷ []
unfolding bit gate_of conjunction through look leaf frame state value_at constrained allowed hits free_starts starts reaches_in decides permitted_of
    greatest tells hits_alone reaches_alone permitted_at
spent-second = refl

spent-three : permits followed 0 3 (Verdict.spent 1 3 ∷ Verdict.spent 1 2 ∷ Verdict.opened 0 ∷ []) ≡ false ∷ false ∷ true ∷ []
unfolding bit gate_of conjunction through look leaf frame state value_at constrained allowed hits free_starts starts reaches_in decides permitted_of
    greatest tells hits_alone reaches_alone permitted_at
spent-three = refl

-- A latch that starts at 0 and keeps its value; bad is the latch. From the value 1 every frame hits, so no run hits in its last frame alone.
abbrev keeping : Circuit
keeping =
    record {
      max_var = 1;
      inputs = [];
      latches = record { lit = 2; next = 2; reset = 0 } ∷ [];
      outputs = [];
      bads = 2 ∷ [];
      constraints = [];
      gates = [];
    }

never-kept : permits keeping 0 16 (Verdict.never 0 ∷ Verdict.opened 0 ∷ []) ≡ true ∷ false ∷ []
unfolding bit gate_of conjunction through look leaf frame state value_at constrained allowed hits free_starts starts reaches_in decides permitted_of
    hits_alone reaches_alone permitted_at
never-kept = refl

-- An input, which is bad and which a constraint forbids: the last frame would break the constraint.
abbrev forbidden : Circuit
forbidden = record { max_var = 1; inputs = 2 ∷ []; latches = []; outputs = []; bads = 2 ∷ []; constraints = 3 ∷ []; gates = [] }

never-forbidden : permits forbidden 0 16 (Verdict.never 0 ∷ Verdict.opened 0 ∷ Verdict.found 0 ∷ []) ≡ true ∷ false ∷ false ∷ []
unfolding bit gate_of conjunction through look leaf frame state value_at constrained allowed hits free_starts starts reaches_in decides permitted_of
    hits_alone reaches_alone permitted_at
never-forbidden = refl

-- An input and two latches that start at 0. The first keeps its value, the second becomes true where the first or the input is; bad is the
-- second. The first run of two frames that hits in its second alone has both latches at 0, and the input at 1 and then 0.
abbrev either : Circuit
either =
    record {
      max_var = 4;
      inputs = 2 ∷ [];
      latches = record { lit = 4; next = 4; reset = 0 } ∷ record { lit = 6; next = 9; reset = 0 } ∷ [];
      outputs = [];
      bads = 6 ∷ [];
      constraints = [];
      gates = record { lit = 8; left = 5; right = 3 } ∷ [];
    }

open-either : witness_at either (space either) 0 0 1 ≡ bytes "1\nb0\n00\n1\n0\n.\n"
unfolding bit gate_of conjunction through look leaf frame state value_at constrained allowed hits free_starts starts reaches_in least_below
    digits_up_to witness hits_alone reaches_alone witness_at
open-either = refl

-- at depth 0 it is open, at depth 1 the hit of frame 1 is found
found-either : permits either 1 64 (Verdict.found 1 ∷ Verdict.opened 1 ∷ Verdict.never 1 ∷ []) ≡ true ∷ false ∷ false ∷ []
unfolding bit gate_of conjunction through look leaf frame state value_at constrained allowed hits free_starts starts reaches_in decides permitted_of
    hits_alone reaches_alone permitted_at
found-either = refl

-- depths above 254 are refused, and the size counts every latch at bound k + 1: of `followed` at depth 0 it is 5
refusals : map (λ (p : ℕ × ℕ). refusal_of (judge (never_tests followed 0 p.0 1 p.1 2048)))
    ((0, 80) ∷ (0, 79) ∷ (254, 8192) ∷ (255, 8192) ∷ []) ≡ 0 ∷ 12 ∷ 0 ∷ 11 ∷ []
unfolding judge refusal_of size free_starts digits_up_to witness_length freed
refusals = refl
