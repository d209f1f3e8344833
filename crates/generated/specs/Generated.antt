-- Clause 12.12: the circuit that a seed and the counts I, L and A give, its text, and what the operation answers. Assumes nothing.
use Rattle.std.specs.Prelude.{◌≡◌, Bool, ◌&&◌, List, [], ◌∷◌, ◌++◌, map, ℕ, zero, suc, ◌+◌, ◌*◌, ◌/◌, ◌%◌, ◌^◌, ◌≤◌, leb, length}
use Rattle.aiger.specs.Text.{bytes}
use Rattle.aiger.specs.Circuit.{Circuit, Latch, Gate}
use Rattle.aiger.specs.Binary.{implied}
use Rattle.aiger.specs.Load.{Answer, refused, gives}
use Rattle.aiger.specs.Signature.{step}
use Rattle.aiger.specs.Write.{line_of, lines_of, literal_row, latch_row, gate_row}
use Rattle.aiger.specs.Operations.{Test, need, judge, front}

-- the generator's state n steps after s
unfoldable pub after : ℕ → ℕ → ℕ
after zero s = s
after (suc n) s = after n (step s)

-- one of the n literals from 0 on, by the upper 32 bits of a draw
abbrev pub picked : ℕ → ℕ → ℕ
picked n draw = draw / 2 ^ 32 % n

-- latches of k variables from v on, where the generator is at s: each takes one draw for its next literal, one of n. No reset is written
unfoldable pub drawn_latches : ℕ → ℕ → ℕ → ℕ → List Latch
drawn_latches n s v zero = []
drawn_latches n s v (suc k) = record { lit = 2 * v; next = picked n (step s); reset = 0 } ∷ drawn_latches n (step s) (suc v) k

-- gates of k variables from v on, where the generator is at s: each takes one draw for its first operand and then one for its second, of
-- the literals below its own. Operands are not sorted
unfoldable pub drawn_gates : ℕ → ℕ → ℕ → List Gate
drawn_gates s v zero = []
drawn_gates s v (suc k) =
    record { lit = 2 * v; left = picked (2 * v) (step s); right = picked (2 * v) (step (step s)) } ∷ drawn_gates (step (step s)) (suc v) k

-- variables in the order inputs, latches, gates; a latch may go to any literal; the draws of the latches come first; the one bad line is
-- the last gate
unfoldable pub generated : ℕ → ℕ → ℕ → ℕ → Circuit
generated seed I L A =
    record {
      max_var = I + L + A;
      inputs = implied 1 I;
      latches = drawn_latches (2 * (I + L + A) + 2) seed (I + 1) L;
      outputs = [];
      bads = 2 * (I + L + A) ∷ [];
      constraints = [];
      gates = drawn_gates (after L seed) (I + L + 1) A;
    }

-- a circuit without constraints, written with six header numbers
unfoldable pub six_text : Circuit → List ℕ
six_text c =
    bytes "aag "
    ++ (line_of c.max_var (length c.inputs ∷ length c.latches ∷ length c.outputs ∷ length c.gates ∷ length c.bads ∷ [])
    ++ (lines_of (map literal_row c.inputs)
    ++ (lines_of (map latch_row c.latches)
    ++ (lines_of (map literal_row c.outputs) ++ (lines_of (map literal_row c.bads) ++ lines_of (map gate_row c.gates))))))

-- the file of a seed and counts
abbrev pub generated_text : ℕ → ℕ → ℕ → ℕ → List ℕ
generated_text seed I L A = six_text (generated seed I L A)

-- the counts that are permitted, each by itself
abbrev pub few_enough : ℕ → ℕ → ℕ → Bool
few_enough I L A = leb I 256 && leb L 1024 && leb A 3072

-- and together: a variable for an operand, a gate for the bad line, and no more variables than a circuit may have
abbrev pub counts_permitted : ℕ → ℕ → ℕ → Bool
counts_permitted I L A = few_enough I L A && leb (I + L + A) 4096 && leb 1 (I + L) && leb 1 A

-- the same as facts
pub record Permitted (I L A : ℕ) : Type 0 where
  pub inputs : I ≤ 256
  pub latches : L ≤ 1024
  pub gates : A ≤ 3072
  pub all : I + L + A ≤ 4096
  pub operand : 1 ≤ I + L
  pub gate : 1 ≤ A

-- 3 for counts that are not permitted, then 13 for an output of `len` bytes that is shorter than the text
abbrev pub generate_tests : ℕ → ℕ → ℕ → ℕ → ℕ → List Test
generate_tests seed I L A len = need 3 (counts_permitted I L A) ∷ need 13 (leb (length (generated_text seed I L A)) len) ∷ []

-- the operation: the text at the front of the output, the bytes past it as they were, and its length; a refusal leaves the output
pub data Generated (seed I L A : ℕ) (out : List ℕ) : Answer ℕ → List ℕ → Type 0 where
  refuses : {n : ℕ} → judge (generate_tests seed I L A (length out)) ≡ refused n → Generated seed I L A out (refused n) out
  writes : judge (generate_tests seed I L A (length out)) ≡ gives tt
      → Generated seed I L A out (gives (length (generated_text seed I L A))) (front (generated_text seed I L A) out)
