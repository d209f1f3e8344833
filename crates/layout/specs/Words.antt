-- The circuit that the words of a memory say, read off by position. Words past the end of the memory are 0. Assumes nothing.
use Rattle.std.specs.Prelude.{List, map, ℕ, ◌+◌, ◌*◌, get_or}
use Rattle.aiger.specs.Lists.{upto}
use Rattle.aiger.specs.Circuit.{Circuit, Latch, Gate}

-- word i
abbrev pub word : List ℕ → ℕ → ℕ
word m i = get_or m i 0

-- where each part begins, and where the last one ends
abbrev pub latches_at : List ℕ → ℕ
latches_at m = 7 + word m 1

abbrev pub outputs_at : List ℕ → ℕ
outputs_at m = latches_at m + 3 * word m 2

abbrev pub bads_at : List ℕ → ℕ
bads_at m = outputs_at m + word m 3

abbrev pub constraints_at : List ℕ → ℕ
constraints_at m = bads_at m + word m 5

abbrev pub gates_at : List ℕ → ℕ
gates_at m = constraints_at m + word m 6

abbrev pub content_end : List ℕ → ℕ
content_end m = gates_at m + 3 * word m 4

-- n words from `at` on, each `stride` after the last
abbrev pub column : List ℕ → ℕ → ℕ → ℕ → List ℕ
column m at stride n = map (λ i. word m (at + stride * i)) (upto n)

abbrev pub latch_in : List ℕ → ℕ → Latch
latch_in m at = record { lit = word m at; next = word m (at + 1); reset = word m (at + 2) }

abbrev pub gate_in : List ℕ → ℕ → Gate
gate_in m at = record { lit = word m at; left = word m (at + 1); right = word m (at + 2) }

-- the circuit that words encode, if they encode one
unfoldable pub circuit_in : List ℕ → Circuit
circuit_in m =
    record {
      max_var = word m 0;
      inputs = column m 7 1 (word m 1);
      latches = map (λ j. latch_in m (latches_at m + 3 * j)) (upto (word m 2));
      outputs = column m (outputs_at m) 1 (word m 3);
      bads = column m (bads_at m) 1 (word m 5);
      constraints = column m (constraints_at m) 1 (word m 6);
      gates = map (λ j. gate_in m (gates_at m + 3 * j)) (upto (word m 4));
    }
