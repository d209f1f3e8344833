-- Pins hold inputs of a circuit at a value, the same in all frames. Clause 12.7. A user's pins are a function: q i is the pin of input i.
-- Assumes nothing.
use Rattle.std.specs.Prelude.{Bool, not, cond, List, [], ◌∷◌, map, ℕ, zero, suc, ◌+◌, ◌*◌, ◌%◌, ◌^◌, ltb, eqb, length, get_or, take, drop}
use Rattle.std.proofs.Math.Option.{Option}
use Rattle.aiger.specs.Lists.{tally, upto}
use Rattle.aiger.specs.Circuit.{Circuit, Latch, Gate, var}
use Rattle.aiger.specs.Frames.{Space, free_starts, starts, run_in, bits_in}
use Rattle.aiger.specs.Search.{Question, reaches_in, first_at}
use Rattle.aiger.specs.Witness.{witness}

-- Clause 12.7: a pin that is 0 or 1 holds its input at that value; any other pin leaves it free
abbrev pub is_held : ℕ → Bool
is_held p = ltb p 2

-- the pins of a user in the pin memory, which has 256 bytes for each of two users; a byte that is not there leaves its input free
unfoldable pub pins_of : List ℕ → ℕ → ℕ → ℕ
pins_of memory user i = get_or (take 256 (drop (256 * user) memory)) i 2

-- ---- the sequences that obey the pins

-- n inputs from the i-th on: a held one has its pin's value, the free ones have the free bits f j, f (j + 1) and so on
unfoldable pub fill : (ℕ → ℕ) → (ℕ → Bool) → ℕ → ℕ → ℕ → List Bool
fill q f i j zero = []
fill q f i j (suc n) = cond (is_held (q i)) (eqb (q i) 1 ∷ fill q f (suc i) j n) (f j ∷ fill q f (suc i) (suc j) n)

-- how many of n inputs are free
unfoldable pub free_inputs : (ℕ → ℕ) → ℕ → ℕ
free_inputs q n = tally (λ i. not (is_held (q i))) (upto n)

-- Clause 12.7: a held input is no free bit; the others are the free bits in the same order as without pins
abbrev pub pinned_space : Circuit → (ℕ → ℕ) → Space
pinned_space c q =
    record {
      free = free_starts c;
      width = free_inputs q (length c.inputs);
      start_of = λ f. starts f 0 c.latches;
      row_of = λ f. fill q f 0 0 (length c.inputs);
    }

-- the question about bad line b of c among the sequences that obey the pins
abbrev pub pinned_question : Circuit → (ℕ → ℕ) → ℕ → Question
pinned_question c q b =
    record { places = λ t. 2 ^ bits_in (pinned_space c q) t; hitting = reaches_in (pinned_space c q) c b }

-- the witness of the first hit among them
unfoldable pub pinned_witness : Circuit → (ℕ → ℕ) → ℕ → ℕ → List ℕ
pinned_witness c q b t =
    elim (first_at (pinned_question c q b) t) [ Option.some x ↦ witness b (run_in (pinned_space c q) t x) | Option.none ↦ [] ]

-- ---- the pinned circuit: held inputs leave the list of inputs, and what names them names a constant

-- the free ones of these inputs, the first of which has pin q i
unfoldable pub kept : (ℕ → ℕ) → ℕ → List ℕ → List ℕ
kept q i [] = []
kept q i (l ∷ ls) = cond (is_held (q i)) (kept q (suc i) ls) (l ∷ kept q (suc i) ls)

-- the pin of variable v, 2 where it is none of these inputs
unfoldable pub pin_of : (ℕ → ℕ) → ℕ → List ℕ → ℕ → ℕ
pin_of q i [] v = 2
pin_of q i (l ∷ ls) v = cond (eqb (var l) v) (q i) (pin_of q (suc i) ls v)

-- literal l, or the constant that it is where its variable has pin p: literal 0 is false, 1 is true
abbrev pub constant_of : ℕ → ℕ → ℕ
constant_of p l = cond (is_held p) ((p + l) % 2) l

unfoldable pub tied : (ℕ → ℕ) → List ℕ → ℕ → ℕ
tied q ls l = constant_of (pin_of q 0 ls (var l)) l

abbrev pub tied_latch : (ℕ → ℕ) → List ℕ → Latch → Latch
tied_latch q ls x = record { lit = x.lit; next = tied q ls x.next; reset = x.reset }

abbrev pub tied_gate : (ℕ → ℕ) → List ℕ → Gate → Gate
tied_gate q ls x = record { lit = x.lit; left = tied q ls x.left; right = tied q ls x.right }

unfoldable pub pinned : Circuit → (ℕ → ℕ) → Circuit
pinned c q =
    record {
      max_var = c.max_var;
      inputs = kept q 0 c.inputs;
      latches = map (tied_latch q c.inputs) c.latches;
      outputs = map (tied q c.inputs) c.outputs;
      bads = map (tied q c.inputs) c.bads;
      constraints = map (tied q c.inputs) c.constraints;
      gates = map (tied_gate q c.inputs) c.gates;
    }
