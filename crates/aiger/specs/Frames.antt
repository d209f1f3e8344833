-- Frames and sequences: the values of literals, the free bits, and what a hit is. Assumes nothing.
use Rattle.std.specs.Prelude.{Bool, true, false, not, cond, ◌&&◌, List, [], ◌∷◌, map, ℕ, zero, suc, ◌+◌, ◌-◌, ◌*◌, eqb, length, get_or}
use Rattle.std.proofs.Math.Option.{Option, none, some}
use Rattle.aiger.specs.Lists.{every, every_below, tally, upto}
use Rattle.aiger.specs.Bits.{odd, bit}
use Rattle.aiger.specs.Circuit.{Circuit, Latch, Gate, var, gate_of}

-- the value of literal l, where w gives the values of the variables
abbrev pub value : (ℕ → Bool) → ℕ → Bool
value w l = cond (odd l) (not (w (var l))) (w (var l))

-- Clause 2.6: a gate has the value of the conjunction of its operands in the same frame; what is no gate has the value b
unfoldable pub conjunction : Option Gate → Bool → (ℕ → Bool) → Bool
conjunction none b u = b
conjunction (some g) b u = value u g.left && value u g.right

-- The values of all variables, where w gives those of inputs and latches, up to n gates deep:
-- - with no gate left, variable v has the value that w gives;
-- - what is no gate has that value too;
-- - a gate has the conjunction of its operands, looked up with one gate less
unfoldable pub through : List Gate → (ℕ → Bool) → ℕ → ℕ → Bool
through gs w zero v = w v
through gs w (suc n) v = conjunction (gate_of gs v) (w v) (through gs w n)

-- the bit that stands in bs where v's literal stands in ls, else d
unfoldable pub look : List ℕ → List Bool → ℕ → Bool → Bool
look [] bs v d = d
look (l ∷ ls) [] v d = d
look (l ∷ ls) (b ∷ bs) v d = cond (eqb (var l) v) b (look ls bs v d)

-- the values of inputs and latches in a frame; variable 0 is false (Clause 1.8)
unfoldable pub leaf : Circuit → List Bool → List Bool → ℕ → Bool
leaf c state row v = look c.inputs row v (look (map (λ l. l.lit) c.latches) state v false)

-- the values of all variables in a frame with these latches and inputs
unfoldable pub frame : Circuit → List Bool → List Bool → ℕ → Bool
frame c state row = through c.gates (leaf c state row) (length c.gates)

-- a run: the latches at the start, and the inputs frame by frame
pub record Run : Type 0 where
  pub start : List Bool
  pub rows : List (List Bool)

-- Clause 2.2: the latches of the next frame have the values of their next literals in this one
unfoldable pub state : Circuit → Run → ℕ → List Bool
state c r zero = r.start
state c r (suc t) = map (λ l. value (frame c (state c r t) (get_or r.rows t [])) l.next) c.latches

-- the value of a literal in frame t
unfoldable pub value_at : Circuit → Run → ℕ → ℕ → Bool
value_at c r t l = value (frame c (state c r t) (get_or r.rows t [])) l

-- frame t breaks no constraint
unfoldable pub constrained : Circuit → Run → ℕ → Bool
constrained c r t = every (value_at c r t) c.constraints

-- Clauses 2.5 and 12.4: every constraint is true in each of the frames 0 to t
unfoldable pub allowed : Circuit → Run → ℕ → Bool
allowed c r t = every_below (suc t) (constrained c r)

-- Clause 2.5: a hit is allowed and makes bad line b true
unfoldable pub hits : Circuit → ℕ → Run → ℕ → Bool
hits c b r t = allowed c r t && value_at c r t (get_or c.bads b 0)

-- a latch with a free start
abbrev pub is_free : Latch → Bool
is_free l = eqb l.reset l.lit

-- Clause 2.3: U, the number of free starts
unfoldable pub free_starts : Circuit → ℕ
free_starts c = tally is_free c.latches

-- A sequence of frame t is a number x below 2 to the power n, so that counting order is the order of numbers.
-- Clause 2.4: the first free bit is the most significant one: free bit j of x
abbrev pub free_bit : ℕ → ℕ → ℕ → Bool
free_bit n x j = bit x (n - (j + 1))

-- A space of sequences: how many free bits the start has and how many each frame has, and what they say. `start_of` gives the latches'
-- start values where free bit j of the start has the value f j, `row_of` a frame's inputs where free bit j of that frame has it.
pub record Space : Type 0 where
  pub free : ℕ
  pub width : ℕ
  pub start_of : (ℕ → Bool) → List Bool
  pub row_of : (ℕ → Bool) → List Bool

-- the number of free bits at frame t: those of the start, then those of each frame from 0 to t
abbrev pub bits_in : Space → ℕ → ℕ
bits_in s t = s.free + s.width * (t + 1)

-- the run of sequence x of frame t
abbrev pub run_in : Space → ℕ → ℕ → Run
run_in s t x =
    let f = free_bit (bits_in s t) x in
    record { start = s.start_of f; rows = map (λ u. s.row_of (λ i. f (s.free + s.width * u + i))) (upto (t + 1)) }

-- Clause 2.6: a latch starts with its reset, or with its free bit: the latches' start values, free bits from the j-th on
unfoldable pub starts : (ℕ → Bool) → ℕ → List Latch → List Bool
starts free j [] = []
starts free j (l ∷ ls) = cond (is_free l) (free j ∷ starts free (j + 1) ls) (eqb l.reset 1 ∷ starts free j ls)

-- Clause 2.3: the space of a circuit, free latches first, then the inputs frame by frame
abbrev pub space : Circuit → Space
space c =
    record {
      free = free_starts c;
      width = length c.inputs;
      start_of = λ f. starts f 0 c.latches;
      row_of = λ f. map f (upto (length c.inputs));
    }

-- Clause 2.3: n, the number of free bits of frame t
unfoldable pub free_bits : Circuit → ℕ → ℕ
free_bits c t = bits_in (space c) t

-- the run of sequence x of frame t
unfoldable pub run : Circuit → ℕ → ℕ → Run
run c t x = run_in (space c) t x

-- Clauses 2.9 and 12.4: the size for bound k
unfoldable pub size : Circuit → ℕ → ℕ
size c k = (k + 1) * (length c.inputs + length c.gates + length c.constraints + 1) + free_starts c + 1
