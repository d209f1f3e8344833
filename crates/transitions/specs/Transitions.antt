-- A circuit as a machine: its states and rows as numbers. Assumes nothing.
use Rattle.std.specs.Prelude.{◌≡◌, Bool, false, cond, ◌&&◌, List, [], ◌∷◌, map, ℕ, suc, ◌+◌, ◌-◌, ◌*◌, ◌^◌, eqb, ltb, length, get_or}
use Rattle.std.proofs.Math.Option.{Option, none, some}
use Rattle.aiger.specs.Lists.{upto}
use Rattle.aiger.specs.Bits.{bit}
use Rattle.aiger.specs.Circuit.{Circuit}
use Rattle.aiger.specs.Frames.{value, frame, free_starts, free_bit, space}
use Rattle.meaning.specs.Frame.{latch_at, Valuation}
use Rattle.frames.specs.Lanes.{constrained_in, hit_in}
use Rattle.machine.specs.Machine.{Machine}
use Rattle.influence.specs.Part.{Part, Agree}

-- bits as a number, the first one last
unfoldable pub number_of : List Bool → ℕ
number_of [] = 0
number_of (b ∷ bs) = cond b 1 0 + 2 * number_of bs

-- where latch j stands among those that are kept, or their number
unfoldable pub rank_in : List ℕ → ℕ → ℕ
rank_in [] j = 0
rank_in (k ∷ ks) j = cond (eqb k j) 0 (suc (rank_in ks j))

-- all latches from the number of a state: its bit i is the i-th latch that is kept
abbrev pub latches_of : Part → ℕ → List Bool
latches_of c s = map (λ j. bit s (rank_in c.kept j)) (upto (length c.circuit.latches))

-- the number of a state, from all latches
abbrev pub packed : Part → List Bool → ℕ
packed c bs = number_of (map (λ j. get_or bs j false) c.kept)

-- the inputs of row r of a frame: rows count as sequences do
unfoldable pub row_of : Circuit → ℕ → List Bool
row_of c r = (space c).row_of (free_bit (length c.inputs) r)

-- the values of all variables in state s with row r
unfoldable pub values_in : Part → ℕ → ℕ → ℕ → Bool
values_in c s r = frame c.circuit (latches_of c s) (row_of c.circuit r)

-- w are such values, whatever the latches are that are not kept
pub record ValuedIn (c : Part) (s r : ℕ) (w : ℕ → Bool) : Type 0 where
  pub latches : List Bool
  pub whole : length latches ≡ length c.circuit.latches
  pub agree : Agree c latches (latches_of c s)
  pub valuation : Valuation c.circuit (row_of c.circuit r) latches w

-- the state of start place y
unfoldable pub start_number : Part → ℕ → ℕ
start_number c y = packed c ((space c.circuit).start_of (free_bit (free_starts c.circuit) y))

-- the state after state s with row r
unfoldable pub next_number : Part → ℕ → ℕ → ℕ
next_number c s r = number_of (map (λ j. value (values_in c s r) (latch_at c.circuit j).next) c.kept)

-- the same, or none where the row breaks a constraint
unfoldable pub next_in : Part → ℕ → ℕ → Option ℕ
next_in c s r = cond (constrained_in c.circuit (values_in c s r)) (some (next_number c s r)) none

-- The machine of a circuit and bad line b. Rows beyond the last, which fill the last word of 64, lead nowhere.
unfoldable pub machine_of : Part → ℕ → Machine
machine_of c b =
    record {
      starts = 2 ^ free_starts c.circuit;
      rows = 2 ^ length c.circuit.inputs;
      slots = 64 * 2 ^ (length c.circuit.inputs - 6);
      start = start_number c;
      step = λ s r. cond (ltb r (2 ^ length c.circuit.inputs)) (next_in c s r) none;
      hit = λ s r. ltb r (2 ^ length c.circuit.inputs) && hit_in c.circuit b (values_in c s r);
    }
