-- What the private functions do: the words of a block of 64 sequences, and the first number that passes. Assumes nothing.
use Rattle.std.specs.Prelude.{◌≡◌, Bool, ◌&&◌, List, ℕ, ◌+◌, ◌*◌, ◌≤◌, ◌<◌, T, leb, length, get_or}
use Rattle.aiger.specs.Bits.{bit}
use Rattle.aiger.specs.Circuit.{Circuit, var}
use Rattle.aiger.specs.Frames.{free_bit}
use Rattle.meaning.specs.Frame.{input_at, latch_at}
use Rattle.frames.specs.Lanes.{lane, Evaluated, Advanced, constrained_in}
use Rattle.frames.specs.Starts.{start_bit}

-- after has at place j, for each j below n, a word with value j p in run p; the other words are as before
pub record Given (place : ℕ → ℕ) (value : ℕ → ℕ → Bool) (n : ℕ) (before after : List ℕ) : Type 0 where
  pub new : (j : ℕ) → j < n → (p : ℕ) → p < 64 → lane after p (place j) ≡ value j p
  pub others : (v : ℕ) → ((j : ℕ) → j < n → place j ≡ v → ⊥) → get_or after v 0 ≡ get_or before v 0

-- the inputs have the free bits from top - 1 down; the latches have their start values
abbrev pub InputsGiven : Circuit → ℕ → ℕ → List ℕ → List ℕ → Type 0
InputsGiven c top block before after =
    Given (λ i. var (input_at c i)) (λ i p. free_bit top (block * 64 + p) i) (length c.inputs) before after

abbrev pub StartsGiven : Circuit → ℕ → ℕ → List ℕ → List ℕ → Type 0
StartsGiven c n block before after =
    Given (λ j. var (latch_at c j).lit) (λ j p. start_bit c n (block * 64 + p) j) (length c.latches) before after

-- `left` are those of the runs `from` in which the constraints hold, where the words have the values of a frame
abbrev pub Constrained : Circuit → ℕ → List ℕ → ℕ → Type 0
Constrained c from values left = (p : ℕ) → p < 64 → bit left p ≡ (bit from p && constrained_in c (lane values p))

-- what the words of frame 0 come from, and in which runs its constraints hold
pub record FirstFrame (c : Circuit) (n top block : ℕ) (values : List ℕ) (left : ℕ) : Type 0 where
  pub cleared : List ℕ
  pub started : List ℕ
  pub filled : List ℕ
  pub constant : get_or cleared 0 0 ≡ 0
  pub starts : StartsGiven c n block cleared started
  pub inputs : InputsGiven c top block started filled
  pub evaluated : Evaluated c filled values
  pub constrained : Constrained c 18446744073709551615 values left

-- what the words of the frame after `before` come from, and in which of the runs `from` its constraints hold
pub record NextFrame (c : Circuit) (top block from : ℕ) (before values : List ℕ) (left : ℕ) : Type 0 where
  pub moved : List ℕ
  pub filled : List ℕ
  pub advanced : Advanced c before moved
  pub inputs : InputsGiven c top block moved filled
  pub evaluated : Evaluated c filled values
  pub constrained : Constrained c from values left

-- a word of a block of 64 places without the places before lo
abbrev pub Onward : ℕ → ℕ → ℕ → ℕ → Type 0
Onward hits block lo r = (p : ℕ) → p < 64 → bit r p ≡ (leb lo (block * 64 + p) && bit hits p)

-- r is the least number below total that passes, or total
pub record First (passes : ℕ → Bool) (total r : ℕ) : Type 0 where
  pub within : r ≤ total
  pub before : (x : ℕ) → x < r → T (passes x) → ⊥
  pub here : r < total → T (passes r)
