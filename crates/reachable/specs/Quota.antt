-- How many states a search by layers may meet. It depends on circuit, bad line, the first frame of which nothing is known, limit and frame
-- alone, so that a larger bound or budget continues the same search. Assumes nothing.
use Rattle.std.specs.Prelude.{cond, ◌&&◌, ℕ, ◌+◌, ◌-◌, ◌*◌, ◌/◌, ◌^◌, ◌≤◌, max, min, leb, length}
use Rattle.aiger.specs.Frames.{free_starts, size}
use Rattle.influence.specs.Part.{Part}
use Rattle.reachable.specs.declared.Limit.{Limit}

-- how many words a state has: 32 latches that are kept a word
abbrev pub width : Part → ℕ
width c = (length c.kept + 31) / 32

-- the work for one state: all gates and latches for each word of 64 rows, and for each row the latches that are kept and a look into the
-- table
unfoldable pub effort : Part → ℕ
effort c =
    (length c.circuit.gates + length c.circuit.latches + 1) * 2 ^ (length c.circuit.inputs - 6)
    + (length c.kept + 8) * 2 ^ length c.circuit.inputs

-- the size that counts at frame t: that of the first frame of which nothing is known, while it is later
abbrev pub size_by : Part → ℕ → ℕ → ℕ
size_by c first t = size c.circuit (max t first)

-- the work that a limit allows by a frame of a size
abbrev pub work_of : Limit → ℕ → ℕ
work_of limit s = limit.base + limit.unit * s

-- Up to 16 inputs and 16 free starts: as many states as fit in 16 words a unit of size, four words and the state each, and as the work for
-- them all is within the limit; else none.
unfoldable pub quota : Part → ℕ → Limit → ℕ → ℕ
quota c first limit t =
    cond (leb (length c.circuit.inputs) 16 && leb (free_starts c.circuit) 16)
    (min (16 * size_by c first t / (width c + 4)) (work_of limit (size_by c first t) / effort c)) 0

-- a limit whose work is a number of 64 bits at every frame
pub record Moderate (limit : Limit) : Type 0 where
  pub base-small : limit.base ≤ 4611686018427387904
  pub unit-small : limit.unit ≤ 4294967296
