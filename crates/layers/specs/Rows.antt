-- The rows of a block, met one after the other. Assumes nothing.
use Rattle.std.specs.Prelude.{◌≡◌, true, false, cond, ◌⊎◌, List, ℕ, zero, suc, ◌+◌, ◌*◌, ◌^◌, ◌≤◌, ◌<◌, min, T, length, get_or}
use Rattle.std.proofs.Math.Option.{Option, none, some}
use Rattle.aiger.specs.Circuit.{Circuit}
use Rattle.frames.specs.Lanes.{lane, hit_in, constrained_in}
use Rattle.machine.specs.Layers.{Entry, meet}
use Rattle.aiger.specs.Bits.{bit}
use Rattle.states.specs.declared.Table.{Table}
use Rattle.states.specs.Table.{Kept, Fits, Meets}
use Rattle.states.specs.Trace.{Trace, Holds}
use Rattle.influence.specs.Part.{Part, Closed}
use Rattle.transitions.specs.Transitions.{values_in, ValuedIn, next_in}

-- where row p leads: to state numbers p, or nowhere where it is not among the rows `left`
abbrev pub leading : ℕ → (ℕ → ℕ) → ℕ → Option ℕ
leading left numbers p = cond (bit left p) (some (numbers p)) none

-- `kept` latches are `width` words of 32, the fewest that they fit in, and there are words for each of them
pub record Fitting (kept width room : ℕ) : Type 0 where
  pub enough : kept ≤ 32 * width
  pub fewest : 32 * width < kept + 32
  pub most : width ≤ 32
  pub each : kept ≤ room

-- the states `next p` that there are, after prefixes place p, for p below n
unfoldable pub met_rows : (ℕ → Option ℕ) → (ℕ → ℕ) → ℕ → List Entry → List Entry
met_rows next place zero es = es
met_rows next place (suc n) es = meet (next n) (place n) (met_rows next place n es)

-- n rows from `first` on of record e, which lead to the states `next`, are met: what the table holds after
pub record RowsMet (next : ℕ → Option ℕ) (p : Table) (quota count e first n : ℕ) (r : List ℕ) (count' : ℕ) (r' : List ℕ) : Type 0 where
  pub longer : count ≤ count'
  pub words : Kept p.width count r r'
  pub fits : Fits p quota count' r'
  pub holds :
      (rows t lo x : ℕ) (es : List Entry) → Holds rows (suc t) lo p quota count r es → e < count → first + n ≤ rows
      → Trace rows p.width r t e x → Holds rows (suc t) lo p quota count' r' (met_rows next (λ q. x * rows + (first + q)) n es)

-- What becomes of the number of records, the rows that are left and the table at row k, which is left: its state is met, and with it those
-- rows are left out that lead there too.
pub record RowStep (numbers : ℕ → ℕ) (p : Table) (quota e row k met left : ℕ) (r : List ℕ) (met' left' : ℕ) (r' : List ℕ) : Type 0 where
  pub meets : Meets p quota met (numbers k) e row r met' r'
  pub dropped : (q : ℕ) → q < 64 → bit left' q ≡ false → (bit left q ≡ false) ⊎ (numbers q ≡ numbers k)
  pub within : (q : ℕ) → bit left' q ≡ true → bit left q ≡ true
  pub gone : bit left' k ≡ false

-- the words are the values of state s with the rows of a block
abbrev pub Valued : Part → ℕ → ℕ → List ℕ → Type 0
Valued c s block values = (p : ℕ) → p < 64 → ValuedIn c s (block * 64 + p) (lane values p)

-- r is the first of the 64 rows of a block with which state s hits, or 64
pub record FirstRow (c : Part) (b s block : ℕ) (values : List ℕ) (r : ℕ) : Type 0 where
  pub within : r ≤ 64
  pub before : (p : ℕ) → p < r → T (hit_in c.circuit b (values_in c s (block * 64 + p))) → ⊥
  pub here : r < 64 → T (hit_in c.circuit b (values_in c s (block * 64 + r)))
  pub valued : Valued c s block values

-- `allowed` are the rows of a block that break no constraint, by their values
abbrev pub Allowed : Circuit → List ℕ → ℕ → Type 0
Allowed c values allowed = (p : ℕ) → p < 64 → bit allowed p ≡ constrained_in c (lane values p)

-- the rows of a block of record e are met, whatever state the values are of and whatever bad line the latches that are kept decide
abbrev pub BlockMet : Part → List ℕ → Table → ℕ → ℕ → ℕ → ℕ → List ℕ → ℕ → List ℕ → Type 0
BlockMet c values p quota count e block r count' r' =
    (b s : ℕ) → Closed c b → Valued c s block values
    → RowsMet (λ q. next_in c s (block * 64 + q)) p quota count e (64 * block) (min 64 (2 ^ length c.circuit.inputs)) r count' r'
