-- The runs of a block of completions, and what the functions do to their words. Assumes nothing.
use Rattle.std.specs.Prelude.{◌≡◌, Bool, false, cond, not, List, [], ℕ, ◌+◌, ◌*◌, ◌≤◌, ◌<◌, eqb, length, get_or, take}
use Rattle.std.proofs.Math.Option.{some}
use Rattle.aiger.specs.Circuit.{Circuit, var}
use Rattle.aiger.specs.Frames.{Run}
use Rattle.aiger.specs.Witness.{read_run}
use Rattle.completions.specs.Either.{eithers, completion, shows}
use Rattle.layout.specs.Words.{word, circuit_in}
use Rattle.layout.specs.declared.Layout.{Layout}
use Rattle.meaning.specs.Frame.{input_at, latch_at, gate_at, Valuation}
use Rattle.frames.specs.Lanes.{lane, Apart, Ready}
use Rattle.witness.specs.Line.{values}
use Rattle.completions.specs.Forms.{SameForm}
use Rattle.blocks.specs.declared.Column.{Column}
use Rattle.blocks.specs.declared.Instance.{Instance}

-- variable i of a column
abbrev pub column_var : List ℕ → Column → ℕ → ℕ
column_var m column i = var (word m (column.first + column.step * i))

-- bit i of the line at `at` in completion p of a block
abbrev pub line_bit : List ℕ → ℕ → ℕ → ℕ → ℕ → Bool
line_bit text at block i p = eqb (get_or (completion (block * 64 + p) text) (at + i) 0) 49

-- a line of bits at `at` for the variables of a column, with the byte that ends it; `seen` x stand before it
pub record Line (m : List ℕ) (column : Column) (text : List ℕ) (at seen size : ℕ) : Type 0 where
  pub words : (i : ℕ) → i < column.count → column.first + column.step * i < length m
  pub apart : Apart (column_var m column) column.count size
  pub inside : at + column.count < length text
  pub before : seen ≡ eithers (take at text)

-- w gives the latches these start values
pub record Latches (c : Circuit) (start : List Bool) (w : ℕ → Bool) : Type 0 where
  pub size : length start ≡ length c.latches
  pub latch : (j : ℕ) → j < length c.latches → w (var (latch_at c j).lit) ≡ get_or start j false

-- in each completion of a block the latches have their start values, and the constant is 0; the other words are as before
pub record Started (c : Circuit) (body : List ℕ) (block : ℕ) (before words : List ℕ) : Type 0 where
  pub constant : (p : ℕ) → lane words p 0 ≡ false
  pub latches : (p : ℕ) → p < 64 → Latches c (values (completion (block * 64 + p) body) 0 (length c.latches)) (lane words p)
  pub others : (v : ℕ) → (v ≡ 0 → ⊥) → ((j : ℕ) → j < length c.latches → var (latch_at c j).lit ≡ v → ⊥)
      → get_or words v 0 ≡ get_or before v 0

-- the values of a frame in each completion of a block: the row stands at `at`, and the latches have their values before; what is no
-- input's and no gate's variable keeps its value
pub record FrameGiven (c : Circuit) (text : List ℕ) (at block : ℕ) (before after : List ℕ) : Type 0 where
  pub valued : (p : ℕ) → p < 64 → (st : List Bool) → lane before p 0 ≡ false
      → ((j : ℕ) → j < length c.latches → lane before p (var (latch_at c j).lit) ≡ get_or st j false)
      → Valuation c (values (completion (block * 64 + p) text) at (length c.inputs)) st (lane after p)
  pub others : (p : ℕ) → p < 64 → (v : ℕ) → ((i : ℕ) → i < length c.inputs → var (input_at c i) ≡ v → ⊥)
      → ((k : ℕ) → k < length c.gates → var (gate_at c k).lit ≡ v → ⊥) → lane after p v ≡ lane before p v

-- r is the run whose start values stand at the front of a body, and its frames after them
pub record RunAt (c : Circuit) (body : List ℕ) (frames : ℕ) (r : Run) : Type 0 where
  pub start_is : r.start ≡ values body 0 (length c.latches)
  pub row_is : (u : ℕ) → u < frames
      → get_or r.rows u [] ≡ values body (length c.latches + 1 + u * (length c.inputs + 1)) (length c.inputs)
  pub frames-are : length r.rows ≡ frames

-- a body that was read, as one of bad line b
pub record BodyRead (c : Circuit) (b frames : ℕ) (body : List ℕ) : Type 0 where
  pub run : Run
  pub reads : read_run c b body ≡ some (record { bad = b; run = run })
  pub run_at : RunAt c body frames run

-- the body has this form in every text of the same form, so in every completion, and holds so many x
pub record Fits (c : Circuit) (b frames count : ℕ) (body : List ℕ) : Type 0 where
  pub form : (u : List ℕ) → SameForm body u → BodyRead c b frames u
  pub some-frame : 1 ≤ frames
  pub inside : length c.latches + 1 + frames * (length c.inputs + 1) ≤ length body
  pub eithers-are : count ≡ eithers body
  pub few : count ≤ 16

-- a question that can be asked of a body: the circuit is ready to be evaluated with `count` words, its bad line is there, and the body
-- was read
pub record Posed (m order : List ℕ) (w : Instance) (body : List ℕ) (count : ℕ) : Type 0 where
  pub ready : Ready m w.layout order count
  pub bad : w.q.bad < word m 5
  pub fits : Fits (circuit_in m) w.q.bad w.q.frames w.q.eithers body

-- whether a body shows a hit, or does not where that is wanted
abbrev pub wanted : Circuit → ℕ → Bool → List ℕ → Bool
wanted c b want u = cond want (shows c b u) (not (shows c b u))
