-- What reading a witness answers, in each text of the same form. Assumes nothing.
use Rattle.std.specs.Prelude.{◌≡◌, Bool, List, [], ℕ, ◌+◌, ◌*◌, ◌≤◌, ◌<◌, length, get_or, drop}
use Rattle.std.specs.Prelude as code
use Rattle.std.proofs.Math.Option.{Option, none, some}
use Rattle.aiger.specs.Circuit.{Circuit}
use Rattle.aiger.specs.Load.{refused}
use Rattle.aiger.specs.Witness.{read_run, bit_rows}
use Rattle.aiger.specs.Operations.{judge}
use Rattle.completions.specs.Either.{read_either}
use Rattle.completions.specs.Operations.{either_tests}
use Rattle.layout.specs.Words.{circuit_in}
use Rattle.layout.specs.declared.Layout.{Layout}
use Rattle.witness.specs.Line.{values}
use Rattle.blocks.specs.Runs.{BodyRead, Fits}
use Rattle.blocks.specs.declared.Question.{Question}
use Rattle.blocks.specs.declared.Instance.{Instance}
use Rattle.circuit.specs.Held.{HeldIs, OrderLeft}
use Rattle.replay.specs.declared.Rows.{Rows}
use Rattle.replay.specs.declared.Rows.TheVariants.{Read, Malformed}
use Rattle.replay.specs.declared.Reading.{Reading}
use Rattle.replay.specs.declared.Reading.TheVariants as reading

-- the counts that reading a witness uses
pub record CountsOf (c : Circuit) (layout : Layout) : Type 0 where
  pub latches : layout.l ≡ length c.latches
  pub inputs : layout.i ≡ length c.inputs
  pub bads : layout.b ≡ length c.bads

-- r rows of count bits stand at `at`, and the line that ends the text after them
pub record RowsAt (text : List ℕ) (at count r : ℕ) : Type 0 where
  pub rows : List (List Bool)
  pub read : bit_rows count 256 (drop at text) ≡ some rows
  pub size : length rows ≡ r
  pub row : (u : ℕ) → u < r → get_or rows u [] ≡ values text (at + u * (count + 1)) count
  pub inside : at + r * (count + 1) ≤ length text

-- how many rows stand at `at`
pub data Counted (text : List ℕ) (at count : ℕ) : Rows → Type 0 where
  malformed : bit_rows count 256 (drop at text) ≡ none → Counted text at count Malformed
  well_formed : {r : ℕ} → RowsAt text at count r → Counted text at count (Read r)

-- what is read of a body: a run of so many frames for each circuit of l latches and i inputs, and each of its bad lines
pub record Framed (l i frames : ℕ) (body : List ℕ) : Type 0 where
  pub some-frame : 1 ≤ frames
  pub inside : l + 1 + frames * (i + 1) ≤ length body
  pub reads : (c : Circuit) → l ≡ length c.latches → i ≡ length c.inputs → (b : ℕ) → b < length c.bads → BodyRead c b frames body

abbrev pub FramesRead : ℕ → ℕ → List ℕ → Rows → Type 0
FramesRead l i body (Read frames) = Framed l i frames body
FramesRead l i body Malformed = (c : Circuit) → l ≡ length c.latches → i ≡ length c.inputs → (b : ℕ) → read_run c b body ≡ none

-- a witness that was read: its body begins at `start`
pub record Placed (c : Circuit) (text : List ℕ) (start : ℕ) (q : Question) : Type 0 where
  pub inside : start ≤ length text
  pub bad : q.bad < length c.bads
  pub reads : read_either c text ≡ some (q.bad, drop start text)
  pub fits : Fits c q.bad q.frames q.eithers (drop start text)

-- what is read of a text as a witness of a circuit with this layout
abbrev pub WitnessRead : Circuit → Layout → List ℕ → Reading → Type 0
WitnessRead c layout text (reading.Read start w) = (w.layout ≡ layout) × Placed c text start w.q
WitnessRead c layout text (reading.Refused n) = judge (either_tests c text) ≡ refused n

-- the same of a circuit that a memory holds; 9 where it holds none
abbrev pub ReadIn : List ℕ → List ℕ → code.Option Layout → Reading → Type 0
ReadIn m text (code.Some layout) r = WitnessRead (circuit_in m) layout text r
ReadIn m text code.None r = r ≡ reading.Refused 9

-- what the memory holds, the order of evaluation that is left, and what is read
pub record HeldRead (m text old order : List ℕ) (r : Reading) : Type 0 where
  pub held : code.Option Layout
  pub held-is : HeldIs m order held
  pub leaves : OrderLeft m old order held
  pub read : ReadIn m text held r
