-- Clauses 13.1 to 13.6: the run of a witness as the text of a value change dump, and the contract of the operation waveform. Assumes
-- nothing.
use Rattle.std.specs.Prelude.{◌≡◌, Bool, false, cond, List, [], ◌∷◌, ◌++◌, ℕ, ◌^◌, leb, length}
use Rattle.std.proofs.Math.Option.{Option, none, some}
use Rattle.aiger.specs.Circuit.{Circuit}
use Rattle.aiger.specs.Load.{Answer}
use Rattle.aiger.specs.Frames.{value_at}
use Rattle.aiger.specs.Witness.{read_run}
use Rattle.aiger.specs.Operations.{front, Test, need, Operated}
use Rattle.completions.specs.Either.{eithers, completion, read_either}
use Rattle.completions.specs.Operations.{either_tests}
use Rattle.vcd.specs.Text.{Level, dump}
use Rattle.vcd.specs.Wires.{literals, name_at, literal_at}
use Rattle.levels.specs.Levels.{level_over}

-- whether wire k is 1 in frame t of the run that w shows, the lines after line `b` without `x`
unfoldable pub is_high : Circuit → ℕ → ℕ → ℕ → List ℕ → Bool
is_high c b t k w = elim (read_run c b w) [ none ↦ false | some x ↦ value_at c x.run t (literal_at c k) ]

-- Clause 13.3: the level of wire k in frame t, over all completions of the lines after line `b`
unfoldable pub level_at : Circuit → ℕ → List ℕ → ℕ → ℕ → Level
level_at c b body t k = level_over (2 ^ eithers body) (λ v. is_high c b t k (completion v body))

-- how many frames there are, the same in all completions
unfoldable pub frame_count : Circuit → ℕ → List ℕ → ℕ
frame_count c b body = elim (read_run c b (completion 0 body)) [ none ↦ 0 | some x ↦ length x.run.rows ]

-- Clause 13.5: how many wires are shown: all, or the inputs alone
abbrev pub wire_count : Circuit → Bool → ℕ
wire_count c only = cond only (length c.inputs) (length (literals c))

-- Clause 13.2: the text for a witness, its bad line and the lines after line `b`: a sample for each of its frames
unfoldable pub waveform : Circuit → Bool → ℕ × List ℕ → List ℕ
waveform c only h = dump (name_at c) (wire_count c only) (level_at c h.0 h.1) (frame_count c h.0 h.1)

-- the text for a witness that was read; none where there is none
unfoldable pub waveform_of : Circuit → Bool → Option (ℕ × List ℕ) → List ℕ
waveform_of c only none = []
waveform_of c only (some h) = waveform c only h

-- Clause 13.6: the tests 14, 16 and 13, where the output has `len` bytes
abbrev pub waveform_tests : Circuit → Bool → List ℕ → ℕ → List Test
waveform_tests c only text len = either_tests c text ++ (need 13 (leb (length (waveform_of c only (read_either c text))) len) ∷ [])

-- the text at the front of the output, and as the answer its length
pub record WaveformEffect (only : Bool) (text out : List ℕ) (c : Circuit) (n : ℕ) (left : List ℕ) : Type 0 where
  pub count : n ≡ length (waveform_of c only (read_either c text))
  pub shows : left ≡ front (waveform_of c only (read_either c text)) out

-- the operation waveform: circuit memory m and the witness are lent to be read only, the output to be written
abbrev pub Waveformed : List ℕ → Bool → List ℕ → List ℕ → Answer ℕ → List ℕ → Type 0
Waveformed m only text out a out' =
    Operated m (λ c. waveform_tests c only text (length out)) out (WaveformEffect only text out) a out'
