-- From what the operations answer on a witness to what is printed. Assumes nothing.
use mathlib.Core.Path.{◌≡◌, ap}
use mathlib.Core.Bool.{Bool}
use mathlib.Core.List.{List, [], ◌∷◌}
use Prim.Native.Nat.{ℕ, ◌≤◌}
use native.Mathlib.Omega.{arith}
use lib.Dec.{leb}
use lib.ListN.{length, drop, length-append}
use Rattle.aiger.specs.Load.{gives}
use Rattle.aiger.specs.Operations.{Operated, judge, need}
use Rattle.completions.specs.Either.{read_either}
use Rattle.completions.specs.Operations.{either_tests}
use Rattle.limits.proofs.Refusals.{judge-first, length-enough}
use Rattle.replies.specs.declared.Report.{Report}
use Rattle.replies.proofs.Putting.{fronts-inside}
use Rattle.call_forms.specs.Forms.{Tested, UserWidened, UserWaveformed}
use Rattle.waveform.specs.Waveform.{waveform_of}
use Rattle.panel_lines.specs.declared.View.{View}
use Rattle.panel_lines.specs.declared.View.TheVariants.{Replay, Widen, Waveform}
use Rattle.panel_files.specs.Files.{Viewed}

-- what is printed lies in the output
pub widen_inside : (m pins : List ℕ) (user : ℕ) (witness out : List ℕ) {out' : List ℕ} {n : ℕ} → length out' ≡ length out
    → UserWidened m pins user witness out (gives n) out' → n ≤ length out'
widen_inside m pins user witness out l (Tested.passes k (Operated.acts c h j e)) =
    let p = (judge-first _ _ (judge-first _ _ j).1).1 in
    omega (arith, e.count, length-enough (length witness) (length out) p)

pub waveform-inside : (m : List ℕ) (user : ℕ) (only : Bool) (witness out : List ℕ) {out' : List ℕ} {n : ℕ} → UserWaveformed m user only witness out (gives n) out'
    → n ≤ length out'
waveform-inside m user only witness out (Tested.passes k (Operated.acts c h j e)) =
    let w = waveform_of c only (read_either c witness) in
    omega (arith, e.count, ap length e.shows, length-append w (drop (length w) out))

-- what is to be printed lies within line and output
pub view-inside : (v : View) (user : ℕ) (witness m pins out line : List ℕ) (r : Report) (out' line' : List ℕ) → Viewed v user witness m pins out line r out' line'
    → (r.line ≤ length line') × (r.out ≤ length out')
view-inside Replay user witness m pins out line r out' line' x = (fronts-inside x.line-is, x.inside)
view-inside Widen user witness m pins out line r out' line' x = (fronts-inside x.line-is, x.inside)
view-inside (Waveform only) user witness m pins out line r out' line' x = (fronts-inside x.line-is, x.inside)
