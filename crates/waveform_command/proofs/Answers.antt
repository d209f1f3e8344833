-- From what the operation waveform answers to what is printed; number 13 is never given. Assumes nothing.
use mathlib.Core.Path.{◌≡◌, refl, sym, ap, ◌∙◌}
use mathlib.Core.Bool.{Bool}
use mathlib.Core.List.{List}
use Prim.Native.Nat.{ℕ}
use lib.ListN.{length}
use Rattle.aiger.specs.Circuit.{Circuit}
use Rattle.aiger.specs.Load.{Answer, refused, gives, load}
use Rattle.aiger.specs.Memory.{Holds}
use Rattle.layout.specs.Words.{circuit_in}
use Rattle.roundtrip.proofs.Holding.{held}
use Rattle.roundtrip.proofs.Determined.{acted, refused_as}
use Rattle.load_laws.proofs.Stored.{Stored}
use Rattle.replies.specs.Refusal.{refusal_text}
use Rattle.replies.specs.Reply.{Fronts, Leaves}
use Rattle.replies.specs.declared.Report.{Report}
use Rattle.replies.proofs.Putting.{fronts-none, refused-leaves}
use Rattle.waveform.specs.Waveform.{Waveformed}
use Rattle.waveform_command.specs.Texts.{shown_reply, waveform_reply}

-- on a loaded circuit
pub refusal-left : {m text out out' : List ℕ} {c : Circuit} {only : Bool} {a : Answer ℕ} {n : ℕ} {line : List ℕ} {r : Report} {line' : List ℕ}
    → Holds m c → Waveformed m only text out a out' → a ≡ refused n → Fronts (refusal_text n) line r.line line' → r.out ≡ 0
    → Leaves (shown_reply c only text (length out)) line out r line' out'
unfolding shown_reply
refusal-left {out = out} {n = n} h f e p q =
    let x = refused_as h f e in
    rw (x.0, x.1) (refused-leaves n out p q)

pub waveform-shown : {m text out out' : List ℕ} {c : Circuit} {only : Bool} {a : Answer ℕ} {n : ℕ} → Holds m c → Waveformed m only text out a out'
    → (line : List ℕ) → a ≡ gives n → Leaves (shown_reply c only text (length out)) line out (record { line = 0; out = n }) line out'
unfolding shown_reply
waveform-shown h f line e =
    let x = acted h f e in
    rw x.0 (record { line-is = fronts-none line; out-is = record { long = x.1.count; contents = x.1.shows } })

-- a file that is not loaded, and one that is
module _ (m f : List ℕ) (room : length m ≡ 33032) (only : Bool) (text : List ℕ) where
  pub waveform-refusal : {line : List ℕ} (out : List ℕ) {r : Report} {line' : List ℕ} {n : ℕ} → load (length m) f ≡ refused n
      → Fronts (refusal_text n) line r.line line' → r.out ≡ 0 → Leaves (waveform_reply f only text) line out r line' out
  unfolding waveform_reply
  waveform-refusal out {n = n} e p q = rw (rw room at e) (refused-leaves n out p q)

  pub waveform-text : {m' : List ℕ} (s : Stored m f m') → shown_reply (circuit_in m') only text 1572928 ≡ waveform_reply f only text
  unfolding waveform_reply
  waveform-text {m'} s =
      let same : circuit_in m' ≡ s.circuit = held s.holds in
      rw (rw room at s.accepted, same)
