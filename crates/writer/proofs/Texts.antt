-- The bytes of each form are those of its definition, and fit where an output has 65,536 bytes. Clause 12.14. Assumes nothing.
use mathlib.Core.Path.{◌≡◌, refl, sym, ◌∙◌}
use mathlib.Core.List.{List}
use Prim.Native.Nat.{ℕ, zero, suc, ◌≤◌}
use native.Mathlib.Omega.{arith}
use lib.ListN.{length}
use Rattle.aiger.specs.Circuit.{Circuit}
use Rattle.aiger.specs.Load.{Answer, refused, gives}
use Rattle.aiger.specs.Memory.{Holds}
use Rattle.aiger.specs.Operations.{front}
use Rattle.layout.specs.Words.{circuit_in}
use Rattle.roundtrip.proofs.LoadValid.{gives_same}
use Rattle.roundtrip.proofs.LoadWrite as text
use Rattle.roundtrip.proofs.Holding.{held-valid}
use Rattle.roundtrip.proofs.Determined as determined
use Rattle.renumbered.proofs.Written as renumbered
use Rattle.write_binary.proofs.Answers as binary
use Rattle.writer.specs.Forms.{text_in, WrittenIn}
use Rattle.writer.proofs.Forms.{text-form, binary-form, write_same}

-- a text that fits is written
pub written_in : {m out : List ℕ} (form : ℕ) (c : Circuit) → form ≤ 1 → Holds m c → length (text_in form c) ≤ length out
    → WrittenIn form m out (gives (length (text_in form c))) (front (text_in form c) out)
written_in zero c k h l = text-form 0 refl (determined.written_in c h l)
written_in (suc zero) c k h l = binary-form 1 refl (renumbered.written_in c h l)
written_in (suc (suc n)) c k h l = absurd (omega arith)

-- no text of a circuit that a memory holds is longer than a file may be
short : {m : List ℕ} (form : ℕ) → Holds m (circuit_in m) → length (text_in form (circuit_in m)) ≤ 65536
short zero h = text.text-short (held-valid h)
short (suc n) h = omega (arith, binary.text-short h)

-- so each form of a circuit that a memory holds is written there, and this is what is written
pub wrote : {m out out' : List ℕ} {a : Answer ℕ} (form : ℕ) → form ≤ 1 → Holds m (circuit_in m) → 65536 ≤ length out → WrittenIn form m out a out'
    → (a ≡ gives (length (text_in form (circuit_in m)))) × (out' ≡ front (text_in form (circuit_in m)) out)
wrote {m = m} form k h room w = write_same w (written_in form (circuit_in m) k h (omega (arith, short form h)))
