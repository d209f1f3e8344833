-- What the operation write wrote, loaded. Clauses 7.1, 12.1 and 12.14. Assumes nothing.
use mathlib.Core.Path.{◌≡◌}
use mathlib.Core.List.{List, ◌∷◌}
use Prim.Native.Nat.{ℕ, ◌≤◌}
use lib.ListN.{length, take}
use Rattle.aiger.specs.Circuit.{Circuit}
use Rattle.aiger.specs.Load.{Answer, gives, needed}
use Rattle.aiger.specs.Write.{count_row}
use Rattle.aiger.specs.Memory.{Holds, image}
use Rattle.aiger.specs.Operations.{front, Loaded}
use Rattle.layout.specs.Words.{word}
use Rattle.renumbered.specs.Renumbered.{renumbered}
use Rattle.write.proofs.RoundTrip as text
use Rattle.write_binary.proofs.RoundTrip as binary
use Rattle.writer.specs.Forms.{WrittenIn}
use Rattle.writer.proofs.Forms.{form-text, form-binary}

-- form 0, loaded into a memory with the needed words, is accepted with the same counts and leaves the same needed words
pub text-back : {m out out' m₂ m₂' : List ℕ} {n : ℕ} {a : Answer (List ℕ)} → WrittenIn 0 m out (gives n) out' → needed (word m 0) ≤ length m₂
    → Loaded m₂ (take n out') a m₂' → (a ≡ gives (take 7 m)) × (take (needed (word m 0)) m₂' ≡ take (needed (word m 0)) m)
text-back w room l = text.write-load (form-text w) room l

-- every circuit that was loaded is written in form 0, into an output of 65,536 bytes at least
pub text-written : {m f m' out out' r : List ℕ} {a : Answer ℕ} → Loaded m f (gives r) m' → 65536 ≤ length out → WrittenIn 0 m' out a out'
    → (n : ℕ) × (a ≡ gives n)
text-written l room w = text.load-write l room (form-text w)

-- form 1 is accepted into any memory that has the needed words, and leaves the renumbered circuit there
pub binary-back : {m out out' m₂ m₂' : List ℕ} {n : ℕ} {a : Answer (List ℕ)} {c : Circuit} → Holds m c → WrittenIn 1 m out (gives n) out'
    → needed (renumbered c).max_var ≤ length m₂ → Loaded m₂ (take n out') a m₂'
    → (a ≡ gives ((renumbered c).max_var ∷ count_row (renumbered c))) × (m₂' ≡ front (image (renumbered c)) m₂) × Holds m₂' (renumbered c)
binary-back h w room l = binary.write-load h (form-binary w) room l

-- every circuit that a memory holds is written in form 1, into an output of 24,576 bytes at least
pub binary-written : {m out out' : List ℕ} {c : Circuit} {a : Answer ℕ} → Holds m c → 24576 ≤ length out → WrittenIn 1 m out a out'
    → (n : ℕ) × (a ≡ gives n)
binary-written h room w = binary.always-written h room (form-binary w)

-- and, loaded and written again, gives the same bytes
pub binary-again : {m out out' m₂ out₂ out₂' : List ℕ} {n k : ℕ} {c : Circuit} → Holds m c → WrittenIn 1 m out (gives n) out'
    → Holds m₂ (renumbered c) → WrittenIn 1 m₂ out₂ (gives k) out₂' → (k ≡ n) × (take k out₂' ≡ take n out')
binary-again h w h₂ w₂ = binary.write_again h (form-binary w) h₂ (form-binary w₂)
