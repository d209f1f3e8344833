-- From what load answers to what is printed. Assumes nothing.
use mathlib.Core.Path.{◌≡◌, ap}
use mathlib.Core.Bool.{Bool}
use mathlib.Core.List.{List}
use Prim.Native.Nat.{ℕ}
use lib.ListN.{length}
use Rattle.aiger.specs.Load.{refused, load}
use Rattle.layout.specs.Words.{circuit_in}
use Rattle.roundtrip.proofs.Holding.{held}
use Rattle.load_laws.proofs.Stored.{Stored}
use Rattle.replies.specs.Refusal.{refusal_text}
use Rattle.replies.specs.Reply.{Fronts, Leaves}
use Rattle.replies.specs.declared.Report.{Report}
use Rattle.replies.proofs.Putting.{refused-leaves}
use Rattle.write_command.specs.Texts.{written, write_reply}

-- a file that is not loaded, and one that is
module _ (binary : Bool) (m f : List ℕ) (room : length m ≡ 33032) where
  pub write-refusal : {line : List ℕ} (out : List ℕ) {r : Report} {line' : List ℕ} {n : ℕ} → load (length m) f ≡ refused n
      → Fronts (refusal_text n) line r.line line' → r.out ≡ 0 → Leaves (write_reply binary f) line out r line' out
  unfolding write_reply
  write-refusal out {n = n} e p q = rw (rw room at e) (refused-leaves n out p q)

  pub write-text : {m' : List ℕ} → Stored m f m' → written binary (circuit_in m') ≡ write_reply binary f
  unfolding write_reply
  write-text s = rw (rw room at s.accepted) (ap (written binary) (held s.holds))
