-- A binary text that fits is written: its own length decides, not that of the circuit's text. Clauses 6.4 and 12.1. Assumes nothing.
use mathlib.Core.Path.{refl}
use mathlib.Core.List.{List}
use Prim.Native.Nat.{ℕ, ◌≤◌}
use borrow.Author.Tests.{le-leb}
use lib.ListN.{length}
use Rattle.aiger.specs.Circuit.{Circuit}
use Rattle.aiger.specs.Load.{gives}
use Rattle.aiger.specs.Memory.{Holds}
use Rattle.aiger.specs.Operations.{front, judge, Operated}
use Rattle.renumbered.specs.Renumbered.{write_binary, WrittenBinary}

pub written_in : {m out : List ℕ} (c : Circuit) → Holds m c → length (write_binary c) ≤ length out
    → WrittenBinary m out (gives (length (write_binary c))) (front (write_binary c) out)
unfolding judge
written_in {out = out} c h l = Operated.acts c h (rw (le-leb (length (write_binary c)) (length out) l))
    (record { count = refl; shows = refl })
