-- The answers of the operation write, by what the test of the memory and the length of the text say. Assumes nothing.
use mathlib.Core.Path.{◌≡◌, sym, ap, ◌∙◌}
use mathlib.Core.List.{List}
use Prim.Native.Nat.{ℕ, ◌≤◌, ◌<◌}
use native.Mathlib.Omega.{arith}
use borrow.Author.Tests.{lt-leb}
use lib.ListN.{length}
use Rattle.aiger.specs.Load.{refused, gives}
use Rattle.aiger.specs.Write.{write}
use Rattle.aiger.specs.Memory.{Holds}
use Rattle.aiger.specs.Operations.{front, judge, Operated, Written}
use Rattle.layout.specs.Words.{circuit_in}
use Rattle.roundtrip.proofs.Determined.{written_in}

module _ {m : List ℕ} (h : Holds m (circuit_in m)) {n : ℕ} (e : n ≡ length (write (circuit_in m))) (out : List ℕ) where
  -- the text is too long
  pub too_long : length out < n → Written m out (refused 13) out
  unfolding judge
  too_long l = Operated.refuses (circuit_in m) {n = 13} h (rw (lt-leb (length (write (circuit_in m))) (length out) (omega arith)))

  -- the text fits and is written
  pub fitting : n ≤ length out → {out' : List ℕ} → out' ≡ front (write (circuit_in m)) out → Written m out (gives n) out'
  fitting l q = rw (e, q) (written_in (circuit_in m) h (omega arith))
