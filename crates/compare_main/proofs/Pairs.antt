-- What joining two files leaves for the searches: at most 16 pairs, and a circuit where there is one. Assumes nothing.
use mathlib.Core.Path.{◌≡◌, refl}
use mathlib.Core.List.{List}
use Prim.Native.Nat.{ℕ, ◌≤◌, ◌<◌}
use native.Mathlib.Omega.{arith}
use lib.ListN.{length}
use Rattle.aiger.specs.Circuit.{Circuit}
use Rattle.aiger.specs.Load.{Answer, refused, gives}
use Rattle.aiger.specs.Memory.{Holds}
use Rattle.layout.specs.Words.{circuit_in}
use Rattle.roundtrip.proofs.LoadWrite.{Counts, counts-fit}
use Rattle.roundtrip.proofs.Holding.{held-valid}
use Rattle.join_command.specs.declared.Paired.{Paired}
use Rattle.join_command.specs.Texts.{join_answer, pairs_of, JoinedAs}
use Rattle.join_command.proofs.Joining.{joined-holds, join-held}

module _ (m old new : List ℕ) (room : length m ≡ 33032) {line : List ℕ} {r : Paired} {m' line' : List ℕ} (j : JoinedAs (join_answer old new) m line r m' line') where
  pub pairs-few : r.pairs ≤ 16
  pairs-few = go (join_answer old new) refl j.pairs-are
    where
      go : (a : Answer Circuit) → join_answer old new ≡ a → r.pairs ≡ pairs_of a → r.pairs ≤ 16
      go (refused n) e p = omega arith
      go (gives c) e p = omega (arith, p, (counts-fit c (held-valid (joined-holds m room old new e).0).fit).bads)

  pub pairs-held : 0 < r.pairs → Holds m' (circuit_in m')
  pairs-held h = (join-held m old new room j (λ z. omega arith)).0
