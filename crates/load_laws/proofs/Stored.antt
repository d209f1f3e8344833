-- What the answer of a load says of its file and of the memory that it leaves. Assumes nothing.
use mathlib.Core.Path.{◌≡◌, sym, subst}
use mathlib.Core.List.{List}
use Prim.Native.Nat.{ℕ}
use native.Mathlib.Omega.{arith}
use lib.ListN.{length}
use Rattle.aiger.specs.Circuit.{Circuit}
use Rattle.aiger.specs.Load.{Answer, refused, gives, load}
use Rattle.aiger.specs.Memory.{Holds}
use Rattle.aiger.specs.Operations.{Loaded}
use Rattle.layout.specs.Words.{circuit_in}
use Rattle.roundtrip.proofs.Holding.{held, loaded-holds}

-- an answer of load, taken apart
pub not-loaded : {m f m' : List ℕ} {a : Answer (List ℕ)} {n : ℕ} → Loaded m f a m' → a ≡ refused n → load (length m) f ≡ refused n
not-loaded (Loaded.refuses e) q = cc
not-loaded (Loaded.stores c e) q = let z : ◌≡◌ {A = ℕ} 0 1 = cc in absurd (omega arith)

pub record Stored (m f m' : List ℕ) : Type 0 where
  pub circuit : Circuit
  pub accepted : load (length m) f ≡ gives circuit
  pub holds : Holds m' circuit

pub stored : {m f m' : List ℕ} {a : Answer (List ℕ)} {ns : List ℕ} → Loaded m f a m' → a ≡ gives ns → Stored m f m'
stored (Loaded.refuses e) q = let z : ◌≡◌ {A = ℕ} 0 1 = cc in absurd (omega arith)
stored {m} {f} (Loaded.stores c e) q = record { circuit = c; accepted = e; holds = loaded-holds m f e }

-- the circuit is the one that the words say
pub stored-in : {m f m' : List ℕ} → Stored m f m' → Holds m' (circuit_in m')
stored-in {m' = m'} s = subst (Holds m') (sym (held s.holds)) s.holds
