-- `expansion::bits_of` meets its contract. Assumes nothing.
use mathlib.Core.Path.{◌≡◌, sym, ap}
use mathlib.Core.Bool.{Bool, cond}
use Prim.Native.Nat.{ℕ}
use native.Mathlib.Omega.{arith}
use borrow.Author.Tests.{lt-ltb, le-ltb}
use Rattle.expansion.proofs.bits_of.Statement.{statement}
use Rattle.expansion.proofs.bits_of.Tie as tie

returns : tie.Need-returns-then-pin-lt2
returns c = sym (ap (λ (b : Bool). cond {A = ℕ} b 0 1) (lt-ltb c.args.pin 2 (omega arith)))

returns-2 : tie.Need-returns
returns-2 c = sym (ap (λ (b : Bool). cond {A = ℕ} b 0 1) (le-ltb c.args.pin 2 (omega arith)))

pub bits_of_spec : {M : Type 1} → statement M
bits_of_spec =
    tie.close
    (tie.spec returns returns-2)
