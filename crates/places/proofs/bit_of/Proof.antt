-- `places::bit_of` meets its contract. Assumes nothing.
use mathlib.Core.Path.{sym, ap}
use mathlib.Core.Bool.{Bool, cond}
use Prim.Native.Nat.{ℕ, ◌/◌, ◌^◌}
use native.Mathlib.Omega.{arith}
use Rattle.aiger.specs.Bits.{bit}
use Rattle.words.proofs.Bits.{bit-beyond}
use Rattle.places.proofs.Digits.{parity}
use borrow.Author.Rules.{rules}
use Rattle.places.proofs.bit_of.Statement.{statement}
use Rattle.places.proofs.bit_of.Tie as tie

returns : tie.Need-returns-then-k-gt63
returns c =
    let a = c.args in
    ap (λ (b : Bool). cond {A = ℕ} b 1 0) (sym (bit-beyond 64 a.x a.k (omega arith) (omega arith)))

returns-2 : tie.Need-returns
unfolding bit
returns-2 c = let a = c.args in sym (parity (a.x / 2 ^ a.k))

pub bit_of_spec : {M : Type 1} → statement M
bit_of_spec = tie.close (tie.spec returns (λ c. search rules) (λ c. search rules) returns-2)
