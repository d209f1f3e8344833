-- `decision::is_small` meets its contract. Assumes nothing.
use Prim.Native.Nat.{ℕ, ◌*◌, ◌%◌, ◌^◌, ◌≤◌}
use native.Mathlib.Nat.{mul-le-mul_right}
use native.Mathlib.Omega.{arith}
use lib.Pow.{pow_mono}
use lib.Dec.{leb→le}
use borrow.Author.Rules.{rules}
use Rattle.decision.proofs.is_small.Statement.{statement}
use Rattle.decision.proofs.is_small.Tie as tie
use Rattle.decision.proofs.is_small.Reads as reads
use Rattle.decision.proofs.is_small.Lts as lts
use Rattle.decision.proofs.places.Reads as places-reads

-- so many places on so many nodes
places-small : (p n : ℕ) → p ≤ 1048576 → n ≤ 65536 → p * n ≤ 68719476736
places-small p n h l = let a : p * n ≤ 1048576 * n = mul-le-mul_right n h in omega arith

mul-if2 : tie.Need-overflow_mul-all
mul-if2 c =
    let p : 2 ^ c.args.s ≤ 2 ^ 20 = pow_mono c.if-s-gt20.false in
    omega (arith, places-small (1 * 2 ^ c.args.s % 18446744073709551616) c.args.nodes (omega arith) (omega arith))

returns-3 : tie.Need-returns
returns-3 c = λ t.
    let p : 2 ^ c.args.s ≤ 2 ^ 20 = pow_mono c.if-s-gt20.false in
    omega (arith, c.places.ensures, leb→le (1 * 2 ^ c.args.s % 18446744073709551616) c.places.result t)

pub is_small_spec : {M : Type 1} → statement M
is_small_spec = tie.close (tie.spec (λ c. search rules) (λ c. search rules) mul-if2 (λ c. search rules) (λ c κs. search rules) returns-3)
