-- `ternary::read` meets its contract. Assumes nothing.
use mathlib.Core.Path.{◌≡◌, ap, ◌∙◌}
use Prim.Native.Nat.{ℕ}
use native.Mathlib.Omega.{arith}
use lib.Bits.{bit_xor}
use lib.ListN.{length, get_or}
use Rattle.ternary.proofs.Covering.{literal-inside, complement-word}
use borrow.Author.Rules.{rules}
use Rattle.ternary.proofs.read.Statement.{statement}
use Rattle.ternary.proofs.read.Tie as tie

shared-slice-read-t6 : tie.Need-bounds-can-own
shared-slice-read-t6 c =
    omega (arith, c.word-own.ensures, (literal-inside c.args.l (length c.args.can.now) c.requires).0)

shared-slice-read-t9 : tie.Need-bounds-can-own-2
shared-slice-read-t9 c =
    let other = ap (λ (w : ℕ). bit_xor w 1) c.word-own.ensures ∙ complement-word c.args.l in
    omega (arith, other, (literal-inside c.args.l (length c.args.can.now) c.requires).1)

returns : tie.Need-returns
returns c =
    let a = c.args in
    let can = a.can.now in
    let own = c.word-own.ensures in
    let other = ap (λ (w : ℕ). bit_xor w 1) own ∙ complement-word a.l in
    λ i. record { high = get_or can (own i) 0; low = get_or can (other i) 0 }

pub read_spec : {M : Type 1} → statement M
read_spec =
    tie.close
    (tie.spec (λ c κs. search rules) shared-slice-read-t6 shared-slice-read-t9 returns)
