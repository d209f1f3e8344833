-- `set_walk::is_true` meets its contract. Assumes nothing.
use mathlib.Core.Path.{◌≡◌, refl, sym, ap, ◌∙◌}
use Prim.Native.Nat.{ℕ, suc, ◌+◌, ◌-◌, ◌*◌, ◌/◌, ◌≤◌, ◌<◌}
use native.Mathlib.Omega.{arith}
use borrow.Author.Rules.{rules}
use lib.ListN.{length, get_or, set}
use mathlib.Core.Bool.{Bool}
use Rattle.aiger.specs.Bits.{nonzero}
use Rattle.set_walk.specs.Walk.{bits_of}
use Rattle.set_walk.proofs.Evaluation.{bits_in, bits-past, not-zero}
use Rattle.set_walk.proofs.is_true.Statement.{statement}
use Rattle.set_walk.proofs.is_true.Tie as tie

returns : tie.Need-returns-then-at-bits
returns c =
    let a = c.args in
    not-zero (get_or a.bits.now a.v 0) ∙ sym (bits_in a.bits.now a.v)

returns-2 : tie.Need-returns
returns-2 c =
    let a = c.args in
    sym (bits-past a.bits.now a.v c.if-at-bits.false)

pub is_true_spec : {M : Type 1} → statement M
is_true_spec =
    tie.close
    (tie.spec (λ c. search rules) (λ c. search rules) returns returns-2)
