-- `pinning::pin_at` meets its contract. Assumes nothing.
use mathlib.Core.Path.{sym, ◌∙◌}
use Prim.Native.Nat.{◌+◌, ◌*◌}
use native.Mathlib.Omega.{arith}
use Rattle.pinning.proofs.Tables.{pin-is, get_d_any, get_d_past}
use borrow.Author.Rules.{rules}
use Rattle.pinning.proofs.pin_at.Statement.{statement}
use Rattle.pinning.proofs.pin_at.Tie as tie
use Rattle.pinning.proofs.pin_at.Reads as reads
use Rattle.pinning.proofs.pin_at.Lts as lts

returns : tie.Need-returns-then-at-pins
returns c =
    let a = c.args in
    let at = 256 * a.user + a.i in
    get_d_any a.pins.now at 0 2 (omega arith) ∙ sym (pin-is a.pins.now a.user a.i (omega arith))

returns-2 : tie.Need-returns
returns-2 c =
    let a = c.args in
    let at = 256 * a.user + a.i in
    sym (pin-is a.pins.now a.user a.i (omega arith) ∙ get_d_past a.pins.now at 2 (omega arith))

pub pin_at_spec : {M : Type 1} → statement M
pin_at_spec = tie.close (tie.spec (λ c. search rules) (λ c. search rules) (λ c. search rules) returns returns-2)
