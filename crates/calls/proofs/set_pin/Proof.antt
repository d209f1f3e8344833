-- `calls::set_pin` meets its contract. Assumes nothing.
use mathlib.Core.Path.{sym, ◌∙◌}
use native.Mathlib.Omega.{arith}
use borrow.Author.Rules.{rules}
use borrow.Author.Tests.{leb-true, not-true, not-false}
use Rattle.aiger.specs.Operations.{Operated}
use Rattle.limits.proofs.Sizes.{limited}
use Rattle.call_forms.specs.Table.{pin_row}
use Rattle.call_forms.specs.Forms.{Tested}
use Rattle.call_forms.proofs.Tests.{judged-stranger}
use Rattle.calls.proofs.Pins.{value-known, value_none, no-input, no_byte, pin-set}
use Rattle.calls.proofs.set_pin.Statement.{statement}
use Rattle.calls.proofs.set_pin.Tie as tie

returns : tie.Need-returns-then-not-may
returns c = Tested.refuses (judged-stranger pin_row c.args.user _ (sym c.may.ensures ∙ c.if-not-may.true))

returns-2 : tie.Need-returns-then-value-gt2
returns-2 c = Tested.refuses (value_none c.args.user c.args.value (sym c.may.ensures ∙ c.if-not-may.false) (omega arith))

returns-3 : tie.Need-returns-in_default
returns-3 c =
    Tested.passes (value-known c.args.user c.args.value (sym c.may.ensures ∙ c.if-not-may.false) (omega arith))
    (Operated.no_circuit (rw c.in_default.is at c.test.ensures))

returns-4 : tie.Need-returns-then-layout-input
returns-4 c =
    let h = rw c.in-Some.is at c.test.ensures in
    no-input c.args.user c.args.input c.args.value h.1 h.0 (value-known c.args.user c.args.value (sym c.may.ensures ∙ c.if-not-may.false) (omega arith)) (omega arith)

mul_at : tie.Need-overflow_mul-at
mul_at c = omega (arith, leb-true c.args.user 1 (sym c.may.ensures ∙ c.if-not-may.false))

add_at : tie.Need-overflow_add-at
add_at c =
    let h = rw c.in-Some.is at c.test.ensures in
    omega (arith, (limited h.1 h.0).inputs, leb-true c.args.user 1 (sym c.may.ensures ∙ c.if-not-may.false))

returns-5 : tie.Need-returns-then-shared-at
returns-5 c =
    let h = rw c.in-Some.is at c.test.ensures in
    no_byte c.args.user c.args.input c.args.value h.1 h.0 (value-known c.args.user c.args.value (sym c.may.ensures ∙ c.if-not-may.false) (omega arith)) (omega arith) (omega arith)

returns-6 : tie.Need-returns
returns-6 c =
    let h = rw c.in-Some.is at c.test.ensures in
    pin-set c.args.user c.args.input c.args.value h.1 h.0 (value-known c.args.user c.args.value (sym c.may.ensures ∙ c.if-not-may.false) (omega arith)) (omega arith) (omega arith)

pub set_pin_spec : {M : Type 1} → statement M
set_pin_spec =
    tie.close
    (tie.spec (λ c κs. search rules) returns returns-2 (λ c κs. search rules) (λ c. search rules) (λ c. search rules) returns-3 returns-4 mul_at add_at returns-5 (λ c. search rules) (λ c. search rules) (λ c. search rules) returns-6)
