-- `expansion::free_inputs` meets its contract. Assumes nothing.
use mathlib.Core.Path.{◌≡◌, sym, ap, ◌∙◌}
use mathlib.Core.Bool.{cond}
use Prim.Native.Nat.{ℕ, ◌+◌}
use native.Mathlib.Omega.{arith}
use Rattle.pins.specs.Pins.{is_held, pins_of, free_inputs}
use Rattle.expansion.proofs.Rows.{free-none, free_one, free-most}
use Rattle.expansion.proofs.free_inputs.Goals as goal

pub loop-i-init : goal.loop-i-init
loop-i-init c = sym (free-none (pins_of c.args.pins.now c.args.user))

pub overflow_add-count : goal.overflow_add-count
overflow_add-count c =
    let q = pins_of c.args.pins.now c.args.user in
    let e : c.bits_of-count.result ≡ cond (is_held (q c.loop-i.i)) 0 1 =
    c.bits_of-count.ensures ∙ ap (λ (p : ℕ). cond (is_held p) 0 1) c.pin_at.ensures in
    omega (arith, e, c.loop-i.invariant, free_one q c.loop-i.i, free-most q (c.loop-i.i + 1), c.requires.1)

pub loop-i-preserved : goal.loop-i-preserved
loop-i-preserved c =
    let q = pins_of c.args.pins.now c.args.user in
    let e : c.bits_of-count.result ≡ cond (is_held (q c.loop-i.i)) 0 1 =
    c.bits_of-count.ensures ∙ ap (λ (p : ℕ). cond (is_held p) 0 1) c.pin_at.ensures in
    omega (arith, e, c.loop-i.invariant, free_one q c.loop-i.i)

pub returns : goal.returns
returns c =
    let e : c.loop-i.i ≡ c.args.n = omega arith in
    c.loop-i.invariant ∙ ap (free_inputs (pins_of c.args.pins.now c.args.user)) e
