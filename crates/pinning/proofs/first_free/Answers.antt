-- `pinning::first_free` meets its contract. Assumes nothing.
use mathlib.Core.Path.{◌≡◌, sym, ap, ◌∙◌}
use native.Mathlib.Omega.{arith}
use Rattle.pins.specs.Pins.{pins_of}
use Rattle.pinning.specs.Free.{none_held}
use Rattle.pinning.proofs.Free.{none-start, none_more, one-held}
use Rattle.pinning.proofs.first_free.Goals as goal

pub loop-i-init : goal.loop-i-init
loop-i-init c = none-start (pins_of c.args.pins.now c.args.user)

pub returns-then-pin_at-lt2 : goal.returns-then-pin_at-lt2
returns-then-pin_at-lt2 c =
    let q = pins_of c.args.pins.now c.args.user in
    let e : c.pin_at.result ≡ q c.loop-i.i = c.pin_at.ensures in
    sym (one-held q c.loop-i.i c.args.n (omega arith) (omega (arith, e)))

pub loop-i-preserved : goal.loop-i-preserved
loop-i-preserved c =
    let q = pins_of c.args.pins.now c.args.user in
    let e : c.pin_at.result ≡ q c.loop-i.i = c.pin_at.ensures in
    none_more q c.loop-i.i c.loop-i.invariant (omega (arith, e))

pub returns : goal.returns
returns c =
    let q = pins_of c.args.pins.now c.args.user in
    let e : c.loop-i.i ≡ c.args.n = omega arith in
    sym (sym (ap (none_held q) e) ∙ c.loop-i.invariant)
