-- `pinning::keep_inputs` meets its contract. Assumes nothing.
use mathlib.Core.Path.{◌≡◌}
use Prim.Native.Nat.{◌+◌}
use native.Mathlib.Omega.{arith}
use Rattle.literals.proofs.Words.{word_read}
use Rattle.layout.specs.Words.{word}
use Rattle.pins.specs.Pins.{pins_of}
use Rattle.pinning.proofs.Stores.{Keeping, keep-start, keep-more, keep-end}
use Rattle.pinning.proofs.keep_inputs.Goals as goal

pub loop-i-init : goal.loop-i-init
loop-i-init c =
    let a = c.args in
    keep-start a.m.now (pins_of a.pins.now a.user) a.inputs a.words.now

pub keep_one-at-requires : goal.keep_one-at-requires
keep_one-at-requires c =
    let w = word c.args.m.now (7 + c.loop-i.i) in
    (omega (arith, c.loop-i.invariant.place, c.loop-i.invariant.size), omega (arith, word_read w c.from_word.ensures, c.type_inv.m (7 + c.loop-i.i)))

pub loop-i-preserved : goal.loop-i-preserved
loop-i-preserved c =
    let a = c.args in
    let q = pins_of a.pins.now a.user in
    let i = c.loop-i.i in
    let p : c.pin_at.result ≡ q i = c.pin_at.ensures in
    let w = word_read (word a.m.now (7 + i)) c.from_word.ensures in
    rw (c.keep_one-at.ensures.0, c.keep_one-at.ensures.1, p, w)
    (keep-more a.m.now q a.inputs c.loop-i.invariant (omega arith) (omega (arith, c.loop-i.invariant.place, c.loop-i.invariant.size)))

pub returns : goal.returns
returns c =
    let a = c.args in
    keep-end a.m.now (pins_of a.pins.now a.user) a.inputs c.loop-i.invariant (omega arith)
