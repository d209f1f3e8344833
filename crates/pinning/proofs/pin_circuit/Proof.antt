-- `pinning::pin_circuit` meets its contract. Assumes nothing.
use native.Mathlib.Omega.{arith}
use Rattle.pins.specs.Pins.{pins_of}
use Rattle.pinning.proofs.Contents.{fits-inputs, fits-variables, fits-tail, fits_next, steps-pinned}
use borrow.Author.Rules.{rules}
use Rattle.pinning.proofs.pin_circuit.Statement.{statement}
use Rattle.pinning.proofs.pin_circuit.Tie as tie
use Rattle.pinning.proofs.pin_circuit.Reads as reads
use Rattle.pinning.proofs.pin_circuit.Lts as lts
use Rattle.pinning.proofs.copy_tied.Reads as copy-tied-reads
use Rattle.pinning.proofs.enter_pins.Reads as enter-pins-reads
use Rattle.pinning.proofs.keep_inputs.Reads as keep-inputs-reads
use Rattle.pinning.proofs.store_heads.Reads as store-heads-reads

enter-pins-requires : tie.Need-enter_pins-requires
enter-pins-requires c κs =
    let f = c.requires in
    let n = fits-inputs f in
    ((f.user-of, n.0, n.1), (fits-variables f, f.free))

keep-inputs-requires : tie.Need-keep_inputs-next-requires
keep-inputs-requires c κs =
    let f = c.requires in
    let n = fits-inputs f in
    (f.user-of, n.0, n.1, n.2)

store-heads-requires : tie.Need-store_heads-requires
store-heads-requires c κs =
    let n = fits-inputs c.requires in
    let h = fits_next c.requires (pins_of c.args.pins.now c.args.user) c.keep_inputs-next.result c.keep_inputs-next.ensures.1 in
    (omega (arith, n.1), omega (arith, c.requires.room, c.keep_inputs-next.auto), omega (arith, n.0, h))

copy-tied-requires : tie.Need-copy_tied-requires
copy-tied-requires c κs =
    let h = fits_next c.requires (pins_of c.args.pins.now c.args.user) c.keep_inputs-next.result c.keep_inputs-next.ensures.1 in
    let t = fits-tail c.requires c.keep_inputs-next.result h in
    (t.0, omega (arith, t.1, c.keep_inputs-next.auto))

returns : tie.Need-returns
returns c =
    steps-pinned c.requires (pins_of c.args.pins.now c.args.user) c.enter_pins.new.table c.keep_inputs-next.new.words
    c.store_heads.new.words c.copy_tied.new.words c.keep_inputs-next.result c.enter_pins.ensures c.keep_inputs-next.ensures.0
    c.keep_inputs-next.ensures.1 c.store_heads.ensures c.copy_tied.ensures

pub pin_circuit_spec : {M : Type 1} → statement M
pin_circuit_spec =
    tie.close
    (tie.spec (λ c. search rules) enter-pins-requires keep-inputs-requires (λ c. search rules) store-heads-requires copy-tied-requires (λ c. search rules) (λ c. search rules) returns)
