-- `pinning::copy_tied` meets its contract. Assumes nothing.
use Prim.Native.Nat.{◌+◌, ◌<◌}
use native.Mathlib.Omega.{arith}
use lib.ListN.{get_or}
use Rattle.aiger.specs.Circuit.{var}
use Rattle.layout.specs.Words.{word}
use Rattle.pins.specs.Pins.{constant_of}
use Rattle.pinning.proofs.Tables.{tied-word, constant-small}
use Rattle.pinning.proofs.Stores.{Copying, copy_start, copy_more, copy-end}
use Rattle.pinning.proofs.copy_tied.Goals as goal

pub loop-j-init : goal.loop-j-init
loop-j-init c =
    let a = c.args in
    copy_start (λ w. constant_of (get_or a.table.now (var w) 2) w) a.m.now a.from a.n a.at a.words.now

pub overflow_cast-words : goal.overflow_cast-words
overflow_cast-words c =
    let a = c.args in
    let i = a.from + c.loop-j.j in
    let w = word a.m.now i in
    let told = tied-word a.table.now w c.from_word.ensures c.tie.ensures c.word.ensures in
    let small : w < 4294967296 = omega (arith, c.type_inv.m i) in
    omega (arith, told, constant-small (get_or a.table.now (var w) 2) w small)

pub loop-j-preserved : goal.loop-j-preserved
loop-j-preserved c =
    let a = c.args in
    rw (tied-word a.table.now (word a.m.now (a.from + c.loop-j.j)) c.from_word.ensures c.tie.ensures c.word.ensures)
    (copy_more (λ w. constant_of (get_or a.table.now (var w) 2) w) a.m.now a.from a.n a.at c.loop-j.invariant (omega arith)
    (omega (arith, c.loop-j.invariant.size)))

pub returns : goal.returns
returns c =
    let a = c.args in
    copy-end (λ w. constant_of (get_or a.table.now (var w) 2) w) a.m.now a.from a.n a.at c.loop-j.invariant (omega arith)
