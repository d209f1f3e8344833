-- `trace_bits::free_word` meets its contract. Assumes nothing.
use Prim.Native.Nat.{ℕ, ◌+◌, ◌-◌, ◌/◌, ◌%◌, ◌≤◌, ◌<◌}
use native.Mathlib.Nat.{mod-lt}
use native.Mathlib.Omega.{arith}
use lib.ListN.{length, get_or}
use Rattle.trace_bits.proofs.Values.{free-start, free-row}
use borrow.Author.Rules.{rules}
use Rattle.trace_bits.proofs.free_word.Statement.{statement}
use Rattle.trace_bits.proofs.free_word.Tie as tie
use Rattle.trace_bits.proofs.free_word.Reads as reads
use Rattle.trace_bits.proofs.free_word.Lts as lts
use Rattle.memory.proofs.get.Reads as get-reads
use Rattle.trace_bits.proofs.bit_at.Reads as bit-at-reads
use Rattle.trace_bits.proofs.input_word.Reads as input-word-reads

mul-bit-at : tie.Need-offset_bounds-frees-j
mul-bit-at c = search rules

shared-slice-read-bit-at : tie.Need-bounds-frees-j
shared-slice-read-bit-at c = search rules

bit-at-requires : tie.Need-bit_at-requires
bit-at-requires c κs = search rules

returns : tie.Need-returns-then-j-count
returns c =
    let a = c.args in
    free-start a.frees.now a.bits.now a.inputs.now a.trace.now a.width a.j c.bit_at.result (omega arith) c.bit_at.ensures

div-get : tie.Need-nonzero_div-k
div-get c = c.requires.2 (omega arith)

get-requires : tie.Need-get-r-requires
get-requires c κs = search rules

rem-input-word : tie.Need-nonzero_rem-k
rem-input-word c = c.requires.2 (omega arith)

cast-input-word : tie.Need-overflow_cast-k
cast-input-word c =
    omega (arith, c.requires.1, mod-lt (c.args.j - length c.args.frees.now) (c.requires.2 (omega arith)))

input-word-requires : tie.Need-input_word-requires
input-word-requires c κs = c.requires.0

returns-2 : tie.Need-returns
returns-2 c =
    let a = c.args in
    free-row a.frees.now a.bits.now a.inputs.now a.trace.now a.width a.j c.input_word.result c.get-r.result
    (omega arith) c.get-r.ensures c.input_word.ensures

pub free_word_spec : {M : Type 1} → statement M
free_word_spec =
    tie.close
    (tie.spec mul-bit-at shared-slice-read-bit-at bit-at-requires returns div-get get-requires rem-input-word cast-input-word input-word-requires returns-2)
