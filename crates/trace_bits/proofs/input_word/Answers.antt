-- `trace_bits::input_word`: the bit of the row at the input's place, and 0 where the input does not matter. Assumes nothing.
use Rattle.std.proofs.Common.{arith}
use Rattle.trace_bits.proofs.Values.{input-here, input_none}
use Rattle.trace_bits.proofs.input_word.Goals as goal

pub returns-then-k-count : goal.returns-then-k-count
returns-then-k-count c =
    let a = c.args in
    input-here a.inputs.now a.r a.i c.rank_of-k.result c.rank_of-k.ensures c.bit_of.result (omega arith) (rw c.from.ensures at c.bit_of.ensures)

pub returns : goal.returns
returns c =
    let a = c.args in
    input_none a.inputs.now a.r a.i c.rank_of-k.result c.rank_of-k.ensures (omega arith)
