-- The table of examples holds. Assumes nothing.
use lib.Dec.{T}
use Rattle.aiger.specs.Lists.{every}
use Rattle.aiger.specs.Bits.{bit}
use Rattle.aiger.specs.Text.{is_number, decimal, span, ended_by, token, row, rows}
use Rattle.aiger.specs.Circuit.{defined, used, literals_right, used_defined, gate_of, operands, settles, acyclic}
use Rattle.aiger.specs.File.{header, counts_fit, is_tail, body, is_text, is_binary, counts_right}
use Rattle.aiger.specs.Load.{load, sections}
use Rattle.aiger.specs.Frames.{conjunction, through, look, leaf, frame, state, value_at, constrained, allowed, hits}
use Rattle.aiger.specs.Witness.{bits, bit_rows, read_run, agrees, confirms}
use Rattle.aiger.specs.Operations.{judge}
use Rattle.aiger.specs.Examples.{refusal_of, on_loaded}
use Rattle.completions.specs.Either.{heading, completion, all_pass, none_passes, verdict, shows, read_either, widen_at, widen_below, widened, widened_text}
use Rattle.completions.specs.Examples.{holds, table}

pub measured : T (every holds table)
unfolding bit is_number decimal span ended_by token row rows defined used literals_right used_defined gate_of operands settles acyclic header counts_fit is_tail body load conjunction through look leaf frame state value_at constrained allowed hits bits bit_rows read_run agrees confirms refusal_of on_loaded heading completion all_pass none_passes verdict shows read_either widen_at widen_below widened widened_text holds table judge is_text is_binary counts_right sections
measured = tt
