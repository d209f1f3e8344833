-- The table of measured examples holds. Clause 9.1. Assumes nothing.
use lib.Dec.{T}
use mathlib.Core.List.{◌++◌}
use Rattle.aiger.specs.Lists.{every}
use Rattle.aiger.specs.Bits.{bit}
use Rattle.aiger.specs.Text.{is_number, decimal, span, ended_by, token, row, rows, digits_up_to}
use Rattle.aiger.specs.Circuit.{defined, used, literals_right, used_defined, gate_of, operands, settles, acyclic}
use Rattle.aiger.specs.File.{is_text, is_binary, header, counts_fit, counts_right, is_tail, body}
use Rattle.aiger.specs.Binary.{groups, difference, implied, latches_from, gate_by, gates_from}
use Rattle.aiger.specs.Load.{binary_body, sections, load}
use Rattle.aiger.specs.Frames.{conjunction, through, look, leaf, frame, state, value_at, constrained, allowed, hits, free_starts, free_bits, starts, run, size}
use Rattle.aiger.specs.Search.{least_below, decides, permitted_of, reaches_in, reaches, first_witness}
use Rattle.aiger.specs.Witness.{witness, witness_length, bits, bit_rows, read_run, read_witness, agrees, confirms}
use Rattle.aiger.specs.Write.{line_of, lines_of, latch_row, write}
use Rattle.aiger.specs.Fold.{value_on, shaped, plain, alike, leads, twins, reduced, repeated, repeated_in, folds}
use Rattle.aiger.specs.Memory.{latch_words, gate_words, content, image}
use Rattle.aiger.specs.Signature.{step, draw, pattern_bit}
use Rattle.aiger.specs.Operations.{judge}
use Rattle.aiger.specs.Program.{request, report}
use Rattle.aiger.specs.Examples.{keep, plain_of, outcomes, same_texts, refusal_of, on_loaded, holds, starred, further}

pub measured : T (every holds (starred ++ further))
unfolding bit is_number decimal span ended_by token row rows digits_up_to defined used literals_right used_defined gate_of operands settles acyclic is_text is_binary header counts_fit counts_right is_tail body groups difference implied latches_from gate_by gates_from binary_body sections load conjunction through look leaf frame state value_at allowed hits free_starts free_bits starts run size least_below decides permitted_of reaches_in reaches first_witness witness witness_length bits bit_rows read_run read_witness agrees confirms line_of lines_of latch_row write value_on shaped plain alike leads twins reduced repeated repeated_in folds latch_words gate_words content image step draw pattern_bit judge request report keep plain_of outcomes same_texts refusal_of on_loaded holds starred further constrained
measured = tt
