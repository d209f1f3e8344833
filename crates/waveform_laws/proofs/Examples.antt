-- Clause 13.8: the table of examples holds. Assumes nothing.
use lib.Dec.{T}
use Rattle.aiger.specs.Lists.{every}
use Rattle.aiger.specs.Bits.{bit}
use Rattle.aiger.specs.Text.{is_number, decimal, span, ended_by, token, row, rows, digits_up_to}
use Rattle.aiger.specs.Circuit.{defined, used, literals_right, used_defined, gate_of, operands, settles, acyclic}
use Rattle.aiger.specs.File.{header, counts_fit, is_tail, body, is_text, is_binary, counts_right}
use Rattle.aiger.specs.Load.{load, sections}
use Rattle.aiger.specs.Frames.{conjunction, through, look, leaf, frame, state, value_at}
use Rattle.aiger.specs.Witness.{bits, bit_rows, read_run}
use Rattle.completions.specs.Either.{heading, completion, read_either}
use Rattle.aiger.specs.Operations.{judge}
use Rattle.aiger.specs.Examples.{refusal_of, on_loaded}
use Rattle.vcd.specs.Text.{level_byte, identifier, declaration, declarations, header as top, time_mark, value_line, value_lines, sample, samples, dump}
use Rattle.vcd.specs.Wires.{names, literals}
use Rattle.levels.specs.Levels.{level_over}
use Rattle.waveform.specs.Waveform.{is_high, level_at, frame_count, waveform, waveform_of}
use Rattle.waveform_laws.specs.Examples.{holds, table}

pub measured : T (every holds table)
unfolding bit is_number decimal span ended_by token row rows digits_up_to defined used literals_right used_defined gate_of operands settles acyclic header counts_fit is_tail body is_text is_binary counts_right load sections conjunction through look leaf frame state value_at bits bit_rows read_run heading completion read_either judge refusal_of on_loaded level_byte identifier declaration declarations top time_mark value_line value_lines sample samples dump names literals level_over is_high level_at frame_count waveform waveform_of holds table
measured = tt
