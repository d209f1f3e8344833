-- The texts of the table are those that fold writes. Assumes nothing.
use lib.Dec.{T}
use Rattle.aiger.specs.Lists.{every, last_below}
use Rattle.aiger.specs.Bits.{bit}
use Rattle.aiger.specs.Text.{is_number, decimal, span, ended_by, token, row, rows, digits_up_to}
use Rattle.aiger.specs.Circuit.{defined, used, literals_right, used_defined, gate_of, operands, settles, acyclic}
use Rattle.aiger.specs.File.{is_text, is_binary, header, counts_fit, counts_right, is_tail, body}
use Rattle.aiger.specs.Load.{sections, load}
use Rattle.aiger.specs.Frames.{free_starts, free_bits}
use Rattle.aiger.specs.Write.{line_of, lines_of, latch_row, write}
use Rattle.aiger.specs.Examples.{on_loaded}
use Rattle.layout.specs.Order.{driver, completed, placed_from, depth_first}
use Rattle.frames.specs.Starts.{free_before}
use Rattle.nodes.specs.Graph.{leaves, grown, node_values}
use Rattle.rules.specs.Rules.{basic, lowered, simplified}
use Rattle.graph.specs.Chosen.{has_operands, is_twin, twin_of, conjoin}
use Rattle.cone.specs.Cone.{operand_of, marked, in_cone, kept_before, number, renumbered, kept_gate, kept_gates, folded}
use Rattle.unroll.specs.Chosen.{filled, gate_made, gates_made, leaves_made, lines_made, frames_made, unrolled_by}
use Rattle.fold.specs.Chosen.{chosen}
use Rattle.fold.specs.Examples.{writes_text, texts}

pub written-texts : T (every writes_text texts)
unfolding last_below bit is_number decimal span ended_by token row rows digits_up_to defined used literals_right used_defined gate_of operands settles acyclic is_text is_binary header counts_fit counts_right is_tail body sections load free_starts free_bits line_of lines_of latch_row write on_loaded driver completed placed_from depth_first free_before leaves grown node_values basic lowered simplified has_operands is_twin twin_of conjoin operand_of marked in_cone kept_before number renumbered kept_gate kept_gates folded filled gate_made gates_made leaves_made frames_made unrolled_by chosen writes_text texts lines_made
written-texts = tt
