-- The table of generated texts and permitted counts holds. Clause 12.12. Assumes nothing.
use lib.Dec.{T}
use Rattle.aiger.specs.Lists.{every}
use Rattle.aiger.specs.Text.{digits_up_to}
use Rattle.aiger.specs.Write.{line_of, lines_of, latch_row}
use Rattle.aiger.specs.Binary.{implied}
use Rattle.aiger.specs.Signature.{step}
use Rattle.aiger.specs.Operations.{judge}
use Rattle.aiger.specs.Examples.{refusal_of}
use Rattle.generated.specs.Generated.{after, drawn_latches, drawn_gates, generated, six_text}
use Rattle.generated.specs.Examples.{holds, table}

pub computed : T (every holds table)
unfolding digits_up_to line_of lines_of latch_row implied step judge refusal_of after drawn_latches drawn_gates generated six_text holds table
computed = tt
