-- `write::section_length` meets its contract. Assumes nothing.
use native.Mathlib.Omega.{arith}
use Rattle.write.proofs.Sections.{three-in, three-text}
use Rattle.write.proofs.section_length.Statement.{statement}
use Rattle.write.proofs.section_length.Tie as tie

rows-length-requires : tie.Need-rows_length-requires
rows-length-requires c κs =
    (three-in c.args.t c.requires c.if-t-eq3.true, omega arith)

returns : tie.Need-returns-then-t-eq3
returns c =
    rw (three-text c.args.t c.requires c.if-t-eq3.true) c.rows_length.ensures

rows-length-requires-2 : tie.Need-rows_length-requires-2
rows-length-requires-2 c κs = c.requires

returns-2 : tie.Need-returns
returns-2 c = c.rows_length-2.ensures

pub section_length_spec : {M : Type 1} → statement M
section_length_spec = tie.close (tie.spec rows-length-requires returns rows-length-requires-2 returns-2)
