-- `binary_text::write_differences` meets its contract. Assumes nothing.
use Prim.Native.Nat.{◌-◌}
use borrow.Author.Rules.{rules}
use Rattle.aiger.specs.Binary.{difference_text}
use Rattle.output.proofs.Output.{room-first, room-second, placed-two}
use Rattle.binary_text.proofs.Steps.{placed-in}
use Rattle.binary_text.proofs.write_differences.Statement.{statement}
use Rattle.binary_text.proofs.write_differences.Tie as tie

write-difference-requires : tie.Need-write_difference-end-requires
write-difference-requires c κs =
    let a = c.args in
    room-first a.out.now a.at (difference_text (a.lit - a.left)) (difference_text (a.left - a.right)) c.requires.2

write-difference-requires-2 : tie.Need-write_difference-requires
write-difference-requires-2 c κs =
    let a = c.args in
    room-second a.out.now a.at (difference_text (a.lit - a.left)) (difference_text (a.left - a.right)) c.requires.2
    (placed-in c.write_difference-end.ensures)

returns : tie.Need-returns
returns c =
    let a = c.args in
    placed-two a.out.now a.at (difference_text (a.lit - a.left)) (difference_text (a.left - a.right)) c.requires.2
    (placed-in c.write_difference-end.ensures)
    (placed-in c.write_difference.ensures)

pub write_differences_spec : {M : Type 1} → statement M
write_differences_spec =
    tie.close
    (tie.spec (λ c. search rules) write-difference-requires (λ c. search rules) write-difference-requires-2 (λ c. search rules) returns)
