-- `fold::write_head` meets its contract. Assumes nothing.
use native.Mathlib.Omega.{arith}
use lib.ListN.{length-set}
use Rattle.output.proofs.Output.{placed-length}
use Rattle.fold.proofs.Lines.{head-room, head-placed}
use borrow.Author.Rules.{rules}
use Rattle.fold.proofs.write_head.Statement.{statement}
use Rattle.fold.proofs.write_head.Tie as tie

slice-write-out-2 : tie.Need-bounds-out-1
slice-write-out-2 c = simp length-set (omega arith)

slice-write-out-3 : tie.Need-bounds-out-2
slice-write-out-3 c = simp length-set (omega arith)

slice-write-out-4 : tie.Need-bounds-out-3
slice-write-out-4 c = simp length-set (omega arith)

put-row-requires : tie.Need-put_row-requires
put-row-requires c κs =
    (omega arith, head-room c.args.out.now c.args.free c.args.kept c.requires.1)

same_length : tie.Need-shape_of-out
same_length c =
    placed-length c.requires.1 (head-placed c.args.out.now c.args.free c.args.kept c.requires.1 c.put_row.ensures)

returns : tie.Need-returns
returns c =
    head-placed c.args.out.now c.args.free c.args.kept c.requires.1 c.put_row.ensures

pub write_head_spec : {M : Type 1} → statement M
write_head_spec =
    tie.close
    (tie.spec (λ c. search rules) (λ c. search rules) (λ c. search rules) (λ c. search rules) (λ c. search rules) slice-write-out-2 slice-write-out-3 slice-write-out-4 (λ c. search rules) put-row-requires same_length returns)
