-- `generate::put_head` meets its contract: `aag `, and then six numbers. Assumes nothing.
use mathlib.Core.Path.{◌≡◌}
use native.Mathlib.Omega.{arith}
use borrow.Author.Rules.{rules}
use Rattle.generate.proofs.Whole.{head-word-room, head-row-room, head-placed}
use Rattle.generate.proofs.put_head.Statement.{statement}
use Rattle.generate.proofs.put_head.Tie as tie

put-requires : tie.Need-put-at-requires
put-requires c κs =
    let n = c.args.n in
    head-word-room c.args.out.now n.inputs n.latches n.gates c.requires.1

put-row-requires : tie.Need-put_row-requires
put-row-requires c κs =
    let n = c.args.n in
    (omega arith, head-row-room c.args.out.now n.inputs n.latches n.gates c.requires.1 c.requires.0 c.put-at.ensures)

returns : tie.Need-returns
returns c =
    let n = c.args.n in
    head-placed c.args.out.now n.inputs n.latches n.gates c.requires.1 c.requires.0 c.put-at.ensures c.put_row.ensures

pub put_head_spec : {M : Type 1} → statement M
put_head_spec =
    tie.close
    (tie.spec put-requires (λ c. search rules) put-row-requires (λ c. search rules) returns)
