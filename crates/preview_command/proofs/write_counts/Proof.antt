-- `preview_command::write_counts` meets its contract: the word, and the row of counts after it. Assumes nothing.
use native.Mathlib.Omega.{arith}
use Rattle.aiger.specs.Text.{bytes}
use Rattle.load.specs.Answers.{numbers}
use Rattle.output.proofs.Row.{row-most}
use Rattle.replies.proofs.Putting.{Fronted, front-first, front-room, front-more, front-fronts}
use Rattle.preview_command.proofs.Answers.{row_room, counts-row}
use borrow.Author.Rules.{rules}
use Rattle.preview_command.proofs.write_counts.Statement.{statement}
use Rattle.preview_command.proofs.write_counts.Tie as tie

abbrev start : tie.After-put-at → tie.Start
start w = w.before.before.before.before.before

word : (w : tie.After-put-at) → Fronted (start w).args.line.now 6 (bytes "loads ") w.put-at.result w.put-at.new.out
word w = front-first (omega (arith, (start w).requires)) w.put-at.ensures

put-row-requires : tie.Need-put_row-requires
put-row-requires c κs =
    (omega arith, row_room _ c.put-at.new.out c.put-at.result (front-room (word c.before.before.before.before) 77 (omega (arith, (start c.before.before.before.before).requires))))

returns : tie.Need-returns
returns c =
    let k = (start c.before.before.before.before.before.before.before).args.k in
    counts-row k (front-fronts (front-more (word c.before.before.before.before.before.before.before) 77 (omega (arith, (start c.before.before.before.before.before.before.before).requires)) (row-most (numbers k) 0 7) c.put_row.ensures))

pub write_counts_spec : {M : Type 1} → statement M
write_counts_spec =
    tie.close
    (tie.spec (λ c κs. search rules) (λ c. search rules) put-row-requires (λ c. search rules) returns)
