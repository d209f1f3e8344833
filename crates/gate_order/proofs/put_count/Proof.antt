-- `gate_order::put_count` meets its contract. Assumes nothing.
use native.Mathlib.Omega.{arith}
use borrow.Author.Rules.{rules}
use Rattle.gate_order.proofs.Counts.{put-zero, put-more}
use Rattle.gate_order.proofs.put_count.Statement.{statement}
use Rattle.gate_order.proofs.put_count.Tie as tie

returns : tie.Need-returns-then-w-eq0
returns c = put-zero c.args.waiting.now c.args.marks.now c.args.i c.args.w c.if-w-eq0.true c.requires.1

pub put_count_spec : {M : Type 1} → statement M
put_count_spec =
    tie.close
    (tie.spec (λ c. search rules) (λ c. search rules) (λ c. search rules) (λ c. search rules) (λ c. search rules) (λ c. search rules) returns (λ c. search rules) (λ c. search rules))
