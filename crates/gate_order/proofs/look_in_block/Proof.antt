-- `gate_order::look_in_block` meets its contract. Assumes nothing.
use native.Mathlib.Omega.{arith}
use borrow.Author.Rules.{rules}
use Rattle.gate_order.proofs.Blocks.{end-past, block-clear, block-found, block-through}
use Rattle.gate_order.proofs.look_in_block.Statement.{statement}
use Rattle.gate_order.proofs.look_in_block.Tie as tie

returns : tie.Need-returns-then-marks-b-eq0
returns c =
    block-clear c.args.waiting.now c.args.marks.now c.args.b c.requires.0.2 c.if-marks-b-eq0.true

first-in-requires : tie.Need-first_in-i-requires
first-in-requires c κs =
    let l = c.least-end.ensures in
    (end-past c.args.b _ _ c.requires.0.0 l.2.0 l.2.1, l.1)

returns-2 : tie.Need-returns-then-i-end
returns-2 c =
    let l = c.least-end.ensures in
    block-found c.args.waiting.now c.args.marks.now c.args.b c.requires.0.2 _ (l.0, l.1) l.2 _ c.if-i-end.true c.first_in-i.ensures

returns-3 : tie.Need-returns
returns-3 c =
    let l = c.least-end.ensures in
    block-through c.args.waiting.now c.args.marks.now c.args.b c.requires.0.2 _ (l.0, l.1) l.2 _ c.if-i-end.false c.requires.0.1 c.first_in-i.ensures

pub look_in_block_spec : {M : Type 1} → statement M
look_in_block_spec =
    tie.close
    (tie.spec (λ c. search rules) (λ c. search rules) returns (λ c. search rules) (λ c. search rules) (λ c κs. search rules) (λ c. search rules) first-in-requires returns-2 (λ c. search rules) (λ c. search rules) (λ c. search rules) returns-3)
