-- `signatures::check_block` meets its contract. Assumes nothing.
use native.Mathlib.Omega.{arith}
use Rattle.nodes.specs.Edges.{edge_word}
use Rattle.signatures.proofs.Words.{kept-simulated}
use Rattle.signatures.proofs.Candidates.{candidates-more}
use Rattle.signatures.proofs.Simulations.{simulable-kept, block-candidates, block-sifted}
use borrow.Author.Rules.{rules}
use Rattle.signatures.proofs.check_block.Statement.{statement}
use Rattle.signatures.proofs.check_block.Tie as tie

eval-gates-requires : tie.Need-eval_gates-requires
eval-gates-requires c κs =
    let m = c.args.work.now in
    simulable-kept m c.set_leaves.new.work c.args.g c.set_leaves.auto.work (kept-simulated m c.set_leaves.new.work c.set_leaves.ensures.kept) c.requires.0.0

filter-requires : tie.Need-filter-requires
filter-requires c κs =
    let a = c.args in
    candidates-more (omega arith) (block-candidates c.set_leaves.ensures c.eval_gates.ensures c.requires.0.1)

returns : tie.Need-returns
returns c =
    let a = c.args in
    block-sifted c.set_leaves.ensures c.eval_gates.ensures c.requires.0.1 (edge_word a.a) (edge_word a.b) c.edge_word.result c.edge_word-2.result
    c.requires.1.0 c.requires.1.1 c.edge_word.ensures c.edge_word-2.ensures c.filter.ensures

pub check_block_spec : {M : Type 1} → statement M
check_block_spec =
    tie.close
    (tie.spec (λ c κs. search rules) eval-gates-requires (λ c κs. search rules) (λ c κs. search rules) filter-requires (λ c. search rules) returns)
