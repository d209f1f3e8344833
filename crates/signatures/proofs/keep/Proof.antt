-- `signatures::keep` meets its contract. Assumes nothing.
use native.Mathlib.Omega.{arith}
use Rattle.nodes.specs.Edges.{edge_word}
use Rattle.signatures.proofs.Candidates.{keep-none, keep_one}
use borrow.Author.Rules.{rules}
use Rattle.signatures.proofs.keep.Statement.{statement}
use Rattle.signatures.proofs.keep.Tie as tie

returns : tie.Need-returns-then-first_difference-lt64
returns c =
    let a = c.args in
    keep-none a.work.now a.left (edge_word a.e) c.edge_word.ensures c.first_difference.ensures c.if-first_difference-lt64.true

cast-work : tie.Need-overflow_cast-work
cast-work c = omega (arith, c.requires.2, c.word.ensures)

returns-2 : tie.Need-returns
returns-2 c =
    let a = c.args in
    keep_one a.work.now a.left (edge_word a.e) c.edge_word.ensures c.first_difference.ensures (omega arith) c.requires.0 c.word.ensures

pub keep_spec : {M : Type 1} → statement M
keep_spec =
    tie.close
    (tie.spec (λ c κs. search rules) (λ c κs. search rules) (λ c. search rules) returns (λ c κs. search rules) cast-work (λ c. search rules) (λ c. search rules) (λ c. search rules) (λ c. search rules) (λ c. search rules) (λ c. search rules) returns-2)
