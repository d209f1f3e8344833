use native.Mathlib.Omega.{arith}
use Rattle.aiger.specs.Frames.{value}
use Rattle.simulation.specs.Store.{half}
use Rattle.simulation.proofs.Places.{both_halves}
use borrow.Author.Rules.{rules}
use Rattle.simulation.proofs.hit_word.Statement.{statement}
use Rattle.simulation.proofs.hit_word.Tie as tie
use Rattle.simulation.proofs.hit_word.Reads as reads
use Rattle.simulation.proofs.hit_word.Lts as lts
use Rattle.simulation.proofs.edge_half.Reads as edge-half-reads

returns : tie.Need-returns
returns c =
    let a = c.args in
    both_halves c.edge_half-low.result c.edge_half-high.result (λ h q. value (half a.work.now h q) a.root) (omega arith) c.edge_half-low.ensures c.edge_half-high.ensures

pub hit_word_spec : {M : Type 1} → statement M
hit_word_spec =
    tie.close
    (tie.spec (λ c κs. search rules) (λ c. search rules) (λ c κs. search rules) (λ c. search rules) (λ c. search rules) (λ c. search rules) returns)
