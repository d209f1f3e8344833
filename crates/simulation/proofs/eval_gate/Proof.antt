use native.Mathlib.Omega.{arith}
use Rattle.simulation.proofs.Words.{evaluable-half, evaluated-none, evaluated-both}
use borrow.Author.Rules.{rules}
use Rattle.simulation.proofs.eval_gate.Statement.{statement}
use Rattle.simulation.proofs.eval_gate.Tie as tie
use Rattle.simulation.proofs.eval_gate.Reads as reads
use Rattle.simulation.proofs.eval_gate.Lts as lts
use Rattle.simulation.proofs.eval_half.Reads as eval-half-reads

returns : tie.Need-returns-then-work-k-eq0
returns c = let a = c.args in evaluated-none a.work.now a.k (omega arith)

eval-half-requires-2 : tie.Need-eval_half-requires-2
eval-half-requires-2 c κs =
    (evaluable-half c.args.work.now c.eval_half.new.work c.args.k c.requires c.eval_half.auto.work c.eval_half.ensures, omega arith)

returns-2 : tie.Need-returns
returns-2 c =
    let w = c.args.work.now in
    let k = c.args.k in
    evaluated-both w c.eval_half.new.work c.eval_half-2.new.work k c.requires.left c.requires.right c.eval_half.ensures c.eval_half-2.ensures

pub eval_gate_spec : {M : Type 1} → statement M
eval_gate_spec =
    tie.close
    (tie.spec (λ c. search rules) (λ c. search rules) (λ c. search rules) (λ c. search rules) returns (λ c κs. search rules) eval-half-requires-2 (λ c. search rules) returns-2)
