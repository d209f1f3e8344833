-- `cone::number_gate` meets its contract. Assumes nothing.
use native.Mathlib.Omega.{arith}
use Rattle.cone.proofs.Numbering.{numbered-none, numbered-one}
use borrow.Author.Rules.{rules}
use Rattle.cone.proofs.number_gate.Statement.{statement}
use Rattle.cone.proofs.number_gate.Tie as tie

returns : tie.Need-returns-then-mark-eq0
returns c = let a = c.args in numbered-none a.work.now a.k a.next (omega arith)

returns-2 : tie.Need-returns
returns-2 c =
    let a = c.args in
    numbered-one a.work.now a.k a.next _ (λ z. omega arith) (omega (arith, c.requires.0)) (omega arith)

pub number_gate_spec : {M : Type 1} → statement M
number_gate_spec =
    tie.close
    (tie.spec (λ c. search rules) (λ c. search rules) (λ c. search rules) (λ c. search rules) returns (λ c. search rules) (λ c. search rules) (λ c. search rules) (λ c. search rules) (λ c. search rules) (λ c. search rules) (λ c. search rules) returns-2)
