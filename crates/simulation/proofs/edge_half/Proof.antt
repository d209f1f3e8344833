use Prim.Native.Nat.{◌+◌, ◌*◌, ◌/◌, ◌%◌}
use native.Mathlib.Omega.{arith}
use lib.ListN.{get_or}
use Rattle.simulation.proofs.Words.{sign-half}
use borrow.Author.Rules.{rules}
use Rattle.simulation.proofs.edge_half.Statement.{statement}
use Rattle.simulation.proofs.edge_half.Tie as tie
use Rattle.simulation.proofs.edge_half.Reads as reads
use Rattle.simulation.proofs.edge_half.Lts as lts

returns : tie.Need-returns
returns c = λ q l.
    let a = c.args in
    sign-half (get_or a.work.now (16 * (a.e / 2) + (2 + a.h)) 0) (a.e % 2) q (omega arith) l

pub edge_half_spec : {M : Type 1} → statement M
edge_half_spec =
    tie.close
    (tie.spec (λ c. search rules) (λ c. search rules) (λ c. search rules) (λ c. search rules) (λ c. search rules) (λ c. search rules) (λ c. search rules) returns)
