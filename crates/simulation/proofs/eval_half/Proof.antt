use mathlib.Core.Path.{refl}
use Prim.Native.Nat.{◌+◌, ◌*◌}
use native.Mathlib.Omega.{arith}
use lib.ListN.{get_or}
use Rattle.simulation.proofs.Words.{first_word, half-evaluated}
use borrow.Author.Rules.{rules}
use Rattle.simulation.proofs.eval_half.Statement.{statement}
use Rattle.simulation.proofs.eval_half.Tie as tie
use Rattle.simulation.proofs.eval_half.Reads as reads
use Rattle.simulation.proofs.eval_half.Lts as lts
use Rattle.simulation.proofs.edge_half.Reads as edge-half-reads

edge-half-requires : tie.Need-edge_half-x-requires
edge-half-requires c κs =
    (omega (arith, c.requires.0.left, c.requires.0.held, first_word c.args.work.now c.args.k), c.requires.1)

returns : tie.Need-returns
returns c =
    let a = c.args in
    let w = a.work.now in
    half-evaluated w a.k a.h c.edge_half-x.result c.edge_half-y.result (get_or w (16 * a.k) 0) (get_or w (16 * a.k + 1) 0)
    c.requires.0.held c.requires.1 (first_word w a.k) refl c.edge_half-x.ensures c.edge_half-y.ensures

pub eval_half_spec : {M : Type 1} → statement M
eval_half_spec =
    tie.close
    (tie.spec (λ c. search rules) (λ c. search rules) (λ c. search rules) (λ c. search rules) (λ c. search rules) (λ c. search rules) (λ c. search rules) edge-half-requires (λ c κs. search rules) (λ c. search rules) (λ c. search rules) (λ c. search rules) (λ c. search rules) (λ c. search rules) (λ c. search rules) returns)
