-- `frames::eval_place` meets its contract. Assumes nothing.
use native.Mathlib.Omega.{arith}
use borrow.Author.Rules.{rules}
use Rattle.frames.proofs.eval_place.Statement.{statement}
use Rattle.frames.proofs.eval_place.Tie as tie

shared-slice-read-g : tie.Need-bounds-order-k
shared-slice-read-g c = omega arith

eval-gate-requires : tie.Need-eval_gate-requires
eval-gate-requires c κs = c.requires.1

returns : tie.Need-returns
returns c = c.eval_gate.ensures

pub eval_place_spec : {M : Type 1} → statement M
eval_place_spec =
    tie.close
    (tie.spec (λ c. search rules) shared-slice-read-g (λ c. search rules) (λ c. search rules) eval-gate-requires (λ c. search rules) returns)
