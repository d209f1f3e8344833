-- `load::store` meets its contract: the content is copied, and zeros follow. Assumes nothing.
use mathlib.Core.Path.{ap}
use native.Mathlib.Omega.{arith}
use borrow.Author.Rules.{rules}
use Rattle.aiger.specs.Load.{needed}
use Rattle.load.proofs.Copying.{stored}
use Rattle.load.proofs.store.Statement.{statement}
use Rattle.load.proofs.store.Tie as tie

returns : tie.Need-returns
returns c =
    let q = c.layout_of-p.ensures.0 in
    let p = c.layout_of-p.result in
    stored c.args.words.now c.args.m.now p.end (needed p.m) c.requires.0 q.end_is (ap needed q.m-is)
    (omega (arith, q.m-is, c.requires.1)) c.copy.ensures c.clear.ensures

pub store_spec : {M : Type 1} → statement M
store_spec =
    tie.close
    (tie.spec (λ c κs. search rules) (λ c κs. search rules) (λ c. search rules) (λ c. search rules) (λ c. search rules) (λ c κs. search rules) (λ c. search rules) returns)
