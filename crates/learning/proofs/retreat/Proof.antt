-- `learning::retreat` meets its contract. Assumes nothing.
use Rattle.learning.specs.Learning as Ln
use borrow.Author.Rules.{rules}
use Rattle.learning.proofs.retreat.Statement.{statement}
use Rattle.learning.proofs.retreat.Tie as tie

returns : tie.Need-returns
unfolding Ln.retreated
returns c =
    let b = c.backtrack-u.ensures in
    let g = c.restore-g.ensures in
    rw (← b.words, ← b.state, ← g.heap) (record { words = g.words; search = rw c.none_agreed-o.ensures })

pub retreat_spec : {M : Type 1} → statement M
retreat_spec =
    tie.close
    (tie.spec (λ c κs. search rules) (λ c κs. search rules) (λ c κs. search rules) (λ c. search rules) returns)
