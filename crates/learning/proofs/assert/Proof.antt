-- `learning::assert` meets its contract. Assumes nothing.
use Rattle.learning.specs.Learning as Ln
use borrow.Author.Rules.{rules}
use Rattle.learning.proofs.assert.Statement.{statement}
use Rattle.learning.proofs.assert.Tie as tie

returns : tie.Need-returns
unfolding Ln.asserted
returns c =
    let u = c.assign-u.ensures in
    rw (← u.state) (record { words = u.words; search = c.with_trail.ensures })

pub assert_spec : {M : Type 1} → statement M
assert_spec = tie.close (tie.spec (λ c κs. search rules) (λ c κs. search rules) (λ c. search rules) returns)
