-- `place_search::is_place` meets its contract. Assumes nothing.
use borrow.Author.Rules.{rules}
use Rattle.place_search.proofs.Starting.{place-many, place-few}
use Rattle.place_search.proofs.is_place.Statement.{statement}
use Rattle.place_search.proofs.is_place.Tie as tie

returns : tie.Need-returns-then-n-gt62
returns c = place-many c.args.n c.args.place c.if-n-gt62.true

returns-2 : tie.Need-returns
returns-2 c = place-few c.args.n c.args.place c.if-n-gt62.false

pub is_place_spec : {M : Type 1} → statement M
is_place_spec = tie.close (tie.spec returns (λ c. search rules) returns-2)
