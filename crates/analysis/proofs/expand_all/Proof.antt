-- `analysis::expand_all` meets its contract. Assumes nothing.
use Rattle.analysis.specs.Analysis as S
use borrow.Author.Rules.{rules}
use Rattle.analysis.proofs.expand_all.Statement.{statement}
use Rattle.analysis.proofs.expand_all.Tie as tie

returns : tie.Need-returns
unfolding S.expanded_all
returns c =
    let e = c.start-d.ensures in
    rw (← e.words, ← e.draft) c.expand_from.ensures

pub expand_all_spec : {M : Type 1} → statement M
expand_all_spec = tie.close (tie.spec (λ c κs. search rules) (λ c κs. search rules) (λ c. search rules) returns)
