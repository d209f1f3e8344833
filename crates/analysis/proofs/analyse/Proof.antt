-- `analysis::analyse` meets its contract. Assumes nothing.
use Rattle.analysis.specs.Analysis as S
use borrow.Author.Rules.{rules}
use Rattle.analysis.proofs.analyse.Statement.{statement}
use Rattle.analysis.proofs.analyse.Tie as tie

returns : tie.Need-returns
unfolding S.analysed
returns c =
    let e = c.start-d.ensures in
    rw (← e.words, ← e.draft) c.follow.ensures

pub analyse_spec : {M : Type 1} → statement M
analyse_spec = tie.close (tie.spec (λ c κs. search rules) (λ c κs. search rules) (λ c. search rules) returns)
