-- `analysis::follow` meets its contract. Assumes nothing.
use Rattle.analysis.specs.Analysis as S
use mathlib.Core.Path.{ap}
use borrow.Author.Rules.{rules}
use Rattle.analysis.proofs.follow.Statement.{statement}
use Rattle.analysis.proofs.follow.Tie as tie

returns : tie.Need-returns
unfolding S.followed
returns c =
    let t = c.touch_all-n.ensures in
    let e = c.descend-a.ensures in
    rw (← t.words, ← t.count) (record { words = e.words; draft = ap S.draft e.now })

pub follow_spec : {M : Type 1} → statement M
follow_spec = tie.close (tie.spec (λ c κs. search rules) (λ c κs. search rules) (λ c. search rules) returns)
