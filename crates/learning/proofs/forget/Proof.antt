-- `learning::forget` meets its contract. Assumes nothing.
use Rattle.learning.specs.Learning as Ln
use borrow.Author.Rules.{rules}
use Rattle.learning.proofs.forget.Statement.{statement}
use Rattle.learning.proofs.forget.Tie as tie

returns : tie.Need-returns
unfolding Ln.forgotten
returns c =
    let r = c.retreat-u.ensures in
    let v = c.settle_level-v.ensures in
    rw (
      ← r.words,
      ← r.search,
      ← v.words,
      ← v.search,
    ) (record { words = c.detach.ensures; search = c.with_arena.ensures })

pub forget_spec : {M : Type 1} → statement M
forget_spec =
    tie.close
    (tie.spec (λ c κs. search rules) (λ c κs. search rules) (λ c κs. search rules) (λ c κs. search rules) (λ c. search rules) returns)
