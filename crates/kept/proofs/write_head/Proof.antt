-- `kept::write_head` meets its contract. Assumes nothing.
use Rattle.kept.specs.Kept as K
use borrow.Author.Rules.{rules}
use Rattle.kept.proofs.write_head.Statement.{statement}
use Rattle.kept.proofs.write_head.Tie as tie

returns : tie.Need-returns
unfolding K.with_head
returns c = rw (← c.set_head.ensures) c.set_head-2.ensures

pub write_head_spec : {M : Type 1} → statement M
write_head_spec =
    tie.close
    (tie.spec (λ c κs. search rules) (λ c. search rules) (λ c. search rules) (λ c κs. search rules) (λ c. search rules) returns)
