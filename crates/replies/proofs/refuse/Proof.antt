-- `replies::refuse` meets its contract. Assumes nothing.
use mathlib.Core.Path.{refl}
use borrow.Author.Rules.{rules}
use Rattle.replies.proofs.refuse.Statement.{statement}
use Rattle.replies.proofs.refuse.Tie as tie

returns : tie.Need-returns
returns c = (c.write_refusal-length.ensures, refl)

pub refuse_spec : {M : Type 1} → statement M
refuse_spec = tie.close (tie.spec (λ c κs. search rules) (λ c. search rules) returns)
