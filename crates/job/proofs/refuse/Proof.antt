-- `job::refuse` meets its contract. Assumes nothing.
use mathlib.Core.Path.{refl}
use Rattle.aiger.specs.Program.{refusal_line}
use borrow.Author.Rules.{rules}
use Rattle.job.proofs.refuse.Statement.{statement}
use Rattle.job.proofs.refuse.Tie as tie

returns : tie.Need-returns
unfolding refusal_line
returns c = (c.write_line-length.ensures, refl)

pub refuse_spec : {M : Type 1} → statement M
refuse_spec =
    tie.close (tie.spec (λ c κs. search rules) (λ c. search rules) returns)
