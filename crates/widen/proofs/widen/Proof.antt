-- `widen::widen` meets its contract. Assumes nothing.
use mathlib.Core.Path.{refl}
use borrow.Author.Rules.{rules}
use Rattle.pinned_runs.proofs.Free.{widened-free}
use Rattle.widen.proofs.widen.Statement.{statement}
use Rattle.widen.proofs.widen.Tie as tie

widen-under-requires : tie.Need-widen_under-requires
widen-under-requires c κs = tt

returns : tie.Need-returns
returns c = widened-free (λ i. 2) (λ i. refl) c.widen_under.ensures

pub widen_spec : {M : Type 1} → statement M
widen_spec = tie.close (tie.spec (λ c. search rules) (λ c. search rules) (λ c. search rules) widen-under-requires (λ c. search rules) returns)
