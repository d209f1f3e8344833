-- `replay::replay` meets its contract. Assumes nothing.
use mathlib.Core.Path.{refl}
use borrow.Author.Rules.{rules}
use Rattle.pinned_runs.proofs.Free.{replayed-free}
use Rattle.replay.proofs.replay.Statement.{statement}
use Rattle.replay.proofs.replay.Tie as tie

replay-under-requires : tie.Need-replay_under-requires
replay-under-requires c κs = tt

returns : tie.Need-returns
returns c = replayed-free (λ i. 2) (λ i. refl) c.replay_under.ensures

pub replay_spec : {M : Type 1} → statement M
replay_spec = tie.close (tie.spec (λ c. search rules) (λ c. search rules) (λ c. search rules) replay-under-requires returns)
