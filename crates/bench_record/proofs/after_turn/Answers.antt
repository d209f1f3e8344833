-- `bench_record::after_turn`: which hit was found does not matter. Assumes nothing.
use Rattle.bench_record.proofs.after_turn.Goals as goal

pub returns-in-Hit : goal.returns-in-Hit
returns-in-Hit c = λ x. rw c.in-Hit.is (c.after_hit.ensures x)
