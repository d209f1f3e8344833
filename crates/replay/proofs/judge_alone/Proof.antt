-- `replay::judge_alone` meets its contract. Assumes nothing.
use borrow.Author.Rules.{rules}
use Rattle.replay.proofs.judge_alone.Statement.{statement}
use Rattle.replay.proofs.judge_alone.Tie as tie

judge-completions-requires : tie.Need-judge_completions-requires
judge-completions-requires c κs =
    (c.requires, search rules)

pub judge_alone_spec : {M : Type 1} → statement M
judge_alone_spec =
    tie.close (tie.spec (λ c. search rules) (λ c. search rules) judge-completions-requires (λ c. search rules))
