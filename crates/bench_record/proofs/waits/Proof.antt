-- `bench_record::waits` meets its contract. Assumes nothing.
use borrow.Author.Rules.{rules}
use Rattle.bench_record.proofs.waits.Statement.{statement}
use Rattle.bench_record.proofs.waits.Tie as tie

returns : tie.Need-returns
returns c = rw (← c.entry_of.ensures) c.is_waiting.ensures

pub waits_spec : {M : Type 1} → statement M
waits_spec =
    tie.close
    (tie.spec (λ c κs. search rules) (λ c κs. search rules) returns)
