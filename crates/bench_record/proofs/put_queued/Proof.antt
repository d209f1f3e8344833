-- `bench_record::put_queued` meets its contract. Assumes nothing.
use borrow.Author.Rules.{rules}
use Rattle.bench_record.proofs.put_queued.Statement.{statement}
use Rattle.bench_record.proofs.put_queued.Tie as tie

returns : tie.Need-returns
returns c = rw (← c.entry_place-p.ensures.0) c.put_entry.ensures

pub put_queued_spec : {M : Type 1} → statement M
put_queued_spec =
    tie.close
    (tie.spec (λ c κs. search rules) (λ c κs. search rules) (λ c. search rules) returns)
