-- `bench_record::entry_of` meets its contract. Assumes nothing.
use borrow.Author.Rules.{rules}
use Rattle.bench_record.proofs.entry_of.Statement.{statement}
use Rattle.bench_record.proofs.entry_of.Tie as tie

returns : tie.Need-returns
returns c = rw (← c.entry_place-p.ensures.0) c.entry_at.ensures

pub entry_of_spec : {M : Type 1} → statement M
entry_of_spec =
    tie.close
    (tie.spec (λ c κs. search rules) (λ c κs. search rules) returns)
