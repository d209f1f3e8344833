-- `bench_record::put_turned` meets its contract. Assumes nothing.
use borrow.Author.Rules.{rules}
use Rattle.bench_record.proofs.put_turned.Statement.{statement}
use Rattle.bench_record.proofs.put_turned.Tie as tie

returns : tie.Need-returns
returns c = rw (← c.put_queued.ensures, ← c.put_allowed.ensures) c.put_number.ensures

pub put_turned_spec : {M : Type 1} → statement M
put_turned_spec =
    tie.close
    (tie.spec (λ c κs. search rules) (λ c κs. search rules) (λ c. search rules) (λ c. search rules) (λ c. search rules) (λ c. search rules) (λ c κs. search rules) (λ c. search rules) returns)
