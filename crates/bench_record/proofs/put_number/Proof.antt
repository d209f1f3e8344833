-- `bench_record::put_number` meets its contract. Assumes nothing.
use Rattle.bench_bytes.specs.Bytes as Bytes
use borrow.Author.Rules.{rules}
use Rattle.bench_record.proofs.put_number.Statement.{statement}
use Rattle.bench_record.proofs.put_number.Tie as tie

returns : tie.Need-returns
unfolding Bytes.put_number
returns c = rw (← c.put_half.ensures) c.put_half-2.ensures

pub put_number_spec : {M : Type 1} → statement M
put_number_spec =
    tie.close
    (tie.spec (λ c κs. search rules) (λ c. search rules) (λ c κs. search rules) (λ c. search rules) returns)
