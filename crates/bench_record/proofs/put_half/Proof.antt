-- `bench_record::put_half` meets its contract. Assumes nothing.
use Rattle.bench_bytes.specs.Bytes as Bytes
use borrow.Author.Rules.{rules}
use Rattle.bench_record.proofs.put_half.Statement.{statement}
use Rattle.bench_record.proofs.put_half.Tie as tie

returns : tie.Need-returns
unfolding Bytes.put_half
returns c = rw (← c.digit.ensures, ← c.put.ensures, ← c.digit-2.ensures, ← c.put-2.ensures, ← c.digit-3.ensures, ← c.put-3.ensures, ← c.digit-4.ensures) c.put-4.ensures

pub put_half_spec : {M : Type 1} → statement M
put_half_spec =
    tie.close
    (tie.spec (λ c κs. search rules) (λ c κs. search rules) (λ c. search rules) (λ c κs. search rules) (λ c κs. search rules) (λ c. search rules) (λ c κs. search rules) (λ c κs. search rules) (λ c. search rules) (λ c κs. search rules) (λ c κs. search rules) (λ c. search rules) returns)
