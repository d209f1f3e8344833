-- `bench_record::put_entry` meets its contract. Assumes nothing.
use Rattle.bench_bytes.specs.Bytes as Bytes
use borrow.Author.Rules.{rules}
use Rattle.bench_record.proofs.put_entry.Statement.{statement}
use Rattle.bench_record.proofs.put_entry.Tie as tie

returns : tie.Need-returns
unfolding Bytes.put_entry
returns c = rw (← c.put_number.ensures, ← c.put_number-2.ensures, ← c.put_number-3.ensures, ← c.put_number-4.ensures, ← c.put_number-5.ensures) c.put_number-6.ensures

pub put_entry_spec : {M : Type 1} → statement M
put_entry_spec =
    tie.close
    (tie.spec (λ c κs. search rules) (λ c. search rules) (λ c κs. search rules) (λ c. search rules) (λ c κs. search rules) (λ c. search rules) (λ c κs. search rules) (λ c. search rules) (λ c κs. search rules) (λ c. search rules) (λ c κs. search rules) (λ c. search rules) returns)
