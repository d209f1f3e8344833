-- `bench_record::half_at` meets its contract. Assumes nothing.
use Rattle.bench_record.proofs.Laws.{half_is}
use borrow.Author.Rules.{rules}
use Rattle.bench_record.proofs.half_at.Statement.{statement}
use Rattle.bench_record.proofs.half_at.Tie as tie

returns : tie.Need-returns
returns c = half_is c.args.bytes.now c.args.p c.byte.result c.byte-2.result c.byte-3.result c.byte-4.result c.byte.ensures c.byte-2.ensures c.byte-3.ensures c.byte-4.ensures

pub half_at_spec : {M : Type 1} → statement M
half_at_spec =
    tie.close
    (tie.spec (λ c κs. search rules) (λ c. search rules) (λ c κs. search rules) (λ c. search rules) (λ c. search rules) (λ c. search rules) (λ c κs. search rules) (λ c. search rules) (λ c. search rules) (λ c. search rules) (λ c κs. search rules) (λ c. search rules) (λ c. search rules) returns)
