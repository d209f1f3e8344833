-- `bench_record::number_at` meets its contract. Assumes nothing.
use Rattle.bench_record.proofs.Laws.{number_is}
use borrow.Author.Rules.{rules}
use Rattle.bench_record.proofs.number_at.Statement.{statement}
use Rattle.bench_record.proofs.number_at.Tie as tie

returns : tie.Need-returns
returns c = number_is c.args.bytes.now c.args.p c.half_at.result c.half_at-2.result c.half_at.ensures c.half_at-2.ensures

pub number_at_spec : {M : Type 1} → statement M
number_at_spec =
    tie.close
    (tie.spec (λ c κs. search rules) (λ c. search rules) (λ c κs. search rules) (λ c. search rules) (λ c. search rules) returns)
