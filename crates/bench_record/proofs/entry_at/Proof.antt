-- `bench_record::entry_at` meets its contract. Assumes nothing.
use Rattle.bench_record.proofs.Laws.{entry-is}
use borrow.Author.Rules.{rules}
use Rattle.bench_record.proofs.entry_at.Statement.{statement}
use Rattle.bench_record.proofs.entry_at.Tie as tie

returns : tie.Need-returns
returns c = entry-is c.args.bytes.now c.args.p c.number_at-stage.result c.number_at-b.result c.number_at-k.result c.number_at-budget.result c.number_at-frame.result c.number_at-place.result c.meant.result c.meant.ensures c.number_at-stage.ensures c.number_at-b.ensures c.number_at-k.ensures c.number_at-budget.ensures c.number_at-frame.ensures c.number_at-place.ensures

pub entry_at_spec : {M : Type 1} → statement M
entry_at_spec =
    tie.close
    (tie.spec (λ c κs. search rules) (λ c. search rules) (λ c κs. search rules) (λ c. search rules) (λ c κs. search rules) (λ c. search rules) (λ c κs. search rules) (λ c. search rules) (λ c κs. search rules) (λ c. search rules) (λ c κs. search rules) (λ c κs. search rules) returns)
