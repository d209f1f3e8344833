-- `bench_record::is_free` meets its contract. Assumes nothing.
use native.Mathlib.Omega.{arith}
use mathlib.Core.Path.{sym, ◌∙◌}
use Rattle.bench_record.proofs.Laws.{free-beyond, free-absent, free_in}
use borrow.Author.Rules.{rules}
use Rattle.bench_record.proofs.is_free.Statement.{statement}
use Rattle.bench_record.proofs.is_free.Tie as tie

returns : tie.Need-returns-then-n-gt15
returns c = free-beyond c.args.shared.now c.args.user c.args.n c.if-n-gt15.true

returns-2 : tie.Need-returns-then-not-is_there
returns-2 c = free-absent c.args.shared.now c.args.user c.args.n (omega arith) (sym c.is_there.ensures ∙ c.if-not-is_there.true)

returns-3 : tie.Need-returns
returns-3 c = free_in c.args.shared.now c.args.user c.args.n c.entry_of-e.result (omega arith) (sym c.is_there.ensures ∙ c.if-not-is_there.false) c.entry_of-e.ensures

pub is_free_spec : {M : Type 1} → statement M
is_free_spec =
    tie.close
    (tie.spec returns (λ c κs. search rules) returns-2 (λ c κs. search rules) returns-3)
