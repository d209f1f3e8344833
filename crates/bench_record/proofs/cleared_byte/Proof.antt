-- `bench_record::cleared_byte` meets its contract. Assumes nothing.
use mathlib.Core.Path.{sym, ◌∙◌}
use borrow.Author.Rules.{rules}
use Rattle.bench_record.proofs.cleared_byte.Statement.{statement}
use Rattle.bench_record.proofs.cleared_byte.Tie as tie

returns : tie.Need-returns-then-is_inside
returns c = rw (sym c.is_inside.ensures ∙ c.if-is_inside.true)

returns-2 : tie.Need-returns-else-is_inside
returns-2 c = rw (sym c.is_inside.ensures ∙ c.if-is_inside.false)

pub cleared_byte_spec : {M : Type 1} → statement M
cleared_byte_spec =
    tie.close
    (tie.spec (λ c κs. search rules) returns returns-2)
