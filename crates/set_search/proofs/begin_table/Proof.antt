-- `set_search::begin_table` meets its contract. Assumes nothing.
use mathlib.Core.Path.{◌≡◌, sym, ap, ◌∙◌}
use borrow.Author.Rules.{rules}
use lib.ListN.{length}
use Rattle.layout.specs.Words.{circuit_in}
use Rattle.set_search.proofs.Parts.{blank-is}
use Rattle.set_search.proofs.begin_table.Statement.{statement}
use Rattle.set_search.proofs.begin_table.Tie as tie

make-table-requires : tie.Need-make_table-requires
make-table-requires c κs = (c.requires.0, c.requires.1.0)

returns : tie.Need-returns
returns c =
    let a = c.args in
    c.make_table.ensures ∙ blank-is (circuit_in a.m.now) a.stage.b a.plan.now (length a.w.now) a.stage.share c.begin.new.w a.table.now c.begin.ensures c.requires.1.1

pub begin_table_spec : {M : Type 1} → statement M
begin_table_spec =
    tie.close
    (tie.spec (λ c κs. search rules) make-table-requires (λ c. search rules) (λ c. search rules) returns)
