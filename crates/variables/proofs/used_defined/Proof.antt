-- `used_defined` meets its contract, column by column.
-- Assumes nothing.
use Rattle.std.proofs.lemmas.Bool.{not_from_true}
use Rattle.std.proofs.lemmas.Bool.{not_from_false}
use Rattle.variables.specs.Table.{Known}
use Rattle.variables.proofs.Wholes.{column-fails, column-holds, columns-hold}
use Rattle.columns.specs.declared.Role.TheVariants.{Next, Root, Left, Right}
use Rattle.columns.proofs.Parts.{inside}
use borrow.Author.Rules.{rules}
use Rattle.variables.proofs.used_defined.Statement.{statement}
use Rattle.variables.proofs.used_defined.Tie as tie

all-known-requires : tie.Need-all_known-requires
all-known-requires c κs =
    rw c.column_of.ensures (inside c.args.w.now c.requires.0 Next, c.requires.1.nexts)

returns : tie.Need-returns-then-not-all_known
returns c =
    column-fails c.args.w.now (Known c.args.table.now) c.column_of.ensures (λ u. u.nexts)
    c.all_known.result (not_from_false _ c.if-not-all_known.true) c.all_known.ensures

all-known-requires-2 : tie.Need-all_known-requires-2
all-known-requires-2 c κs =
    rw c.column_of-2.ensures (inside c.args.w.now c.requires.0 Root, c.requires.1.roots)

returns-2 : tie.Need-returns-then-not-all_known-2
returns-2 c =
    column-fails c.args.w.now (Known c.args.table.now) c.column_of-2.ensures (λ u. u.roots)
    c.all_known-2.result (not_from_false _ c.if-not-all_known-2.true) c.all_known-2.ensures

all-known-requires-3 : tie.Need-all_known-requires-3
all-known-requires-3 c κs =
    rw c.column_of-3.ensures (inside c.args.w.now c.requires.0 Left, c.requires.1.lefts)

returns-3 : tie.Need-returns-then-not-all_known-3
returns-3 c =
    column-fails c.args.w.now (Known c.args.table.now) c.column_of-3.ensures (λ u. u.lefts)
    c.all_known-3.result (not_from_false _ c.if-not-all_known-3.true) c.all_known-3.ensures

all-known-requires-4 : tie.Need-all_known-requires-4
all-known-requires-4 c κs =
    rw c.column_of-4.ensures (inside c.args.w.now c.requires.0 Right, c.requires.1.rights)

returns-4 : tie.Need-returns
returns-4 c =
    columns-hold c.args.w.now (Known c.args.table.now) c.column_of-4.ensures
    c.all_known-4.result c.all_known-4.ensures
    (column-holds c.args.w.now (Known c.args.table.now) c.column_of.ensures c.all_known.result
    (not_from_true _ c.if-not-all_known.false) c.all_known.ensures)
    (column-holds c.args.w.now (Known c.args.table.now) c.column_of-2.ensures c.all_known-2.result
    (not_from_true _ c.if-not-all_known-2.false) c.all_known-2.ensures)
    (column-holds c.args.w.now (Known c.args.table.now) c.column_of-3.ensures c.all_known-3.result
    (not_from_true _ c.if-not-all_known-3.false) c.all_known-3.ensures)

pub used_defined_spec : {M : Type 1} → statement M
used_defined_spec =
    tie.close
    (tie.spec (λ c κs. search rules) all-known-requires returns (λ c κs. search rules) all-known-requires-2 returns-2 (λ c κs. search rules) all-known-requires-3 returns-3 (λ c κs. search rules) all-known-requires-4 returns-4)
