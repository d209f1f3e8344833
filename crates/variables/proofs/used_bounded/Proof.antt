-- `used_bounded` meets its contract, column by column.
-- Assumes nothing.
use Rattle.std.proofs.lemmas.Bool.{not_from_true}
use Rattle.std.proofs.lemmas.Bool.{not_from_false}
use Rattle.variables.proofs.Wholes.{column-fails, column-holds, columns-hold}
use Rattle.columns.specs.declared.Role.TheVariants.{Next, Root, Left, Right}
use Rattle.columns.proofs.Parts.{inside}
use Rattle.layout.specs.Words.{word}
use mathlib.Core.List.{List}
use Prim.Native.Nat.{ℕ, ◌/◌, ◌≤◌}
use borrow.Author.Rules.{rules}
use Rattle.variables.proofs.used_bounded.Statement.{statement}
use Rattle.variables.proofs.used_bounded.Tie as tie

abbrev fits : List ℕ → ℕ → Type 0
fits w l = l / 2 ≤ word w 0

bounded-requires : tie.Need-bounded-requires
bounded-requires c κs =
    rw c.column_of.ensures (inside c.args.w.now c.requires Next)

returns : tie.Need-returns-then-not-bounded
returns c =
    column-fails c.args.w.now (fits c.args.w.now) c.column_of.ensures (λ u. u.nexts)
    c.bounded.result (not_from_false _ c.if-not-bounded.true) c.bounded.ensures

bounded-requires-2 : tie.Need-bounded-requires-2
bounded-requires-2 c κs =
    rw c.column_of-2.ensures (inside c.args.w.now c.requires Root)

returns-2 : tie.Need-returns-then-not-bounded-2
returns-2 c =
    column-fails c.args.w.now (fits c.args.w.now) c.column_of-2.ensures (λ u. u.roots)
    c.bounded-2.result (not_from_false _ c.if-not-bounded-2.true) c.bounded-2.ensures

bounded-requires-3 : tie.Need-bounded-requires-3
bounded-requires-3 c κs =
    rw c.column_of-3.ensures (inside c.args.w.now c.requires Left)

returns-3 : tie.Need-returns-then-not-bounded-3
returns-3 c =
    column-fails c.args.w.now (fits c.args.w.now) c.column_of-3.ensures (λ u. u.lefts)
    c.bounded-3.result (not_from_false _ c.if-not-bounded-3.true) c.bounded-3.ensures

bounded-requires-4 : tie.Need-bounded-requires-4
bounded-requires-4 c κs =
    rw c.column_of-4.ensures (inside c.args.w.now c.requires Right)

returns-4 : tie.Need-returns
returns-4 c =
    columns-hold c.args.w.now (fits c.args.w.now) c.column_of-4.ensures c.bounded-4.result c.bounded-4.ensures
    (column-holds c.args.w.now (fits c.args.w.now)
    c.column_of.ensures c.bounded.result
    (not_from_true _ c.if-not-bounded.false) c.bounded.ensures)
    (column-holds c.args.w.now (fits c.args.w.now)
    c.column_of-2.ensures c.bounded-2.result
    (not_from_true _ c.if-not-bounded-2.false) c.bounded-2.ensures)
    (column-holds c.args.w.now (fits c.args.w.now) c.column_of-3.ensures
    c.bounded-3.result
    (not_from_true _ c.if-not-bounded-3.false) c.bounded-3.ensures)

pub used_bounded_spec : {M : Type 1} → statement M
used_bounded_spec =
    tie.close
    (tie.spec (λ c. search rules) (λ c κs. search rules) bounded-requires returns (λ c κs. search rules) bounded-requires-2 returns-2 (λ c κs. search rules) bounded-requires-3 returns-3 (λ c κs. search rules) bounded-requires-4 returns-4)
