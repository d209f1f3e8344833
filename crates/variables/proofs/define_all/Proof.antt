-- `define_all` meets its contract: the three columns are the definitions in file order.
-- Assumes nothing.
use Rattle.std.proofs.lemmas.Bool.{not_from_true}
use Rattle.std.proofs.lemmas.Bool.{not_from_false}
use Rattle.variables.proofs.Wholes.{inputs-next, latches-next, gates-next}
use borrow.Author.Tests.{not-true, not-false}
use borrow.Author.Rules.{rules}
use Rattle.variables.proofs.define_all.Statement.{statement}
use Rattle.variables.proofs.define_all.Tie as tie

define-requires : tie.Need-define-requires
define-requires c κs =
    rw c.column_of.ensures (inputs-next c.args.w.now c.requires.0 c.args.table.now c.requires.1.0 c.requires.1.1)

returns : tie.Need-returns-then-not-define
returns c = rw (not-true c.define.result (not_from_false _ c.if-not-define.true)) at c.define.ensures

define-requires-2 : tie.Need-define-requires-2
define-requires-2 c κs =
    rw c.column_of-2.ensures
    (latches-next c.args.w.now c.requires.0 c.define.new.table
    (rw (
      not-false c.define.result
          (not_from_true _ c.if-not-define.false),
      c.column_of.ensures,
    ) at
    c.define.ensures))

returns-2 : tie.Need-returns-then-not-define-2
returns-2 c =
    rw (not-true c.define-2.result (not_from_false _ c.if-not-define-2.true)) at c.define-2.ensures

define-requires-3 : tie.Need-define-requires-3
define-requires-3 c κs =
    rw c.column_of-3.ensures
    (gates-next c.args.w.now c.requires.0 c.define-2.new.table
    (rw (
      not-false c.define-2.result
          (not_from_true _ c.if-not-define-2.false),
      c.column_of-2.ensures,
    ) at
    c.define-2.ensures))

returns-3 : tie.Need-returns
returns-3 c = rw c.column_of-3.ensures at c.define-3.ensures

pub define_all_spec : {M : Type 1} → statement M
define_all_spec =
    tie.close
    (tie.spec (λ c. search rules) (λ c κs. search rules) define-requires (λ c. search rules) returns (λ c. search rules) (λ c κs. search rules) define-requires-2 (λ c. search rules) returns-2 (λ c κs. search rules) (λ c. search rules) (λ c. search rules) define-requires-3 (λ c. search rules) returns-3)
