-- `check` meets its contract. Each answer is the first cause that its calls decide.
-- Assumes nothing.
use mathlib.Core.Bool.{true}
use native.Mathlib.Omega.{arith}
use borrow.Author.Rules.{rules}
use borrow.Author.Tests.{not-true, not-false}
use lib.Dec.{T}
use Rattle.aiger.specs.Circuit.{used_defined}
use Rattle.meaning.proofs.Lists.{get_d-zeros}
use Rattle.layout.specs.Words.{circuit_in}
use Rattle.variables.specs.Table.{Tested}
use Rattle.variables.proofs.Causes.{uses-in, uses-out}
use Rattle.variables.proofs.Wholes.{used-room}
use Rattle.validity.proofs.Judging.{judged-six, judged-seven, judged-eight, judged-right}
use Rattle.validity.proofs.check.Statement.{statement}
use Rattle.validity.proofs.check.Tie as tie

-- where cause 6 did not refuse
six : (n : tie.Else-not-literals_right)
    → Tested n.args.w.now n.literals_right.new.table true
six n =
    rw n.if-not-literals_right.false at n.literals_right.ensures

-- where cause 7 did not refuse
seven : (n : tie.Else-not-used_defined)
    → T (used_defined (circuit_in n.args.w.now))
seven n =
    uses-in _ n.literals_right.new.table (six n.before.before.before).1
    (rw n.if-not-used_defined.false at n.used_defined.ensures)

literals-right-requires : tie.Need-literals_right-requires
literals-right-requires c κs =
    (c.requires.0, (omega (arith, c.requires.0.max_var), λ v. get_d-zeros 4097 v))

returns : tie.Need-returns-then-not-literals_right
returns c = (
  judged-six _ (rw c.if-not-literals_right.true at c.literals_right.ensures).0,
  c.clear.ensures,
)

used-defined-requires : tie.Need-used_defined-requires
used-defined-requires c κs =
    (c.requires.0, used-room c.args.w.now c.literals_right.new.table (six c.before).1 (six c.before).0)

returns-2 : tie.Need-returns-then-not-used_defined
returns-2 c = (
  judged-seven _ (six c.before.before.before.before.before.before.before).0
      (λ t. (rw c.if-not-used_defined.true at c.used_defined.ensures)
      (uses-out _ c.literals_right.new.table (six c.before.before.before.before.before.before.before).1 t)),
  c.clear-then-not-used_defined.ensures,
)

ordered-requires : tie.Need-ordered-requires
ordered-requires c κs =
    (c.requires.0, ((six c.before.before.before.before.before).0, ((six c.before.before.before.before.before).1, c.requires.1)))

returns-3 : tie.Need-returns-then-not-ordered
returns-3 c =
    let eight = rw c.if-not-ordered.true at c.ordered.ensures in
    (judged-eight _ (six c.before.before.before.before.before.before.before.before.before).0 (seven c.before.before.before.before.before.before) eight.0, eight.1)

returns-4 : tie.Need-returns
returns-4 c =
    let eight = rw c.if-not-ordered.false at c.ordered.ensures in
    ((judged-right _ (six c.before.before.before.before.before.before.before.before.before).0 (seven c.before.before.before.before.before.before) eight.0, eight.1), eight.2)

pub check_spec : {M : Type 1} → statement M
check_spec =
    tie.close
    (tie.spec (λ c. search rules) literals-right-requires (λ c κs. search rules) (λ c. search rules) returns (λ c. search rules) used-defined-requires (λ c κs. search rules) (λ c. search rules) returns-2 (λ c. search rules) ordered-requires (λ c. search rules) returns-3 (λ c. search rules) returns-4)
