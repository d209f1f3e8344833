-- `operand` meets its contract: a look at each operand.
-- Assumes nothing.
use Rattle.toposort.proofs.Looks.{first-fresh, first-open, second, next-left, next-right}
use native.Mathlib.Omega.{arith}
use mathlib.Core.Path.{◌≡◌, ap, ◌∙◌}
use Prim.Native.Nat.{◌+◌, ◌*◌, ◌/◌}
use lib.ListN.{get_or}
use Rattle.literals.specs.declared.Var.{Var}
use Rattle.literals.specs.declared.Lit.{Lit}
use borrow.Author.Rules.{rules}
use Rattle.toposort.proofs.operand.Statement.{statement}
use Rattle.toposort.proofs.operand.Tie as tie

-- the variables that were read
left-read : (c : tie.After-var-left) → (c.var-left.result.0 ≡ get_or
    c.args.lits.now (3 * c.args.g + 1) 0 / 2)
left-read c = ap (λ (v : Var). v.0) c.var-left.ensures ∙ ap (λ (l : Lit). l.0.0) c.from_word.ensures

right-read : (c : tie.After-var-right) →
    (c.var-right.result.0 ≡ get_or c.args.lits.now
    (3 * c.args.g + 2) 0 / 2)
right-read c = ap (λ (v : Var). v.0) c.var-right.ensures ∙ ap (λ (l : Lit). l.0.0) c.from_word-2.ensures

look-requires : tie.Need-look-requires
look-requires c κs =
    (rw (left-read c.before.before.before) (c.requires.0.left c.args.g c.requires.1.1), (c.requires.1.0, c.requires.0.bound))

look-requires-2 : tie.Need-look-requires-in-Done
look-requires-2 c κs =
    let g = c.args.g in
    (rw (right-read c.before.before) (c.requires.0.right g c.requires.1.1), (c.requires.1.0, c.requires.0.bound))

returns : tie.Need-returns-in-Fresh
returns c =
    let looked = rw (c.in-Fresh.is, left-read c.before.before.before.before.before) at
    c.look.ensures in (
      first-fresh c.args.lits.now c.args.base _ c.args.table.now c.args.pos.now _ c.requires.0 _ looked,
      next-left c.args.lits.now c.args.base _ c.args.table.now c.args.pos.now _ c.requires.1.1 c.requires.0 _ looked,
    )

returns-2 : tie.Need-returns-in-Open
returns-2 c = (
  first-open c.args.lits.now c.args.base _ c.args.table.now c.args.pos.now _ c.requires.0
      (rw (c.in-Open.is, left-read c.before.before.before.before.before) at c.look.ensures),
  λ left right o. tt,
)

returns-3 : tie.Need-returns-in-Done
returns-3 c =
    let looked2 = rw (right-read c.before.before.before) at c.look-in-Done.ensures in
    let looked = rw (c.in-Done.is, left-read c.before.before.before.before.before.before) at
    c.look.ensures in (
      second c.args.lits.now c.args.base _ c.args.table.now c.args.pos.now _ c.requires.0 looked
          c.look-in-Done.result looked2,
      next-right c.args.lits.now c.args.base _ c.args.table.now c.args.pos.now _ c.requires.1.1 c.requires.0 looked
          c.look-in-Done.result looked2,
    )

pub operand_spec : {M : Type 1} → statement M
operand_spec =
    tie.close
    (tie.spec (λ c. search rules) (λ c. search rules) (λ c. search rules) (λ c. search rules) (λ c κs. search rules) (λ c κs. search rules) (λ c. search rules) (λ c. search rules) (λ c. search rules) (λ c. search rules) (λ c κs. search rules) (λ c κs. search rules) look-requires (λ c. search rules) (λ c. search rules) (λ c. search rules) look-requires-2 returns returns-2 returns-3)
