-- `ternary::is_sure` meets its contract. Assumes nothing.
use mathlib.Core.Path.{sym, ap, ◌∙◌}
use lib.Dec.{eqb}
use Rattle.literals.proofs.Words.{literal-word}
use Rattle.ternary.specs.Entries.{may_of}
use Rattle.ternary.specs.declared.May.{May}
use borrow.Author.Rules.{rules}
use Rattle.ternary.proofs.is_sure.Statement.{statement}
use Rattle.ternary.proofs.is_sure.Tie as tie

returns : tie.Need-returns
returns c =
    let a = c.args in
    ap (λ (x : May). eqb x.low 0) (c.read.ensures ∙ ap (may_of a.can.now) (sym (literal-word a.l)))

pub is_sure_spec : {M : Type 1} → statement M
is_sure_spec =
    tie.close
    (tie.spec (λ c κs. search rules) returns)
