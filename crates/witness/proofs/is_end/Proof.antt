-- `witness::is_end` meets its contract: each answer by how many bytes are left, and by those bytes. Assumes nothing.
use mathlib.Core.Path.{sym}
use native.Mathlib.Omega.{arith}
use borrow.Author.Rules.{rules}
use Rattle.witness.proofs.Lines.{not_end, not-dot, dot}
use Rattle.witness.proofs.is_end.Statement.{statement}
use Rattle.witness.proofs.is_end.Tie as tie

returns : tie.Need-returns-then-text-at
returns c = let a = c.args in sym (not_end a.text.now a.at (λ e. omega arith))

returns-2 : tie.Need-returns-then-text-at-ne2
returns-2 c = let a = c.args in sym (not_end a.text.now a.at c.if-text-at-ne2.true)

returns-3 : tie.Need-returns-then-text-at-ne46
returns-3 c =
    let a = c.args in
    sym (not-dot a.text.now a.at c.if-text-at-ne2.false c.if-text-at-ne46.true)

returns-4 : tie.Need-returns
returns-4 c =
    let a = c.args in
    sym (dot a.text.now a.at c.if-text-at-ne2.false c.if-text-at-ne46.false)

pub is_end_spec : {M : Type 1} → statement M
is_end_spec = tie.close (tie.spec returns (λ c. search rules) returns-2 (λ c. search rules) returns-3 (λ c. search rules) (λ c. search rules) returns-4)
