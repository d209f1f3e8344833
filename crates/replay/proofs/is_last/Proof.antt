-- `replay::is_last` meets its contract: each answer by how many bytes are left, and by those bytes. Assumes nothing.
use mathlib.Core.Path.{sym, ◌∙◌}
use Prim.Native.Nat.{◌+◌}
use native.Mathlib.Omega.{arith}
use borrow.Author.Rules.{rules}
use Rattle.witness.proofs.Lines.{not_end, not-dot, dot}
use Rattle.replay.proofs.Symbols.{same-dot, no-dot, feed-test}
use Rattle.replay.proofs.is_last.Statement.{statement}
use Rattle.replay.proofs.is_last.Tie as tie

returns : tie.Need-returns-then-text-at
returns c = λ u h. let a = c.args in sym (not_end u a.at (λ e. omega (arith, h.size)))

returns-2 : tie.Need-returns-then-text-at-ne2
returns-2 c = λ u h. let a = c.args in sym (not_end u a.at (λ e. c.if-text-at-ne2.true (omega (arith, h.size))))

returns-3 : tie.Need-returns-then-text-at-ne46
returns-3 c = λ u h.
    let a = c.args in
    sym (not-dot u a.at (omega (arith, h.size, c.if-text-at-ne2.false)) (no-dot h a.at c.if-text-at-ne46.true))

returns-4 : tie.Need-returns
returns-4 c = λ u h.
    let a = c.args in
    feed-test h (a.at + 1)
    ∙ sym (dot u a.at (omega (arith, h.size, c.if-text-at-ne2.false)) (same-dot h a.at c.if-text-at-ne46.false))

pub is_last_spec : {M : Type 1} → statement M
is_last_spec = tie.close (tie.spec returns (λ c. search rules) returns-2 (λ c. search rules) returns-3 (λ c. search rules) (λ c. search rules) returns-4)
