-- `set_table::with_reset` meets its contract. Assumes nothing.
use mathlib.Core.Path.{sym, ◌∙◌}
use native.Mathlib.Omega.{arith}
use borrow.Author.Rules.{rules}
use Rattle.layout.specs.Words.{circuit_in}
use Rattle.diagrams.specs.States.{state_of}
use Rattle.set_table.proofs.Resets.{with-free, with-given}
use Rattle.set_table.proofs.with_reset.Statement.{statement}
use Rattle.set_table.proofs.with_reset.Tie as tie

is-free-requires : tie.Need-is_free-requires
is-free-requires c κs = c.requires

returns : tie.Need-returns-then-is_free
returns c =
    let a = c.args in
    with-free (circuit_in a.m.now) a.v a.j (state_of a.w.now) a.e (sym c.is_free.ensures ∙ c.if-is_free.true)

reset-word-requires : tie.Need-reset_word-value-requires
reset-word-requires c κs = c.requires

sub-with-value : tie.Need-overflow_sub-value
sub-with-value c = omega (arith, c.reset_word-value.ensures.1)

same_length : tie.Need-shape_of-w
same_length c = c.with_value.auto.w

returns-2 : tie.Need-returns
returns-2 c =
    let a = c.args in
    with-given (circuit_in a.m.now) a.v a.j (state_of a.w.now) a.e (sym c.is_free.ensures ∙ c.if-is_free.false) c.reset_word-value.result
    c.reset_word-value.ensures.0 _ c.with_value.ensures

pub with_reset_spec : {M : Type 1} → statement M
with_reset_spec =
    tie.close
    (tie.spec is-free-requires returns reset-word-requires sub-with-value (λ c κs. search rules) same_length returns-2)
