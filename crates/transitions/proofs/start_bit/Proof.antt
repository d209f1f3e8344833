-- `transitions::start_bit` meets its contract. Assumes nothing.
use mathlib.Core.Path.{sym, ◌∙◌}
use Rattle.transitions.proofs.Packing.{bit-value}
use borrow.Author.Rules.{rules}
use Rattle.transitions.proofs.start_bit.Statement.{statement}
use Rattle.transitions.proofs.start_bit.Tie as tie

equals-requires : tie.Need-equals-requires
equals-requires c κs = tt

returns : tie.Need-returns-then-equals
returns c = rw (sym c.equals.ensures ∙ c.if-equals.true) (bit-value c.args.y c.args.k)

is-true-requires : tie.Need-is_true-requires
is-true-requires c κs = tt

returns-2 : tie.Need-returns-then-is_true
returns-2 c = rw (sym c.equals.ensures ∙ c.if-equals.false, sym c.is_true.ensures ∙ c.if-is_true.true)

returns-3 : tie.Need-returns-else-is_true
returns-3 c = rw (sym c.equals.ensures ∙ c.if-equals.false, sym c.is_true.ensures ∙ c.if-is_true.false)

pub start_bit_spec : {M : Type 1} → statement M
start_bit_spec =
    tie.close
    (tie.spec equals-requires (λ c. search rules) returns is-true-requires returns-2 returns-3)
