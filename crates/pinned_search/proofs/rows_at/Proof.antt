-- `pinned_search::rows_at` meets its contract. Assumes nothing.
use mathlib.Core.Path.{ap}
use Prim.Native.Nat.{ℕ, ◌+◌}
use native.Mathlib.Omega.{arith}
use Rattle.numbers.proofs.Digits.{digits-most}
use borrow.Author.Rules.{rules}
use Rattle.pinned_search.proofs.rows_at.Statement.{statement}
use Rattle.pinned_search.proofs.rows_at.Tie as tie
use Rattle.pinned_search.proofs.rows_at.Reads as reads
use Rattle.pinned_search.proofs.rows_at.Lts as lts
use Rattle.numbers.proofs.digit_count.Reads as digit-count-reads

digit-count-requires : tie.Need-digit_count-requires
digit-count-requires c κs = tt

add-result : tie.Need-overflow_add-result
add-result c = omega (arith, c.digit_count.ensures, digits-most 9 c.args.b)

add-result-2 : tie.Need-overflow_add-result-2
add-result-2 c = omega arith

add-result-3 : tie.Need-overflow_add-result-3
add-result-3 c = omega (arith, c.digit_count.ensures, digits-most 9 c.args.b)

returns : tie.Need-returns
returns c = ap (λ (n : ℕ). 4 + n + (c.args.latches + 1)) c.digit_count.ensures

pub rows_at_spec : {M : Type 1} → statement M
rows_at_spec =
    tie.close (tie.spec digit-count-requires add-result add-result-2 add-result-3 returns)
