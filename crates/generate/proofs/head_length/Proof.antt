-- `generate::head_length` meets its contract. Assumes nothing.
use mathlib.Core.Path.{◌≡◌, ap}
use Prim.Native.Nat.{ℕ, ◌+◌, ◌≤◌}
use native.Mathlib.Omega.{arith}
use borrow.Author.Rules.{rules}
use lib.ListN.{length}
use Rattle.aiger.specs.Text.{digits}
use Rattle.numbers.proofs.Digits.{digits-most}
use Rattle.generated.proofs.Short.{head-length}
use Rattle.generate.proofs.head_length.Statement.{statement}
use Rattle.generate.proofs.head_length.Tie as tie

add-few : tie.Need-overflow_add-few
add-few c =
    let n = c.args.n in
    omega (arith, c.digit_count.ensures, c.digit_count-2.ensures, digits-most 9 n.inputs, digits-most 9 n.latches)

add-result : tie.Need-overflow_add-result
add-result c =
    let n = c.args.n in
    omega (arith, c.digit_count-3.ensures, digits-most 9 c.args.all)

add-result-2 : tie.Need-overflow_add-result-2
add-result-2 c =
    let n = c.args.n in
    omega (arith, c.digit_count.ensures, c.digit_count-2.ensures, digits-most 9 n.inputs, digits-most 9 n.latches, c.digit_count-3.ensures, digits-most 9 c.args.all)

add-result-3 : tie.Need-overflow_add-result-3
add-result-3 c =
    let n = c.args.n in
    omega (arith, c.digit_count.ensures, c.digit_count-2.ensures, digits-most 9 n.inputs, digits-most 9 n.latches, c.digit_count-3.ensures, digits-most 9 c.args.all, c.digit_count-4.ensures, digits-most 9 n.gates)

returns : tie.Need-returns
returns c =
    let n = c.args.n in
    let sum : length (digits c.args.all) ≡ length (digits (n.inputs + n.latches + n.gates)) = ap (λ (x : ℕ). length (digits x)) c.requires in
    omega (arith, head-length n.inputs n.latches n.gates, c.digit_count.ensures, c.digit_count-2.ensures, c.digit_count-3.ensures, c.digit_count-4.ensures)

pub head_length_spec : {M : Type 1} → statement M
head_length_spec =
    tie.close
    (tie.spec (λ c κs. search rules) (λ c κs. search rules) add-few (λ c κs. search rules) add-result add-result-2 (λ c κs. search rules) add-result-3 returns)
