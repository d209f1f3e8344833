-- `generate::gates_length` meets its contract. The loop's invariant: what is counted and the length of what is left are the whole length.
-- The measure is the number of gates left. Assumes nothing.
use mathlib.Core.Path.{◌≡◌, refl, ap, ◌∙◌}
use Prim.Native.Nat.{ℕ, ◌+◌, ◌*◌, ◌≤◌, ◌<◌}
use native.Mathlib.Omega.{arith}
use borrow.Author.Rules.{rules}
use lib.ListN.{length}
use Rattle.generated.specs.Parts.{gates_text}
use Rattle.generate.proofs.Lines.{gate-longer, gates-most, gates-done}
use Rattle.generate.proofs.gates_length.Statement.{statement}
use Rattle.generate.proofs.gates_length.Tie as tie

abbrev invariant-loop : tie.invariant-loop-left
invariant-loop first n total₀ state₀ v₀ left₀ total state v left =
    (v + left ≡ first + n)
    × (0 < v)
    × (total + length (gates_text state.state v left) ≡ length (gates_text state₀.state first n))

abbrev decreases-loop : tie.decreases-loop-left
decreases-loop first n total₀ state₀ v₀ left₀ total state v left = left

loop-holds : tie.Need-loop-left-init invariant-loop decreases-loop
loop-holds c = (refl, c.requires.0, omega arith)

mul-own : tie.Need-overflow_mul-own invariant-loop decreases-loop
mul-own c = omega (arith, c.requires.1, c.loop-left.invariant.0)

choose-operands-requires : tie.Need-choose_operands-of-requires invariant-loop decreases-loop
choose-operands-requires c κs = omega (arith, c.loop-left.invariant.1)

add_total : tie.Need-overflow_add-total invariant-loop decreases-loop
add_total c =
    let a = c.args in
    omega (arith, c.loop-left.invariant.2, c.digit_count.ensures, c.digit_count-in-loop-left.ensures, gate-longer c.loop-left.state c.choose_operands-of.result c.loop-left.v c.loop-left.left c.choose_operands-of.ensures c.loop-left-test.true, gates-most a.generator.state a.first a.n)

add-total-2 : tie.Need-overflow_add-total-in-loop-left invariant-loop decreases-loop
add-total-2 c =
    let a = c.args in
    omega (arith, c.loop-left.invariant.2, c.digit_count.ensures, c.digit_count-in-loop-left.ensures, c.digit_count-in-loop-left-2.ensures, gate-longer c.loop-left.state c.choose_operands-of.result c.loop-left.v c.loop-left.left c.choose_operands-of.ensures c.loop-left-test.true, gates-most a.generator.state a.first a.n)

add-total-3 : tie.Need-overflow_add-total-in-loop-left-2 invariant-loop decreases-loop
add-total-3 c =
    let a = c.args in
    omega (arith, c.loop-left.invariant.2, c.digit_count.ensures, c.digit_count-in-loop-left.ensures, c.digit_count-in-loop-left-2.ensures, gate-longer c.loop-left.state c.choose_operands-of.result c.loop-left.v c.loop-left.left c.choose_operands-of.ensures c.loop-left-test.true, gates-most a.generator.state a.first a.n)

add-total-4 : tie.Need-overflow_add-total-in-loop-left-3 invariant-loop decreases-loop
add-total-4 c =
    let a = c.args in
    omega (arith, c.loop-left.invariant.2, c.digit_count.ensures, c.digit_count-in-loop-left.ensures, c.digit_count-in-loop-left-2.ensures, gate-longer c.loop-left.state c.choose_operands-of.result c.loop-left.v c.loop-left.left c.choose_operands-of.ensures c.loop-left-test.true, gates-most a.generator.state a.first a.n)

add-v : tie.Need-overflow_add-v invariant-loop decreases-loop
add-v c = omega (arith, c.requires.1, c.loop-left.invariant.0)

sub-left : tie.Need-overflow_sub-left invariant-loop decreases-loop
sub-left c = omega (arith, c.loop-left-test.true)

loop-less : tie.Need-loop-left-smaller invariant-loop decreases-loop
loop-less c = omega (arith, c.loop-left-test.true)

loop-again : tie.Need-loop-left-preserved invariant-loop decreases-loop
loop-again c =
    let t = c.loop-left-test.true in (
      omega (arith, c.loop-left.invariant.0, t),
      omega (arith, c.loop-left.invariant.1),
      omega (arith, c.loop-left.invariant.2, c.digit_count.ensures, c.digit_count-in-loop-left.ensures, c.digit_count-in-loop-left-2.ensures, gate-longer c.loop-left.state c.choose_operands-of.result c.loop-left.v c.loop-left.left c.choose_operands-of.ensures t),
    )

returns : tie.Need-returns invariant-loop decreases-loop
returns c =
    omega (arith, c.loop-left.invariant.2, ap length (gates-done c.loop-left.state.state c.loop-left.v c.loop-left.left c.loop-left-test.false))

pub gates_length_spec : {M : Type 1} → statement M
gates_length_spec =
    tie.close
    (tie.spec invariant-loop decreases-loop loop-holds mul-own choose-operands-requires (λ c κs. search rules) (λ c κs. search rules) add_total (λ c κs. search rules) add-total-2 add-total-3 add-total-4 add-v sub-left loop-less loop-again returns)
