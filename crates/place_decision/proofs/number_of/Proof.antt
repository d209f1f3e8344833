-- `place_decision::number_of` meets its contract. Assumes nothing.
use mathlib.Core.Path.{◌≡◌, refl, ap, ◌∙◌}
use Prim.Native.Nat.{ℕ, ◌-◌, ◌≤◌, min}
use native.Mathlib.Omega.{arith}
use lib.ListN.{get_or}
use Rattle.place_decision.specs.Decided.{number_of}
use Rattle.place_decision.proofs.Numbers.{number-none, number_more}
use borrow.Author.Rules.{rules}
use Rattle.place_decision.proofs.number_of.Statement.{statement}
use Rattle.place_decision.proofs.number_of.Tie as tie

abbrev invariant-loop : tie.invariant-loop-j
invariant-loop bits n x₀ j₀ x j = (j ≤ n) × (x ≡ min 9223372036854775808 (number_of bits j))

abbrev decreases-loop : tie.decreases-loop-j
decreases-loop bits n x₀ j₀ x j = n - j

loop-holds : tie.Need-loop-j-init invariant-loop decreases-loop
loop-holds c = (omega arith, omega (arith, number-none c.args.bits.now))

mul-next-number : tie.Need-offset_bounds-bits-j invariant-loop decreases-loop
mul-next-number c = omega arith

shared-slice-read-next-number : tie.Need-bounds-bits-j invariant-loop decreases-loop
shared-slice-read-next-number c = omega (arith, c.requires)

next-number-requires : tie.Need-next_number-x-requires invariant-loop decreases-loop
next-number-requires c κs = omega (arith, c.loop-j.invariant.1)

add-j : tie.Need-overflow_add-j invariant-loop decreases-loop
add-j c = omega arith

loop-less : tie.Need-loop-j-smaller invariant-loop decreases-loop
loop-less c = omega arith

loop-again : tie.Need-loop-j-preserved invariant-loop decreases-loop
loop-again c =
    let a = c.args in
    (omega arith, number_more a.bits.now c.loop-j.j c.loop-j.x (get_or a.bits.now c.loop-j.j 0) c.next_number-x.result c.loop-j.invariant.1 refl c.next_number-x.ensures)

returns : tie.Need-returns invariant-loop decreases-loop
returns c =
    let e : c.loop-j.j ≡ c.args.n = omega arith in
    c.loop-j.invariant.1 ∙ ap (λ (k : ℕ). min 9223372036854775808 (number_of c.args.bits.now k)) e

pub number_of_spec : {M : Type 1} → statement M
number_of_spec =
    tie.close
    (tie.spec invariant-loop decreases-loop loop-holds mul-next-number shared-slice-read-next-number next-number-requires add-j loop-less loop-again returns)
