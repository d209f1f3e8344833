-- `generate::latches_length` meets its contract. The loop's invariant: what is counted and the length of what is left are the whole length,
-- and the generator comes to the same state. The measure is the number of latches left. Assumes nothing.
use mathlib.Core.Path.{◌≡◌, refl, sym, ap, ◌∙◌}
use Prim.Native.Nat.{ℕ, ◌+◌, ◌≤◌}
use native.Mathlib.Omega.{arith}
use borrow.Author.Rules.{rules}
use lib.ListN.{length}
use Rattle.generator.specs.declared.Generator.{Generator}
use Rattle.generated.specs.Generated.{after}
use Rattle.generated.specs.Parts.{latches_text}
use Rattle.generate.specs.declared.Place.{Place}
use Rattle.generate.proofs.Lines.{latch-longer, latch-after, latches-most, latches-end}
use Rattle.generate.proofs.latches_length.Statement.{statement}
use Rattle.generate.proofs.latches_length.Tie as tie

abbrev invariant-loop : tie.invariant-loop-left
invariant-loop first n literals total₀ state₀ v₀ left₀ total state v left =
    (v + left ≡ first + n)
    × (total + length (latches_text literals state.state v left) ≡ length (latches_text literals state₀.state first n))
    × (after left state.state ≡ after n state₀.state)

abbrev decreases-loop : tie.decreases-loop-left
decreases-loop first n literals total₀ state₀ v₀ left₀ total state v left = left

loop-holds : tie.Need-loop-left-init invariant-loop decreases-loop
loop-holds c = (refl, omega arith, refl)

choose-requires : tie.Need-choose-next-requires invariant-loop decreases-loop
choose-requires c κs = c.requires.some

mul-digit-count : tie.Need-overflow_mul-v invariant-loop decreases-loop
mul-digit-count c = omega (arith, c.requires, c.loop-left.invariant.0)

add_total : tie.Need-overflow_add-total invariant-loop decreases-loop
add_total c =
    let a = c.args in
    omega (arith, c.loop-left.invariant.1, c.digit_count.ensures, c.digit_count-in-loop-left.ensures, latch-longer c.loop-left.state c.choose-next.result a.literals c.loop-left.v c.loop-left.left c.choose-next.ensures c.loop-left-test.true, latches-most a.literals a.generator.state a.first a.n)

add-total-2 : tie.Need-overflow_add-total-in-loop-left invariant-loop decreases-loop
add-total-2 c =
    let a = c.args in
    omega (arith, c.loop-left.invariant.1, c.digit_count.ensures, c.digit_count-in-loop-left.ensures, latch-longer c.loop-left.state c.choose-next.result a.literals c.loop-left.v c.loop-left.left c.choose-next.ensures c.loop-left-test.true, latches-most a.literals a.generator.state a.first a.n)

add-total-3 : tie.Need-overflow_add-total-in-loop-left-2 invariant-loop decreases-loop
add-total-3 c =
    let a = c.args in
    omega (arith, c.loop-left.invariant.1, c.digit_count.ensures, c.digit_count-in-loop-left.ensures, latch-longer c.loop-left.state c.choose-next.result a.literals c.loop-left.v c.loop-left.left c.choose-next.ensures c.loop-left-test.true, latches-most a.literals a.generator.state a.first a.n)

add-v : tie.Need-overflow_add-v invariant-loop decreases-loop
add-v c = omega (arith, c.requires, c.loop-left.invariant.0)

sub-left : tie.Need-overflow_sub-left invariant-loop decreases-loop
sub-left c = omega (arith, c.loop-left-test.true)

loop-less : tie.Need-loop-left-smaller invariant-loop decreases-loop
loop-less c = omega (arith, c.loop-left-test.true)

loop-again : tie.Need-loop-left-preserved invariant-loop decreases-loop
loop-again c =
    let a = c.args in
    let t = c.loop-left-test.true in (
      omega (arith, c.loop-left.invariant.0, t),
      omega (arith, c.loop-left.invariant.1, c.digit_count.ensures, c.digit_count-in-loop-left.ensures, latch-longer c.loop-left.state c.choose-next.result a.literals c.loop-left.v c.loop-left.left c.choose-next.ensures t),
      sym (latch-after c.loop-left.state c.choose-next.result a.literals c.loop-left.v c.loop-left.left c.choose-next.ensures t) ∙ c.loop-left.invariant.2,
    )

returns : tie.Need-returns invariant-loop decreases-loop
returns c =
    let a = c.args in
    latches-end a.generator a.first a.n a.literals c.loop-left.total c.loop-left.state c.loop-left.v c.loop-left.left c.loop-left-test.false c.loop-left.invariant.1 c.loop-left.invariant.2

pub latches_length_spec : {M : Type 1} → statement M
latches_length_spec =
    tie.close
    (tie.spec invariant-loop decreases-loop loop-holds choose-requires mul-digit-count (λ c κs. search rules) (λ c κs. search rules) add_total add-total-2 add-total-3 add-v sub-left loop-less loop-again returns)
