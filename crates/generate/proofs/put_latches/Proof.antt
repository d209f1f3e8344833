-- `generate::put_latches` meets its contract. The loop's invariant: the lines are written but for those that are left, and the generator
-- comes to the same state. The measure is the number of latches left. Assumes nothing.
use mathlib.Core.Path.{◌≡◌, refl, sym, ◌∙◌}
use mathlib.Core.List.{[], ◌∷◌}
use Prim.Native.Nat.{ℕ, ◌+◌, ◌-◌, ◌*◌, ◌≤◌}
use native.Mathlib.Omega.{arith}
use borrow.Author.Rules.{rules}
use Rattle.aiger.specs.Write.{line_of}
use Rattle.output.proofs.Output.{Rest, rest-start, rest-room, rest_more, rest_end}
use Rattle.generated.specs.Generated.{after}
use Rattle.generated.specs.Parts.{latches_text}
use Rattle.generate.proofs.Lines.{latch-line, latch-after, latches-done, after-done}
use Rattle.generate.proofs.put_latches.Statement.{statement}
use Rattle.generate.proofs.put_latches.Tie as tie

abbrev invariant-loop : tie.invariant-loop-left
invariant-loop out₀ first n literals end₀ state₀ v₀ left₀ out end state v left =
    (v + left ≡ first + n)
    × Rest out₀ end₀ (latches_text literals state₀.state first n) out end (latches_text literals state.state v left)
    × (after left state.state ≡ after n state₀.state)

abbrev decreases-loop : tie.decreases-loop-left
decreases-loop out₀ first n literals end₀ state₀ v₀ left₀ out end state v left = left

loop-holds : tie.Need-loop-left-init invariant-loop decreases-loop
loop-holds c =
    let a = c.args in
    (refl, rest-start a.out.now a.from.at (latches_text a.literals a.from.generator.state a.first a.n), refl)

choose-requires : tie.Need-choose-next-requires invariant-loop decreases-loop
choose-requires c κs = c.requires.0.some

mul-put-two : tie.Need-overflow_mul-v invariant-loop decreases-loop
mul-put-two c = omega (arith, c.requires.0, c.loop-left.invariant.0)

put-two-requires : tie.Need-put_two-end-requires invariant-loop decreases-loop
put-two-requires c κs =
    let n = c.args.literals in
    rest-room (line_of (2 * c.loop-left.v) (c.choose-next.result.literal ∷ [])) (latches_text n c.choose-next.result.generator.state (c.loop-left.v + 1) (c.loop-left.left - 1))
    c.requires.1
    (rw (latch-line c.loop-left.state c.choose-next.result n c.loop-left.v c.loop-left.left c.choose-next.ensures c.loop-left-test.true) at c.loop-left.invariant.1)

add-v : tie.Need-overflow_add-v invariant-loop decreases-loop
add-v c = omega (arith, c.requires.0, c.loop-left.invariant.0)

sub-left : tie.Need-overflow_sub-left invariant-loop decreases-loop
sub-left c = omega (arith, c.loop-left-test.true)

loop-less : tie.Need-loop-left-smaller invariant-loop decreases-loop
loop-less c = omega (arith, c.loop-left-test.true)

loop-again : tie.Need-loop-left-preserved invariant-loop decreases-loop
loop-again c =
    let n = c.args.literals in
    let t = c.loop-left-test.true in (
      omega (arith, c.loop-left.invariant.0, t),
      rest_more (line_of (2 * c.loop-left.v) (c.choose-next.result.literal ∷ [])) (latches_text n c.choose-next.result.generator.state (c.loop-left.v + 1) (c.loop-left.left - 1))
          c.requires.1
          (rw (latch-line c.loop-left.state c.choose-next.result n c.loop-left.v c.loop-left.left c.choose-next.ensures t) at c.loop-left.invariant.1) c.put_two-end.ensures,
      sym (latch-after c.loop-left.state c.choose-next.result n c.loop-left.v c.loop-left.left c.choose-next.ensures t) ∙ c.loop-left.invariant.2,
    )

same_length : tie.Need-shape_of-out invariant-loop decreases-loop
same_length c = c.loop-left.invariant.1.kept

returns : tie.Need-returns invariant-loop decreases-loop
returns c =
    let t = c.loop-left-test.false in
    record {
      placed = rest_end (rw (latches-done c.args.literals c.loop-left.state.state c.loop-left.v c.loop-left.left t) at c.loop-left.invariant.1);
      state = sym (after-done c.loop-left.left c.loop-left.state.state t) ∙ c.loop-left.invariant.2;
    }

pub put_latches_spec : {M : Type 1} → statement M
put_latches_spec =
    tie.close
    (tie.spec invariant-loop decreases-loop loop-holds choose-requires mul-put-two put-two-requires add-v sub-left loop-less loop-again same_length returns)
