-- Each turn takes the latch before. Assumes nothing.
use mathlib.Core.Path.{◌≡◌, ap, ◌∙◌}
use mathlib.Core.Bool.{Bool}
use mathlib.Core.List.{List}
use Prim.Native.Nat.{ℕ, ◌-◌}
use native.Mathlib.Omega.{arith}
use lib.ListN.{length, get_or}
use Rattle.aiger.specs.Bits.{bit}
use Rattle.transitions.specs.Transitions.{number_of}
use Rattle.transitions.proofs.Numbers.{map-through}
use Rattle.transitions.proofs.Packing.{bit-value, above, above-start, above-end, above_more, above-small}
use Rattle.transitions.proofs.pack.Goals as goal

abbrev bits : List ℕ → List ℕ → ℕ → ℕ → Bool
bits state kept p k = bit (get_or state (get_or kept k 0) 0) p

pub loop-i-init : goal.loop-i-init
loop-i-init c = (omega arith, above-end (bits c.args.state.now c.args.kept.now c.args.p) (length c.args.kept.now))

pub overflow_mul-n : goal.overflow_mul-n
overflow_mul-n c = omega (arith, above-small (bits c.args.state.now c.args.kept.now c.args.p) (length c.args.kept.now) c.loop-i.i c.requires.1)

pub bounds-state-kept : goal.bounds-state-kept
bounds-state-kept c = omega (arith, c.requires.0 (c.loop-i.i - 1) (omega arith))

pub overflow_add-n : goal.overflow_add-n
overflow_add-n c = omega (arith, above-small (bits c.args.state.now c.args.kept.now c.args.p) (length c.args.kept.now) c.loop-i.i c.requires.1)

pub loop-i-preserved : goal.loop-i-preserved
loop-i-preserved c = (
  omega arith,
  above_more (bits c.args.state.now c.args.kept.now c.args.p) (length c.args.kept.now) c.loop-i.i c.loop-i.n _ (omega arith) (omega arith) c.loop-i.invariant.1
      (bit-value (get_or c.args.state.now (get_or c.args.kept.now (c.loop-i.i - 1) 0) 0) c.args.p),
)

pub overflow_cast-result : goal.overflow_cast-result
overflow_cast-result c = omega (arith, above-small (bits c.args.state.now c.args.kept.now c.args.p) (length c.args.kept.now) c.loop-i.i c.requires.1)

pub returns : goal.returns
returns c =
    let f = bits c.args.state.now c.args.kept.now c.args.p in
    let n = length c.args.kept.now in
    let e : c.loop-i.i ≡ 0 = omega arith in
    c.loop-i.invariant.1 ∙ ap (above f n) e ∙ above-start f n ∙ ap number_of (map-through (λ j. bit (get_or c.args.state.now j 0) c.args.p) c.args.kept.now)
