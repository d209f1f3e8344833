-- Each turn takes the latch before. Assumes nothing.
use mathlib.Core.Path.{◌≡◌, ap, ◌∙◌}
use mathlib.Core.Bool.{Bool}
use mathlib.Core.List.{List}
use Prim.Native.Nat.{ℕ, ◌-◌}
use native.Mathlib.Omega.{arith}
use lib.ListN.{length, get_or}
use Rattle.aiger.specs.Bits.{bit}
use Rattle.transitions.specs.Transitions.{number_of}
use Rattle.transitions.proofs.Numbers.{map-through}
use Rattle.transitions.proofs.Packing.{bit-value, above, above-start, above-end, above_more, above-small}
use Rattle.layers.proofs.pack.Goals as goal

abbrev bits : List ℕ → ℕ → ℕ → Bool
bits state p k = bit (get_or state k 0) p

pub loop-i-init : goal.loop-i-init
loop-i-init c = (omega arith, above-end (bits c.args.state.now c.args.p) (length c.args.state.now))

pub overflow_mul-n : goal.overflow_mul-n
overflow_mul-n c = omega (arith, above-small (bits c.args.state.now c.args.p) (length c.args.state.now) c.loop-i.i c.requires.0)

pub overflow_add-n : goal.overflow_add-n
overflow_add-n c = omega (arith, above-small (bits c.args.state.now c.args.p) (length c.args.state.now) c.loop-i.i c.requires.0)

pub loop-i-preserved : goal.loop-i-preserved
loop-i-preserved c =
    let s = c.args.state.now in
    let p = c.args.p in (
      omega arith,
      above_more (bits s p) (length s) c.loop-i.i c.loop-i.n _ (omega arith) (omega arith) c.loop-i.invariant.1 (bit-value (get_or s (c.loop-i.i - 1) 0) p),
    )

pub overflow_cast-result : goal.overflow_cast-result
overflow_cast-result c = omega (arith, above-small (bits c.args.state.now c.args.p) (length c.args.state.now) c.loop-i.i c.requires.0)

pub returns : goal.returns
returns c =
    let s = c.args.state.now in
    let p = c.args.p in
    let e : c.loop-i.i ≡ 0 = omega arith in
    c.loop-i.invariant.1 ∙ ap (above (bits s p) (length s)) e ∙ above-start (bits s p) (length s)
    ∙ ap number_of (map-through (λ w. bit w p) s)
