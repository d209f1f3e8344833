-- `words::draw`: the value is the draw of the steps so far, and so is the generator's state. Assumes nothing.
use Rattle.std.proofs.Common.{◌≡◌, refl, sym, ap, ◌∙◌, ℕ, ◌+◌, arith}
use native.Mathlib.Numerals.{add-one}
use Rattle.aiger.specs.Signature as Signature
use Rattle.generator.specs.declared.Generator.{Generator}
use Rattle.generator.specs.declared.Draw.{Draw}
use Rattle.words.proofs.draw.Goals as goal

next : (k : ℕ) → Signature.step (Signature.draw k) ≡ Signature.draw (k + 1)
unfolding Signature.draw
next k = ap Signature.draw (sym (add-one k))

pub loop-init : goal.loop-init
unfolding Signature.draw
loop-init c = record { drawn = refl; stands = ap (λ (g : Generator). g.state) c.seeded-generator.ensures }

pub loop-preserved : goal.loop-preserved
loop-preserved c =
    let d = c.draw-drawn.ensures in
    let e : Signature.step c.loop.generator.state ≡ Signature.draw (c.loop.counter + 1) = ap Signature.step c.loop.invariant.stands ∙ next c.loop.counter in
    record { drawn = ap (λ (x : Draw). x.value) d ∙ e; stands = ap (λ (x : Draw). x.generator.state) d ∙ e }

pub returns : goal.returns
returns c =
    let e : c.loop.counter ≡ c.args.i = omega arith in
    c.loop.invariant.drawn ∙ ap Signature.draw e
