-- `resume::place_of`: y is the place of the bits below v. Assumes nothing.
use Rattle.std.proofs.Common.{◌≡◌, ◌∙◌, ap, refl, ℕ, min, get_or, arith}
use Rattle.aiger.specs.Bits.{nonzero}
use Rattle.resume.specs.Resume.{marked, place_of}
use Rattle.resume.proofs.Turns.{before-none, before-next}
use Rattle.resume.proofs.place_of.Goals as goal

pub loop-v-init : goal.loop-v-init
loop-v-init c =
    let s = c.args in
    record { small = omega arith; is = omega (arith, before-none (marked s.work.now) (λ j. nonzero (get_or s.bits.now j 0)) 0 refl) }

pub loop-v-preserved : goal.loop-v-preserved
loop-v-preserved c =
    let s = c.args in
    let e = before-next (marked s.work.now) (λ j. nonzero (get_or s.bits.now j 0)) c.loop-v.v c.loop-v.y c.next_place-y.result c.loop-v.invariant.is c.next_place-y.ensures in
    record { small = omega (arith, e); is = e }

pub returns : goal.returns
returns c =
    let s = c.args in
    let e : c.loop-v.v ≡ s.g.free = omega arith in
    c.loop-v.invariant.is ∙ ap (λ (v : ℕ). min 4294967296 (place_of s.work.now s.bits.now v)) e
