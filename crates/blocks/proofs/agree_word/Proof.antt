-- `blocks::agree_word` meets its contract. Assumes nothing.
use mathlib.Core.Path.{◌≡◌, ap, ap₂, ◌∙◌}
use mathlib.Core.Bool.{Bool, ◌&&◌}
use mathlib.Core.List.{List}
use Prim.Native.Nat.{ℕ, ◌+◌, ◌-◌, ◌*◌, ◌≤◌, ◌<◌}
use native.Mathlib.Omega.{arith}
use lib.ListN.{length, get_or}
use Rattle.aiger.specs.Bits.{bit}
use Rattle.aiger.specs.Lists.{every_below}
use Rattle.aiger.specs.Circuit.{var}
use Rattle.literals.specs.Literal.{word_of}
use Rattle.literals.proofs.Words.{word_read}
use Rattle.layout.specs.Words.{word}
use Rattle.words.proofs.Bits.{bit-all}
use Rattle.frames.proofs.Facts.{latches-inside, latches-apart}
use Rattle.frames.proofs.Hits.{constrained-start, constrained-more}
use Rattle.blocks.proofs.Words.{agrees_one, variable}
use Rattle.blocks.proofs.Starts.{latch_agrees, agrees-end}
use borrow.Author.Rules.{rules}
use Rattle.blocks.proofs.agree_word.Statement.{statement}
use Rattle.blocks.proofs.agree_word.Tie as tie

abbrev invariant-loop : tie.invariant-loop-j
invariant-loop m order values count latches agree₀ j₀ agree j =
    (j ≤ count) × ((p : ℕ) → p < 64 → bit agree p ≡ (bit 18446744073709551615 p && every_below j (latch_agrees m latches values p)))

abbrev decreases-loop : tie.decreases-loop-j
decreases-loop m order values count latches agree₀ j₀ agree j = count - j

inside : (c : tie.In-loop-j invariant-loop decreases-loop)
    → (c.args.layout.latches + 3 * c.loop-j.j + 2 < length
    c.args.m.now)
inside c = omega (arith, latches-inside c.requires, c.loop-j-test.true)

-- the latch's words, and its place
lit-read : (c : tie.After-from_word-lit invariant-loop decreases-loop)
    → (word_of c.from_word-lit.result ≡ word c.args.m.now
    (c.args.layout.latches + 3 * c.loop-j.j))
lit-read c = word_read
    (word c.args.m.now (c.args.layout.latches + 3 * c.loop-j.j)) c.from_word-lit.ensures

reset-read : (c : tie.After-from_word-reset invariant-loop decreases-loop)
    → (word_of c.from_word-reset.result ≡ word
    c.args.m.now (c.args.layout.latches + 3 * c.loop-j.j + 2))
reset-read c = word_read
    (word c.args.m.now (c.args.layout.latches + 3 * c.loop-j.j + 2))
    c.from_word-reset.ensures

place : (c : tie.After-var-place invariant-loop decreases-loop)
    → (c.var-place.result.0 ≡ var
    (word c.args.m.now (c.args.layout.latches + 3 * c.loop-j.j)))
place c =
    variable (word c.args.m.now (c.args.layout.latches + 3 * c.loop-j.j))
    c.from_word-lit.ensures c.var-place.ensures

below : (c : tie.After-var-place invariant-loop decreases-loop) → c.var-place.result.0 < length
    c.args.values.now
below c = omega (
  arith,
  place c,
  (latches-apart
      c.requires).below
      c.loop-j.j (omega
      (arith, c.loop-j-test.true)),
)

loop-holds : tie.Need-loop-j-init invariant-loop decreases-loop
loop-holds c = (omega arith, λ p h. constrained-start 18446744073709551615 p)

mul-from-word : tie.Need-overflow_mul-j invariant-loop decreases-loop
mul-from-word c = omega (arith, inside c)

add-from-word : tie.Need-overflow_add-latches invariant-loop decreases-loop
add-from-word c = omega (arith, inside c)

mul-from-word-2 : tie.Need-offset_bounds-m-latches invariant-loop decreases-loop
mul-from-word-2 c = omega (arith, inside c)

shared-slice-read-from-word : tie.Need-bounds-m-latches invariant-loop decreases-loop
shared-slice-read-from-word c = omega (arith, inside c.before)

from-word-requires : tie.Need-from_word-lit-requires invariant-loop decreases-loop
from-word-requires c κs = tt

mul-from-word-3 : tie.Need-overflow_mul-j-in-loop-j invariant-loop decreases-loop
mul-from-word-3 c = omega (arith, inside c.before.before)

add-from-word-2 : tie.Need-overflow_add-latches-in-loop-j invariant-loop decreases-loop
add-from-word-2 c = omega (arith, inside c.before.before)

add-from-word-3 : tie.Need-overflow_add-latches-in-loop-j-2 invariant-loop decreases-loop
add-from-word-3 c = omega (arith, inside c.before.before)

mul-from-word-4 : tie.Need-offset_bounds-m-latches-in-loop-j invariant-loop decreases-loop
mul-from-word-4 c = omega (arith, inside c.before.before)

shared-slice-read-from-word-2 : tie.Need-bounds-m-latches-in-loop-j invariant-loop decreases-loop
shared-slice-read-from-word-2 c = omega (arith, inside c.before.before.before)

from-word-requires-2 : tie.Need-from_word-reset-requires invariant-loop decreases-loop
from-word-requires-2 c κs = tt

var-requires : tie.Need-var-place-requires invariant-loop decreases-loop
var-requires c κs = tt

cast-place : tie.Need-overflow_cast-place invariant-loop decreases-loop
cast-place c = omega (arith, below c.before)

mul-agree-one : tie.Need-offset_bounds-values-place invariant-loop decreases-loop
mul-agree-one c = omega (arith, below c.before)

shared-slice-read-agree-one : tie.Need-bounds-values-place invariant-loop decreases-loop
shared-slice-read-agree-one c = below c.before.before

agree-one-requires : tie.Need-agree_one-agree-requires invariant-loop decreases-loop
agree-one-requires c κs = tt

add-j : tie.Need-overflow_add-j invariant-loop decreases-loop
add-j c = omega (arith, inside c.before.before.before.before.before.before.before.before)

loop-less : tie.Need-loop-j-smaller invariant-loop decreases-loop
loop-less c = omega (arith, c.loop-j-test.true)

loop-again : tie.Need-loop-j-preserved invariant-loop decreases-loop
loop-again c =
    let m : List ℕ = c.args.m.now in
    let at : ℕ = c.args.layout.latches + 3 * c.loop-j.j in
    let x : ℕ = get_or c.args.values.now c.var-place.result.0 0 in (
      omega (arith, c.loop-j-test.true),
      λ p h.
          constrained-more c.loop-j.agree c.agree_one-agree.result p c.loop-j.j 18446744073709551615
          (latch_agrees m c.args.layout.latches c.args.values.now p) (c.loop-j.invariant.1 p h)
          (c.agree_one-agree.ensures p h
          ∙ ap₂ (λ (r l : ℕ). agrees_one l r (bit x p)) (reset-read c.before.before.before.before)
          (lit-read c.before.before.before.before.before.before)
          ∙ ap (λ (v : ℕ). agrees_one (word m at) (word m (at + 2)) (bit (get_or c.args.values.now v 0) p))
          (place c.before.before.before)),
    )

returns : tie.Need-returns invariant-loop decreases-loop
returns c = λ p h st s.
    let e : c.loop-j.j ≡ c.args.layout.l = omega (arith, c.loop-j-test.false, c.loop-j.invariant.0) in
    c.loop-j.invariant.1 p h
    ∙ ap₂ (λ (b : Bool) (n : ℕ). b && every_below n (latch_agrees c.args.m.now c.args.layout.latches c.args.values.now p))
    (bit-all 64 p h) e
    ∙ agrees-end c.requires c.args.values.now p st s

pub agree_word_spec : {M : Type 1} → statement M
agree_word_spec =
    tie.close
    (tie.spec invariant-loop decreases-loop loop-holds mul-from-word add-from-word mul-from-word-2 shared-slice-read-from-word from-word-requires mul-from-word-3 add-from-word-2 add-from-word-3 mul-from-word-4 shared-slice-read-from-word-2 from-word-requires-2 var-requires cast-place mul-agree-one shared-slice-read-agree-one agree-one-requires add-j loop-less loop-again returns)
