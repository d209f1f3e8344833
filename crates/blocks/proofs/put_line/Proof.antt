-- `blocks::put_line` meets its contract. Assumes nothing.
use mathlib.Core.Path.{◌≡◌, refl, sym, ap, ◌∙◌, subst}
use mathlib.Core.List.{List}
use Prim.Native.Nat.{ℕ, ◌+◌, ◌-◌, ◌*◌, ◌≤◌, ◌<◌}
use native.Mathlib.Omega.{arith}
use borrow.Author.Rules.{rules}
use lib.ListN.{length, take, length-set}
use Rattle.aiger.specs.Circuit.{var}
use Rattle.completions.specs.Either.{eithers}
use Rattle.layout.specs.Words.{word}
use Rattle.enumeration.specs.Blocks.{Given}
use Rattle.enumeration.proofs.Stores.{given-start, given-more}
use Rattle.blocks.specs.Runs.{column_var, line_bit}
use Rattle.blocks.proofs.Words.{line-bit, line-eithers, line-fits, variable}
use Rattle.blocks.proofs.put_line.Statement.{statement}
use Rattle.blocks.proofs.put_line.Tie as tie

abbrev invariant-loop : tie.invariant-loop-i
invariant-loop m text values₀ first step count at block k₀ i₀ values k i =
    (i ≤ count) × (length values ≡ length values₀) × Given (λ j. var (word m (first + step * j))) (line_bit text at block) i values₀ values
    × (k ≡ eithers (take (at + i) text))

abbrev decreases-loop : tie.decreases-loop-i
decreases-loop m text values₀ first step count at block k₀ i₀ values k i = count - i

-- the entry, from the loop's head
abbrev start : tie.At-loop-i invariant-loop decreases-loop → tie.Start invariant-loop decreases-loop
start l = l.before.before.before.before

inside : (n : tie.In-loop-i invariant-loop decreases-loop)
    → (let S = start n.before in S.args.column.first + S.args.column.step * n.loop-i.i < length S.args.m.now)
inside n = (start n.before).requires.words n.loop-i.i (omega (arith, n.loop-i-test.true))

row : (n : tie.In-loop-i invariant-loop decreases-loop)
    → (let S = start n.before in S.args.cursor.at + n.loop-i.i < length S.args.text.now)
row n = omega (arith, (start n.before).requires.inside, n.loop-i-test.true)

-- the variable's place, once its literal is read
place : (k : tie.After-var-v invariant-loop decreases-loop)
    → (let S = start k.before.before.before.before in
    k.var-v.result.0 ≡ var (word S.args.m.now (S.args.column.first + S.args.column.step * k.loop-i.i)))
place k =
    let S = start k.before.before.before.before in
    variable (word S.args.m.now (S.args.column.first + S.args.column.step * k.loop-i.i)) k.from_word.ensures k.var-v.ensures

below : (k : tie.After-var-v invariant-loop decreases-loop) → k.var-v.result.0 < length k.loop-i.values
below k =
    omega (arith, place k, (start k.before.before.before.before).requires.apart.below k.loop-i.i (omega (arith, k.loop-i-test.true)), k.loop-i.invariant.1)

loop-holds : tie.Need-loop-i-init invariant-loop decreases-loop
loop-holds c =
    let e : c.args.cursor.at ≡ c.args.cursor.at + 0 = omega arith in
    (omega arith, refl, given-start _ _ _, c.requires.before ∙ ap (λ (n : ℕ). eithers (take n c.args.text.now)) e)

mul-from-word : tie.Need-overflow_mul-step invariant-loop decreases-loop
mul-from-word c = omega (arith, inside c)

add-from-word : tie.Need-overflow_add-first invariant-loop decreases-loop
add-from-word c = omega (arith, inside c)

mul-from-word-2 : tie.Need-offset_bounds-m-first invariant-loop decreases-loop
mul-from-word-2 c = omega (arith, inside c)

shared-slice-read-from-word : tie.Need-bounds-m-first invariant-loop decreases-loop
shared-slice-read-from-word c = omega (arith, inside c.before)

from-word-requires : tie.Need-from_word-requires invariant-loop decreases-loop
from-word-requires c κs = tt

var-requires : tie.Need-var-v-requires invariant-loop decreases-loop
var-requires c κs = tt

add-byte : tie.Need-overflow_add-byte invariant-loop decreases-loop
add-byte c = omega (arith, row c.before.before.before)

shared-slice-read-byte : tie.Need-bounds-text-at invariant-loop decreases-loop
shared-slice-read-byte c = omega (arith, row c.before.before.before.before)

cast-place : tie.Need-overflow_cast-place invariant-loop decreases-loop
cast-place c = omega (arith, below c.before.before)

bit-word-requires : tie.Need-bit_word-requires invariant-loop decreases-loop
bit-word-requires c κs = tt

mul-values : tie.Need-offset_bounds-values-place invariant-loop decreases-loop
mul-values c = omega (arith, below c.before.before.before)

slice-write-values : tie.Need-bounds-values-place invariant-loop decreases-loop
slice-write-values c = below c.before.before.before

either-of-requires : tie.Need-either_of-k-requires invariant-loop decreases-loop
either-of-requires c κs = tt

add-k : tie.Need-overflow_add-k invariant-loop decreases-loop
add-k c =
    let S = start c.before.before.before.before.before.before.before.before in
    omega (
      arith,
      line-fits S.args.text.now S.args.cursor.at c.loop-i.i c.loop-i.k c.loop-i.invariant.3
          c.either_of-k.ensures,
      row c.before.before.before.before.before.before.before,
    )

add-i : tie.Need-overflow_add-i invariant-loop decreases-loop
add-i c = omega (arith, row c.before.before.before.before.before.before.before)

loop-less : tie.Need-loop-i-smaller invariant-loop decreases-loop
loop-less c = omega (arith, c.loop-i-test.true)

loop-again : tie.Need-loop-i-preserved invariant-loop decreases-loop
loop-again c =
    let S = start c.before.before.before.before.before.before.before.before in
    let text : List ℕ = S.args.text.now in
    let e : S.args.cursor.at + c.loop-i.i + 1 ≡ S.args.cursor.at + (c.loop-i.i + 1) = omega arith in (
      omega (arith, c.loop-i-test.true),
      length-set c.loop-i.values _ _ ∙ c.loop-i.invariant.1,
      given-more (column_var S.args.m.now S.args.column) (line_bit text S.args.cursor.at S.args.cursor.block)
          c.loop-i.i S.args.values.now c.loop-i.values
          c.var-v.result.0 c.bit_word.result (sym (place c.before.before.before.before)) (below c.before.before.before.before)
          (λ j k q. S.requires.apart.differ j c.loop-i.i k (omega (arith, c.loop-i-test.true)) q)
          (line-bit text S.args.cursor.at c.loop-i.i S.args.cursor.block c.loop-i.k c.bit_word.result
          c.loop-i.invariant.3 c.bit_word.ensures)
          c.loop-i.invariant.2,
      line-eithers text S.args.cursor.at c.loop-i.i c.loop-i.k c.loop-i.invariant.3 c.either_of-k.ensures
          ∙ ap (λ (c : ℕ). eithers (take c text)) e,
    )

add-either-of : tie.Need-overflow_add-at invariant-loop decreases-loop
add-either-of c = omega (arith, (start c.before).requires.inside)

shared-slice-read-either-of : tie.Need-bounds-text-at-2 invariant-loop decreases-loop
shared-slice-read-either-of c = omega (arith, (start c.before.before).requires.inside)

either-of-requires-2 : tie.Need-either_of-requires invariant-loop decreases-loop
either-of-requires-2 c κs = tt

-- after the loop: all bits are given
all-bits : (c : tie.After-either_of invariant-loop decreases-loop) → (c.loop-i.i ≡ (start c.before.before.before).args.column.count)
all-bits c = omega (arith, c.loop-i-test.false, c.loop-i.invariant.0)

end-eithers : (c : tie.After-either_of invariant-loop decreases-loop)
    → (let S = start c.before.before.before in
    c.loop-i.k ≡ eithers (take (S.args.cursor.at + S.args.column.count) S.args.text.now))
end-eithers c =
    let S = start c.before.before.before in
    c.loop-i.invariant.3 ∙ ap (λ (n : ℕ). eithers (take (S.args.cursor.at + n) S.args.text.now)) (all-bits c)

add-result : tie.Need-overflow_add-result invariant-loop decreases-loop
add-result c =
    let S = start c.before.before.before in
    omega (
      arith,
      end-eithers c,
      line-fits S.args.text.now S.args.cursor.at S.args.column.count c.loop-i.k
          (end-eithers c) c.either_of.ensures,
      S.requires.inside,
    )

same_length : tie.Need-shape_of-values invariant-loop decreases-loop
same_length c = c.loop-i.invariant.1

returns : tie.Need-returns invariant-loop decreases-loop
returns c =
    let S = start c.before.before.before in
    let e : c.loop-i.i ≡ S.args.column.count = all-bits c in (
      subst (λ (n : ℕ). Given (column_var S.args.m.now S.args.column)
          (line_bit S.args.text.now S.args.cursor.at S.args.cursor.block) n S.args.values.now c.loop-i.values)
          e c.loop-i.invariant.2,
      line-eithers S.args.text.now S.args.cursor.at S.args.column.count c.loop-i.k (end-eithers c)
          c.either_of.ensures,
    )

pub put_line_spec : {M : Type 1} → statement M
put_line_spec =
    tie.close
    (tie.spec invariant-loop decreases-loop loop-holds mul-from-word add-from-word mul-from-word-2 shared-slice-read-from-word from-word-requires var-requires add-byte shared-slice-read-byte cast-place bit-word-requires mul-values slice-write-values either-of-requires add-k add-i loop-less loop-again add-either-of shared-slice-read-either-of either-of-requires-2 add-result same_length returns)
