-- `layers::ask_layer` meets its contract. The loop's invariant: the first q blocks are asked. Assumes nothing.
use mathlib.Core.Path.{◌≡◌, refl, sym, ap, ◌∙◌, subst}
use mathlib.Core.List.{List}
use Prim.Native.Nat.{ℕ, ◌+◌, ◌-◌, ◌*◌, ◌/◌, ◌%◌, ◌^◌, ◌≤◌, ◌<◌, min}
use native.Mathlib.Nat.{mod-lt, mul-le-mul}
use native.Mathlib.Omega.{arith}
use lib.ListN.{length, take, drop}
use lib.Pow.{pow_pos, pow_mono}
use Rattle.influence.specs.Part.{Part, part_in}
use Rattle.frames.proofs.Places.{inputs_are}
use Rattle.frames.proofs.Facts.{ready_with}
use Rattle.machine.specs.Layers.{Entry}
use Rattle.machine.proofs.Expand.{quotient-below}
use Rattle.states.specs.Trace.{Holds}
use Rattle.states.specs.Number.{number_at}
use Rattle.states.specs.Table.{Tally, count_of, TallyFits}
use Rattle.states.proofs.Numbers.{part-number}
use Rattle.states.proofs.Places.{record-before}
use Rattle.layers.specs.Rows.{FirstRow, BlockMet}
use Rattle.layers.specs.Asked.{AskedOf}
use Rattle.layers.specs.declared.Asked.TheVariants.{Hit}
use Rattle.layers.proofs.Ask.{Asking, asked_of, asking-start, asking-more, asking-hit, asking-end}
use borrow.Author.Rules.{rules}
use Rattle.layers.proofs.ask_layer.Statement.{statement}
use Rattle.layers.proofs.ask_layer.Tie as tie

abbrev invariant-loop : tie.invariant-loop-q
invariant-loop m order records₀ values₀ kept state₀ layout b lo hi quota table width words n total met₀ q₀ records values state met q =
    (q ≤ total) × (length records ≡ length records₀) × (length values ≡ length values₀) × (length state ≡ length state₀)
    × Asking (part_in m kept) b lo hi table quota records₀ q (count_of quota met) records
    × TallyFits quota met

abbrev decreases-loop : tie.decreases-loop-q
decreases-loop m order records₀ values₀ kept state₀ layout b lo hi quota table width words n total met₀ q₀ records values state met q = total - q

-- at most 1,024 blocks, and at least one
few : (i r : ℕ) → i ≤ 16 → r ≡ 2 ^ (i - 6) → (r ≤ 1024) × (0 < r)
few i r l e = let a = pow_mono {i = i - 6} {j = 10} (omega arith) in let z = pow_pos (i - 6) in (omega arith, omega arith)

-- few pairs of a record and a block
pairs : (a r : ℕ) → a ≤ 262144 → r ≤ 1024 → a * r ≤ 268435456
pairs a r l h = let x : a * r ≤ 262144 * 1024 = mul-le-mul l h in omega arith

-- ---- laws of places
abbrev part : tie.Start invariant-loop decreases-loop → Part
part s = part_in s.args.m.now s.args.kept.now

words-few : (c : tie.After-blocks-words invariant-loop decreases-loop) → (c.blocks-words.result ≤ 1024) × (0 < c.blocks-words.result)
words-few c = few c.args.layer.layout.i c.blocks-words.result c.requires.1.0.2 c.blocks-words.ensures

words_are : (c : tie.After-blocks-words invariant-loop decreases-loop) → c.blocks-words.result ≡ 2 ^ (length (part c.before.before.before.before.before.before.before.before.before).circuit.inputs - 6)
words_are c =
    c.blocks-words.ensures ∙ ap (λ (i : ℕ). 2 ^ (i - 6)) (inputs_are c.requires.0.held c.requires.0.layout_of)

slots-few : (c : tie.After-blocks-words invariant-loop decreases-loop)
    → (c.args.layer.hi - c.args.layer.lo) * c.blocks-words.result ≤ 268435456
slots-few c =
    pairs (c.args.layer.hi - c.args.layer.lo) c.blocks-words.result
    (omega (
      arith,
      c.requires.1.1.1,
      c.requires.1.1.2,
    )) (words-few c).0

lanes-are : (c : tie.After-lanes-n invariant-loop decreases-loop) → c.lanes-n.result ≡ min 64 (2 ^ length (part c.before.before.before.before.before.before.before.before.before.before).circuit.inputs)
lanes-are c =
    c.lanes-n.ensures ∙ ap (λ (i : ℕ). min 64 (2 ^ i)) (inputs_are c.requires.0.held c.requires.0.layout_of)

block-below : (c : tie.In-loop-q invariant-loop decreases-loop) → c.loop-q.q % c.blocks-words.result < 1024
block-below c = let w = words-few c.before.before.before in omega (arith, mod-lt c.loop-q.q w.1, w.0)

-- the record of a block
entry-below : (c : tie.In-loop-q invariant-loop decreases-loop)
    → c.args.layer.lo + c.loop-q.q / c.blocks-words.result < c.args.layer.hi
entry-below c =
    let l = c.args.layer in
    omega (arith, quotient-below c.loop-q.q (l.hi - l.lo) c.blocks-words.result c.loop-q-test.true)

entry-small : (c : tie.In-loop-q invariant-loop decreases-loop) → c.args.layer.lo + c.loop-q.q / c.blocks-words.result < 262144
entry-small c = omega (
  arith,
  entry-below c,
  c.requires.1.1.1,
  c.requires.1.1.2,
)

-- its words are within the memory
entry_in : (c : tie.In-loop-q invariant-loop decreases-loop)
    → (c.args.layer.table.width + 4)
    * (c.args.layer.lo + c.loop-q.q / c.blocks-words.result)
    + (c.args.layer.table.width + 4)
    ≤ length c.loop-q.records
entry_in c =
    let l = c.args.layer in
    let e = l.lo + c.loop-q.q / c.blocks-words.result in
    omega (
      arith,
      record-before (l.table.width + 4) e l.quota (omega (
        arith,
        entry-below c,
        c.requires.1.1.1,
      )),
      c.loop-q.invariant.4.fits.quota-room,
    )

-- what is lent of the records is the state
state-at : (w e : ℕ) (r : List ℕ) → (w + 4) * e + (w + 4) ≤ length r
    → (length (take ((w + 4) * e + 4 + w - ((w + 4) * e + 4)) (drop ((w + 4) * e + 4) r)) ≡ w)
    × (number_at (take ((w + 4) * e + 4 + w - ((w + 4) * e + 4)) (drop ((w + 4) * e + 4) r)) 0
    (length (take ((w + 4) * e + 4 + w - ((w + 4) * e + 4)) (drop ((w + 4) * e + 4) r)))
    ≡ number_at r ((w + 4) * e + 4) w)
state-at w e r l =
    let at = (w + 4) * e + 4 in
    let z : at + w - at ≡ w = omega arith in
    let q = part-number r at (at + w - at) (omega arith) in
    (q.0 ∙ z, q.1 ∙ ap (number_at r at) z)

-- ---- needs
blocks-requires : tie.Need-blocks-words-requires invariant-loop decreases-loop
blocks-requires c κs = c.requires.1.0.2

lanes-requires : tie.Need-lanes-n-requires invariant-loop decreases-loop
lanes-requires c κs = c.requires.1.0.2

sub-total : tie.Need-overflow_sub-total invariant-loop decreases-loop
sub-total c = omega (arith, c.requires.1.1.0)

mul-total : tie.Need-overflow_mul-total invariant-loop decreases-loop
mul-total c = omega (arith, slots-few c.before)

loop-holds : tie.Need-loop-q-init invariant-loop decreases-loop
loop-holds c =
    let a = c.args in
    let l = a.layer in (
      omega arith,
      refl,
      refl,
      refl,
      asking-start (part c.before.before.before.before.before.before.before.before.before.before) l.b l.lo l.hi l.table l.quota a.records.now c.requires.1.1.0
          c.requires.1.1.1 c.requires.1.1.3,
      c.requires.1.1.1,
    )

div-e : tie.Need-nonzero_div-e invariant-loop decreases-loop
div-e c = omega (arith, (words-few c.before.before.before).1)

add-e : tie.Need-overflow_add-e invariant-loop decreases-loop
add-e c = omega (arith, entry-small (c))

rem-block : tie.Need-nonzero_rem-block invariant-loop decreases-loop
rem-block c = omega (arith, (words-few c.before.before.before).1)

add_at : tie.Need-overflow_add-at invariant-loop decreases-loop
add_at c = omega (arith, entry_in (c))

mul_at : tie.Need-overflow_mul-at invariant-loop decreases-loop
mul_at c = omega (arith, entry_in (c))

add-at-2 : tie.Need-overflow_add-at-in-loop-q invariant-loop decreases-loop
add-at-2 c = omega (arith, entry_in (c))

add-end : tie.Need-overflow_add-end invariant-loop decreases-loop
add-end c = omega (arith, entry_in (c))

mul-judge-rows : tie.Need-offset_bounds-records-at invariant-loop decreases-loop
mul-judge-rows c = omega (arith, entry_in (c))

sub-judge-rows : tie.Need-slice_bounds-judge_rows-count invariant-loop decreases-loop
sub-judge-rows c = omega (arith, entry_in (c))

part-judge-rows-start : tie.Need-slice_bounds-judge_rows-start invariant-loop decreases-loop
part-judge-rows-start c = omega (arith, entry_in c)

part-judge-rows-end : tie.Need-slice_bounds-judge_rows-end invariant-loop decreases-loop
part-judge-rows-end c = omega (arith, entry_in c)

judge-rows-requires : tie.Need-judge_rows-judged-requires invariant-loop decreases-loop
judge-rows-requires c κs =
    let p = c.requires.1.0 in
    let l = c.args.layer in
    let q = state-at l.table.width (l.lo + c.loop-q.q / c.blocks-words.result) c.loop-q.records (entry_in c.before.before) in (
      ready_with c.requires.0 (omega (
        arith,
        c.loop-q.invariant.2,
        c.requires.0.room,
      )),
      (p.0, p.3, omega (arith, p.1.enough, q.0)),
    )

mul-t39 : tie.Need-overflow_mul-result invariant-loop decreases-loop
mul-t39 c = omega (arith, block-below c.before.before.before.before.before.before)

add-t41 : tie.Need-overflow_add-result invariant-loop decreases-loop
add-t41 c = omega (
  arith,
  c.judge_rows-judged.ensures.0.within,
  block-below c.before.before.before.before.before.before,
)

same_length : tie.Need-shape_of-records-then-p-n invariant-loop decreases-loop
same_length c = c.loop-q.invariant.1

same-length-2 : tie.Need-shape_of-values-then-p-n invariant-loop decreases-loop
same-length-2 c = c.judge_rows-judged.auto.values ∙ c.loop-q.invariant.2

same-length-3 : tie.Need-shape_of-state-then-p-n invariant-loop decreases-loop
same-length-3 c = c.loop-q.invariant.3

-- the first row of a block, of the state that its record holds
first : (c : tie.After-judge_rows-judged invariant-loop decreases-loop)
    → let l = c.args.layer in
    let w = c.blocks-words.result in
    FirstRow (part c.before.before.before.before.before.before.before.before.before.before.before.before.before.before.before) l.b (number_at c.loop-q.records ((l.table.width + 4) * (l.lo + c.loop-q.q / w) + 4) l.table.width) (c.loop-q.q % w)
    c.judge_rows-judged.new.values c.judge_rows-judged.result.first
first c =
    let l = c.args.layer in
    let w = c.blocks-words.result in
    let q = state-at l.table.width (l.lo + c.loop-q.q / w) c.loop-q.records (entry_in c.before.before.before) in
    subst
    (λ (s : ℕ).
    FirstRow (part c.before.before.before.before.before.before.before.before.before.before.before.before.before.before.before) l.b s (c.loop-q.q % w) c.judge_rows-judged.new.values
    c.judge_rows-judged.result.first) q.1 c.judge_rows-judged.ensures.0

returns : tie.Need-returns-then-p-n invariant-loop decreases-loop
returns c =
    λ t es h.
    let a = c.args in
    let l = a.layer in
    let C = part c.before.before.before.before.before.before.before.before.before.before.before.before.before.before.before.before.before.before in
    let e = words_are c.before.before.before.before.before.before.before.before.before in
    let w = c.blocks-words.result in
    let v = c.judge_rows-judged.new.values in
    let p = c.judge_rows-judged.result.first in
    let s = number_at c.loop-q.records ((l.table.width + 4) * (l.lo + c.loop-q.q / w) + 4) l.table.width in
    subst (λ (x : ℕ). AskedOf C l.b t l.lo l.table l.quota c.loop-q.records es (Hit (l.lo + c.loop-q.q / x) (64 * (c.loop-q.q % x) + p)))
    (sym e)
    (asking-hit C l.b l.lo l.hi l.table l.quota a.records.now c.requires.1.1.0 c.requires.1.1.1 c.loop-q.invariant.4
    (omega (arith, c.loop-q-test.true, ap (λ (x : ℕ). (l.hi - l.lo) * x) e)) s
    (ap (λ (x : ℕ). number_at c.loop-q.records ((l.table.width + 4) * (l.lo + c.loop-q.q / x) + 4) l.table.width) e) v p
    (subst (λ (x : ℕ). FirstRow C l.b s (c.loop-q.q % x) v p) e (first c.before.before.before))
    (omega (arith, c.if-p-n.true, lanes-are c.before.before.before.before.before.before.before.before)) t es h)

cast-t42 : tie.Need-overflow_cast-rows invariant-loop decreases-loop
cast-t42 c = omega (arith, entry-small c.before.before.before.before.before.before)

meet-block-requires : tie.Need-meet_block-met-requires invariant-loop decreases-loop
meet-block-requires c κs =
    let p = c.requires.1.0 in
    let f = p.1 in (
      (
        c.args.order.now,
        ready_with c.requires.0 (omega (
          arith,
          c.judge_rows-judged.auto.values,
          c.loop-q.invariant.2,
          c.requires.0.room,
        )),
      ),
      (
        c.loop-q.invariant.4.fits,
        (
          record { enough = f.enough; fewest = f.fewest; most = f.most; each = omega (arith, c.loop-q.invariant.3, f.each) },
          p.2,
          omega (arith, block-below c.before.before.before.before.before.before.before.before),
          p.3.listed,
          c.judge_rows-judged.ensures.1,
          c.loop-q.invariant.5,
        ),
      ),
    )

add-q : tie.Need-overflow_add-q invariant-loop decreases-loop
add-q c = omega (
  arith,
  slots-few c.before.before.before.before.before.before.before.before.before.before.before.before.before.before.before.before,
)

loop-less : tie.Need-loop-q-smaller invariant-loop decreases-loop
loop-less c = omega (
  arith,
  c.loop-q-test.true,
)

loop-again : tie.Need-loop-q-preserved invariant-loop decreases-loop
loop-again c =
    let a = c.args in
    let l = a.layer in
    let C = part c.before.before.before.before.before.before.before.before.before.before.before.before.before.before.before.before.before.before.before.before.before.before.before.before.before in
    let e = words_are c.before.before.before.before.before.before.before.before.before.before.before.before.before.before.before.before in
    let w = c.blocks-words.result in
    let v = c.judge_rows-judged.new.values in
    let p = c.judge_rows-judged.result.first in
    let s = number_at c.loop-q.records ((l.table.width + 4) * (l.lo + c.loop-q.q / w) + 4) l.table.width in (
      omega (
        arith,
        c.loop-q-test.true,
      ),
      c.meet_block-met.auto.records ∙ c.loop-q.invariant.1,
      c.judge_rows-judged.auto.values ∙ c.loop-q.invariant.2,
      c.meet_block-met.auto.state ∙ c.loop-q.invariant.3,
      asking-more C l.b l.lo l.hi l.table l.quota a.records.now c.requires.1.1.0 c.requires.1.1.1
          c.loop-q.invariant.4 (omega (
            arith,
            c.loop-q-test.true,
            ap (λ (x : ℕ). (l.hi - l.lo) * x) e,
          )) s
          (ap (λ (x : ℕ). number_at c.loop-q.records ((l.table.width + 4) * (l.lo + c.loop-q.q / x) + 4) l.table.width) e) v p
          (subst (λ (x : ℕ). FirstRow C l.b s (c.loop-q.q % x) v p) e (first c.before.before.before.before.before.before.before.before.before.before)) c.requires.1.0.3
          (omega (
            arith,
            c.if-p-n.false,
            lanes-are c.before.before.before.before.before.before.before.before.before.before.before.before.before.before.before,
          ))
          (subst (λ (x : ℕ). BlockMet C v l.table l.quota (count_of l.quota c.loop-q.met) (l.lo + c.loop-q.q / x) (c.loop-q.q % x) c.loop-q.records
          (count_of l.quota c.meet_block-met.result) c.meet_block-met.new.records) e c.meet_block-met.ensures.0),
      c.meet_block-met.ensures.1,
    )

-- where no block is left
ended : (c : tie.After-loop-q invariant-loop decreases-loop)
    → let a = c.args in
    (t : ℕ) (es : List Entry)
    → Holds (2 ^ length (part c.before.before.before.before.before.before.before.before.before.before.before.before
    ).circuit.inputs) t a.layer.lo a.layer.table a.layer.quota a.layer.hi a.records.now es
    → AskedOf (part c.before.before.before.before.before.before.before.before.before.before.before.before) a.layer.b t
    a.layer.lo a.layer.table a.layer.quota c.loop-q.records es (asked_of c.loop-q.met)
ended c t es h =
    let a = c.args in
    let l = a.layer in
    asking-end (part c.before.before.before.before.before.before.before.before.before.before.before.before) l.b l.lo
    l.hi l.table l.quota a.records.now c.requires.1.1.0
    c.requires.1.1.1 c.loop-q.met c.loop-q.invariant.4 c.loop-q.invariant.5
    (omega (arith, c.loop-q-test.false, ap (λ (x : ℕ). (l.hi - l.lo) * x) (words_are c.before.before.before))) t es h

same-length-4 : tie.Need-shape_of-records-in-Some invariant-loop decreases-loop
same-length-4 c = c.loop-q.invariant.1

same-length-5 : tie.Need-shape_of-values-in-Some invariant-loop decreases-loop
same-length-5 c = c.loop-q.invariant.2

same-length-6 : tie.Need-shape_of-state-in-Some invariant-loop decreases-loop
same-length-6 c = c.loop-q.invariant.3

returns-2 : tie.Need-returns-in-Some invariant-loop decreases-loop
returns-2 c =
    λ t es h.
    let l = c.args.layer in
    subst (λ (m : Tally). AskedOf (part c.before.before.before.before.before.before.before.before.before.before.before.before.before) l.b t l.lo l.table l.quota c.loop-q.records es (asked_of m))
    c.in-Some.is (ended c.before t es h)

same-length-7 : tie.Need-shape_of-records-in-None invariant-loop decreases-loop
same-length-7 c = c.loop-q.invariant.1

same-length-8 : tie.Need-shape_of-values-in-None invariant-loop decreases-loop
same-length-8 c = c.loop-q.invariant.2

same-length-9 : tie.Need-shape_of-state-in-None invariant-loop decreases-loop
same-length-9 c = c.loop-q.invariant.3

returns-3 : tie.Need-returns-in-None invariant-loop decreases-loop
returns-3 c =
    λ t es h.
    let l = c.args.layer in
    subst (λ (m : Tally). AskedOf (part c.before.before.before.before.before.before.before.before.before.before.before.before.before) l.b t l.lo l.table l.quota c.loop-q.records es (asked_of m))
    c.in-None.is (ended c.before t es h)

pub ask_layer_spec : {M : Type 1} → statement M
ask_layer_spec =
    tie.close
    (tie.spec invariant-loop decreases-loop blocks-requires lanes-requires sub-total mul-total loop-holds div-e add-e rem-block add_at mul_at add-at-2 add-end mul-judge-rows sub-judge-rows part-judge-rows-start part-judge-rows-end judge-rows-requires mul-t39 (λ c. search rules) add-t41 same_length same-length-2 same-length-3 returns cast-t42 meet-block-requires add-q loop-less loop-again (λ c. search rules) (λ c. search rules) same-length-4 same-length-5 same-length-6 returns-2 same-length-7 same-length-8 same-length-9 returns-3)
