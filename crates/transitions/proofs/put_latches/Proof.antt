-- `transitions::put_latches` meets its contract. The loop's invariant: the first i latches that are kept have their words. Assumes nothing.
use mathlib.Core.Path.{◌≡◌, refl, sym, ap, ap₂, ◌∙◌, subst}
use Prim.Native.Nat.{ℕ, ◌+◌, ◌-◌, ◌*◌, ◌/◌, ◌%◌, ◌^◌, ◌≤◌, ◌<◌}
use native.Mathlib.Omega.{arith}
use lib.ListN.{length, get_or, length-set}
use Rattle.aiger.specs.Bits.{bit}
use Rattle.aiger.specs.Circuit.{var}
use Rattle.literals.specs.declared.Lit.{Lit}
use Rattle.literals.specs.declared.Var.{Var}
use Rattle.layout.specs.Words.{word, circuit_in}
use Rattle.words.proofs.Bits.{join-high}
use Rattle.meaning.proofs.Defined.{latch_at}
use Rattle.enumeration.specs.Blocks.{Given}
use Rattle.frames.proofs.Places.{latches-are, latches-inside, latches-few, latch-var, latch-small, latches-differ}
use Rattle.enumeration.proofs.Stores.{given-start, given-more}
use Rattle.states.specs.Number.{number_at}
use Rattle.transitions.proofs.Words.{number_bit}
use borrow.Author.Rules.{rules}
use Rattle.transitions.proofs.put_latches.Statement.{statement}
use Rattle.transitions.proofs.put_latches.Tie as tie

-- bit j of s is bit j + 6 of 64 s and a number below 64
bit_up : (s p j : ℕ) → p < 64 → bit (s * 64 + p) (j + 6) ≡ bit s j
bit_up s p j l = let e : j + 6 - 6 ≡ j = omega arith in join-high 6 s p (j + 6) l (omega arith) ∙ ap (bit s) e

abbrev invariant-loop : tie.invariant-loop-i
invariant-loop m s values₀ kept latches count i₀ values i =
    (i ≤ count) × (length values ≡ length values₀)
    × Given (λ k. var (latch_at (circuit_in m) (get_or kept k 0)).lit) (λ k p. bit (number_at s 0 (length s)) k) i values₀ values

abbrev decreases-loop : tie.decreases-loop-i
decreases-loop m s values₀ kept latches count i₀ values i = count - i

-- the variable that was read
read : (c : tie.After-var-v invariant-loop decreases-loop)
    → (c.var-v.result.0 ≡ var (word c.args.m.now (c.args.layout.latches + 3 * get_or c.args.kept.now c.loop-i.i 0)))
read c = ap (λ (v : Var). v.0) c.var-v.ensures ∙ ap (λ (l : Lit). l.0.0) c.from_word.ensures

loop-holds : tie.Need-loop-i-init invariant-loop decreases-loop
loop-holds c = (omega arith, refl, given-start _ _ _)

mul-j : tie.Need-offset_bounds-kept-i invariant-loop decreases-loop
mul-j c = omega arith

shared-slice-read-j : tie.Need-bounds-kept-i invariant-loop decreases-loop
shared-slice-read-j c = omega arith

cast-j : tie.Need-overflow_cast-j invariant-loop decreases-loop
cast-j c = omega (
  arith,
  (c.requires.1.1.1.inside c.loop-i.i
      (omega arith)),
  latches-are c.requires.0 c.requires.1.0,
  latches-few c.requires.0 c.requires.1.0,
)

mul-from-word : tie.Need-overflow_mul-j invariant-loop decreases-loop
mul-from-word c = omega (
  arith,
  latches-inside c.requires.0 c.requires.1.0,
  latches-few c.requires.0
      c.requires.1.0,
  latches-are c.requires.0 c.requires.1.0,
  (c.requires.1.1.1.inside c.loop-i.i (omega arith)),
  latch-small c.requires.0 c.requires.1.0 (get_or c.args.kept.now c.loop-i.i 0) (omega (
    arith,
    latches-are c.requires.0 c.requires.1.0,
    (c.requires.1.1.1.inside c.loop-i.i (omega arith)),
  )),
  c.requires.1.1.0,
  c.requires.1.1.2,
  c.loop-i.invariant.1,
)

add-from-word : tie.Need-overflow_add-latches invariant-loop decreases-loop
add-from-word c = omega (
  arith,
  latches-inside c.requires.0 c.requires.1.0,
  latches-few c.requires.0
      c.requires.1.0,
  latches-are c.requires.0 c.requires.1.0,
  (c.requires.1.1.1.inside c.loop-i.i (omega arith)),
  latch-small c.requires.0 c.requires.1.0 (get_or c.args.kept.now c.loop-i.i 0) (omega (
    arith,
    latches-are c.requires.0 c.requires.1.0,
    (c.requires.1.1.1.inside c.loop-i.i (omega arith)),
  )),
  c.requires.1.1.0,
  c.requires.1.1.2,
  c.loop-i.invariant.1,
)

mul-from-word-2 : tie.Need-offset_bounds-m-latches invariant-loop decreases-loop
mul-from-word-2 c = omega (
  arith,
  latches-inside c.requires.0 c.requires.1.0,
  latches-few c.requires.0
      c.requires.1.0,
  latches-are c.requires.0 c.requires.1.0,
  (c.requires.1.1.1.inside c.loop-i.i (omega arith)),
  latch-small c.requires.0 c.requires.1.0 (get_or c.args.kept.now c.loop-i.i 0) (omega (
    arith,
    latches-are c.requires.0 c.requires.1.0,
    (c.requires.1.1.1.inside c.loop-i.i (omega arith)),
  )),
  c.requires.1.1.0,
  c.requires.1.1.2,
  c.loop-i.invariant.1,
)

shared-slice-read-from-word : tie.Need-bounds-m-latches invariant-loop decreases-loop
shared-slice-read-from-word c = omega (
  arith,
  latches-inside c.requires.0
      c.requires.1.0,
  latches-few c.requires.0 c.requires.1.0,
  latches-are
      c.requires.0 c.requires.1.0,
  (c.requires.1.1.1.inside c.loop-i.i (omega arith)),
  latch-small c.requires.0 c.requires.1.0 (get_or c.args.kept.now c.loop-i.i 0) (omega (
    arith,
    latches-are c.requires.0 c.requires.1.0,
    (c.requires.1.1.1.inside c.loop-i.i (omega
        arith)),
  )),
  c.requires.1.1.0,
  c.requires.1.1.2,
  c.loop-i.invariant.1,
)

from-word-requires : tie.Need-from_word-requires invariant-loop decreases-loop
from-word-requires c κs = tt

var-requires : tie.Need-var-v-requires invariant-loop decreases-loop
var-requires c κs = tt

cast-place : tie.Need-overflow_cast-place invariant-loop decreases-loop
cast-place c = omega (
  arith,
  read c.before,
  latches-inside c.requires.0 c.requires.1.0,
  latches-few c.requires.0 c.requires.1.0,
  latches-are c.requires.0 c.requires.1.0,
  (c.requires.1.1.1.inside c.loop-i.i (omega arith)),
  latch-small c.requires.0 c.requires.1.0 (get_or c.args.kept.now c.loop-i.i 0) (omega (
    arith,
    latches-are c.requires.0 c.requires.1.0,
    (c.requires.1.1.1.inside c.loop-i.i (omega arith)),
  )),
  c.requires.1.1.0,
  c.requires.1.1.2,
  c.loop-i.invariant.1,
)

add-counting-word : tie.Need-overflow_add-i invariant-loop decreases-loop
add-counting-word c = omega arith

mul-counting-word : tie.Need-offset_bounds-s-i invariant-loop decreases-loop
mul-counting-word c = omega (arith, c.requires.1.1.2)

shared-slice-read-counting-word : tie.Need-bounds-s-i invariant-loop decreases-loop
shared-slice-read-counting-word c = omega (
  arith,
  c.requires.1.1.2,
)

cast-counting-word : tie.Need-overflow_cast-s invariant-loop decreases-loop
cast-counting-word c = omega (
  arith,
  c.shared_slice_known-in-loop-i-3-1.given (c.loop-i.i /
      32),
)

counting-word-requires : tie.Need-counting_word-requires invariant-loop decreases-loop
counting-word-requires c κs = tt

mul-values : tie.Need-offset_bounds-values-place invariant-loop decreases-loop
mul-values c = omega (
  arith,
  read c.before.before.before,
  latches-inside c.requires.0 c.requires.1.0,
  latches-few c.requires.0 c.requires.1.0,
  latches-are c.requires.0 c.requires.1.0,
  (c.requires.1.1.1.inside c.loop-i.i (omega arith)),
  latch-small c.requires.0 c.requires.1.0 (get_or c.args.kept.now c.loop-i.i 0) (omega (
    arith,
    latches-are c.requires.0 c.requires.1.0,
    (c.requires.1.1.1.inside c.loop-i.i (omega arith)),
  )),
  c.requires.1.1.0,
  c.requires.1.1.2,
  c.loop-i.invariant.1,
)

slice-write-values : tie.Need-bounds-values-place invariant-loop decreases-loop
slice-write-values c = omega (
  arith,
  read c.before.before.before,
  latches-inside c.requires.0 c.requires.1.0,
  latches-few c.requires.0 c.requires.1.0,
  latches-are c.requires.0 c.requires.1.0,
  (c.requires.1.1.1.inside c.loop-i.i (omega arith)),
  latch-small c.requires.0 c.requires.1.0 (get_or c.args.kept.now c.loop-i.i 0) (omega (
    arith,
    latches-are c.requires.0 c.requires.1.0,
    (c.requires.1.1.1.inside c.loop-i.i (omega arith)),
  )),
  c.requires.1.1.0,
  c.requires.1.1.2,
  c.loop-i.invariant.1,
)

add-i : tie.Need-overflow_add-i-in-loop-i invariant-loop decreases-loop
add-i c = omega (
  arith,
  latches-inside c.requires.0 c.requires.1.0,
  latches-few c.requires.0
      c.requires.1.0,
  latches-are
      c.requires.0 c.requires.1.0,
  (c.requires.1.1.1.inside c.loop-i.i (omega arith)),
  latch-small c.requires.0 c.requires.1.0 (get_or c.args.kept.now c.loop-i.i 0) (omega (
    arith,
    latches-are c.requires.0 c.requires.1.0,
    (c.requires.1.1.1.inside
        c.loop-i.i (omega arith)),
  )),
  c.requires.1.1.0,
  c.requires.1.1.2,
  c.loop-i.invariant.1,
)

loop-less : tie.Need-loop-i-smaller invariant-loop decreases-loop
loop-less c = omega arith

loop-again : tie.Need-loop-i-preserved invariant-loop decreases-loop
loop-again c =
    let a = c.args in
    let H = c.requires.0 in
    let A = c.requires.1.0 in
    let ls = c.requires.1.1.1 in
    let k = get_or a.kept.now c.loop-i.i 0 in
    let kl : k < a.layout.l = omega (arith, latches-are H A, ls.inside c.loop-i.i (omega arith)) in (
      omega arith,
      length-set c.loop-i.values _ _ ∙ c.loop-i.invariant.1,
      rw (read c.before.before.before) (given-more (λ n. var (latch_at (circuit_in a.m.now) (get_or a.kept.now n 0)).lit) (λ n
          p. bit (number_at a.s.now 0 (length a.s.now)) n) c.loop-i.i a.values.now c.loop-i.values
          (var (word a.m.now (a.layout.latches + 3 * k))) c.counting_word.result (latch-var H A k kl) (omega (
            arith,
            latch-small H A k kl,
            c.loop-i.invariant.1,
            c.requires.1.1.0,
          ))
          (λ n l e. latches-differ H A (get_or a.kept.now n 0) k (ls.rising n c.loop-i.i l (omega arith)) kl e)
          (λ p hp. c.counting_word.ensures p hp ∙ bit_up (get_or a.s.now (c.loop-i.i / 32) 0) p (c.loop-i.i % 32) hp
          ∙ ap (λ (x : ℕ). bit (get_or a.s.now x 0) (c.loop-i.i % 32)) {x = c.loop-i.i / 32} {y = 0 + c.loop-i.i / 32} (omega arith)
          ∙ sym (number_bit a.s.now (λ j. omega (arith, c.shared_slice_known-in-loop-i-3-1.given j)) 0 (length a.s.now) c.loop-i.i
          (omega (
            arith,
            c.requires.1.1.2,
          )))) c.loop-i.invariant.2),
    )

same_length : tie.Need-shape_of-values invariant-loop decreases-loop
same_length c = c.loop-i.invariant.1

returns : tie.Need-returns invariant-loop decreases-loop
returns c =
    let a = c.args in
    let e : c.loop-i.i ≡ length a.kept.now = omega arith in
    subst (λ (n : ℕ). Given (λ k. var (latch_at (circuit_in a.m.now) (get_or a.kept.now k 0)).lit) (λ k p. bit (number_at a.s.now
    0 (length a.s.now)) k) n a.values.now c.loop-i.values) e c.loop-i.invariant.2

pub put_latches_spec : {M : Type 1} → statement M
put_latches_spec =
    tie.close
    (tie.spec invariant-loop decreases-loop loop-holds mul-j shared-slice-read-j cast-j mul-from-word add-from-word mul-from-word-2 shared-slice-read-from-word from-word-requires var-requires cast-place add-counting-word mul-counting-word shared-slice-read-counting-word cast-counting-word counting-word-requires mul-values slice-write-values add-i loop-less loop-again same_length returns)
