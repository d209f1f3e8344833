-- `transitions::start_words` meets its contract. The loop's invariant: the words from j on are the start values, and left of the free bits belong to their latches. Assumes nothing.
use mathlib.Core.Path.{◌≡◌, refl, sym, ap, ap₂, ◌∙◌, subst}
use Prim.Native.Nat.{ℕ, ◌+◌, ◌-◌, ◌*◌, ◌/◌, ◌%◌, ◌^◌, ◌≤◌, ◌<◌}
use native.Mathlib.Omega.{arith}
use mathlib.Core.Bool.{Bool, cond}
use native.Mathlib.Decide.{ℕ_discrete}
use lib.Dec.{eqb}
use lib.ListN.{length, get_or, set, length-set}
use lib.Seq.{get_or-set_same, get_or-set_other}
use Rattle.aiger.specs.Bits.{bit}
use Rattle.aiger.specs.Frames.{free_starts}
use Rattle.literals.specs.Literal.{word_of}
use Rattle.literals.proofs.Words.{word_read}
use Rattle.layout.specs.Words.{word, circuit_in}
use Rattle.frames.specs.Starts.{free_before, start_bit}
use Rattle.frames.proofs.Places.{latches-are, latches-inside, latches-few}
use Rattle.frames.proofs.Starts.{free_all, count-more, start-in}
use Rattle.transitions.proofs.Packing.{bit-few}
use borrow.Author.Rules.{rules}
use Rattle.transitions.proofs.start_words.Statement.{statement}
use Rattle.transitions.proofs.start_words.Tie as tie

abbrev invariant-loop : tie.invariant-loop-j
invariant-loop m y state₀ latches left₀ j₀ state left j =
    (j ≤ length (circuit_in m).latches) × (length state ≡ length state₀) × (left + free_before (circuit_in m) j ≡ free_starts (circuit_in m))
    × ((k : ℕ) → j ≤ k → k < length (circuit_in m).latches → get_or state k 0 ≡ cond (start_bit (circuit_in m) (free_starts (circuit_in m)) y k) 1 0)

abbrev decreases-loop : tie.decreases-loop-j
decreases-loop m y state₀ latches left₀ j₀ state left j = j

-- the latch's words, as the calls had them
lit-read : (c : tie.After-from_word-lit invariant-loop decreases-loop)
    → (word_of c.from_word-lit.result ≡ word c.args.m.now (c.args.layout.latches + 3 * (c.loop-j.j - 1)))
lit-read c = word_read (word c.args.m.now (c.args.layout.latches + 3 * (c.loop-j.j - 1))) c.from_word-lit.ensures

reset-read : (c : tie.After-from_word-reset invariant-loop decreases-loop)
    → (word_of c.from_word-reset.result ≡ word c.args.m.now (c.args.layout.latches + 3 * (c.loop-j.j - 1) + 2))
reset-read c = word_read (word c.args.m.now (c.args.layout.latches + 3 * (c.loop-j.j - 1) + 2)) c.from_word-reset.ensures

counted : (c : tie.After-free_start invariant-loop decreases-loop)
    → (let at = c.args.layout.latches + 3 * (c.loop-j.j - 1) in
    c.free_start.result ≡ cond (eqb (word c.args.m.now (at + 2)) (word c.args.m.now at)) 1 0)
counted c =
    c.free_start.ensures ∙ ap₂ (λ (r l : ℕ). cond (eqb r l) 1 0) (reset-read c.before.before) (lit-read c.before.before.before.before)

started : (c : tie.After-start_bit invariant-loop decreases-loop)
    → (let at = c.args.layout.latches + 3 * (c.loop-j.j - 1) in
    c.start_bit.result
    ≡ cond (cond (eqb (word c.args.m.now (at + 2)) (word c.args.m.now at)) (bit c.args.y c.loop-j.left) (eqb (word c.args.m.now (at + 2)) 1)) 1 0)
started c =
    c.start_bit.ensures
    ∙ ap₂ (λ (r l : ℕ). cond (cond (eqb r l) (bit c.args.y c.loop-j.left) (eqb r 1)) 1 0) (reset-read c.before) (lit-read c.before.before.before)

loop-holds : tie.Need-loop-j-init invariant-loop decreases-loop
loop-holds c =
    let C = circuit_in c.args.m.now in
    let e = latches-are c.requires.0 c.requires.1.0 in
    (omega arith, refl, omega (arith, free_all C, ap (free_before C) e), λ k l h. absurd (omega arith))

sub-j : tie.Need-overflow_sub-j invariant-loop decreases-loop
sub-j c = omega arith

mul-from-word : tie.Need-overflow_mul-j invariant-loop decreases-loop
mul-from-word c = omega (arith, latches-inside c.requires.0 c.requires.1.0, latches-are c.requires.0 c.requires.1.0, latches-few c.requires.0 c.requires.1.0, c.loop-j.invariant.1, c.requires.1.1.1)

add-from-word : tie.Need-overflow_add-latches invariant-loop decreases-loop
add-from-word c = omega (arith, latches-inside c.requires.0 c.requires.1.0, latches-are c.requires.0 c.requires.1.0, latches-few c.requires.0 c.requires.1.0, c.loop-j.invariant.1, c.requires.1.1.1)

mul-from-word-2 : tie.Need-offset_bounds-m-latches invariant-loop decreases-loop
mul-from-word-2 c = omega (arith, latches-inside c.requires.0 c.requires.1.0, latches-are c.requires.0 c.requires.1.0, latches-few c.requires.0 c.requires.1.0, c.loop-j.invariant.1, c.requires.1.1.1)

shared-slice-read-from-word : tie.Need-bounds-m-latches invariant-loop decreases-loop
shared-slice-read-from-word c = omega (arith, latches-inside c.requires.0 c.requires.1.0, latches-are c.requires.0 c.requires.1.0, latches-few c.requires.0 c.requires.1.0, c.loop-j.invariant.1, c.requires.1.1.1)

from-word-requires : tie.Need-from_word-lit-requires invariant-loop decreases-loop
from-word-requires c κs = tt

mul-from-word-3 : tie.Need-overflow_mul-j-in-loop-j invariant-loop decreases-loop
mul-from-word-3 c = omega (arith, latches-inside c.requires.0 c.requires.1.0, latches-are c.requires.0 c.requires.1.0, latches-few c.requires.0 c.requires.1.0, c.loop-j.invariant.1, c.requires.1.1.1)

add-from-word-2 : tie.Need-overflow_add-latches-in-loop-j invariant-loop decreases-loop
add-from-word-2 c = omega (arith, latches-inside c.requires.0 c.requires.1.0, latches-are c.requires.0 c.requires.1.0, latches-few c.requires.0 c.requires.1.0, c.loop-j.invariant.1, c.requires.1.1.1)

add-from-word-3 : tie.Need-overflow_add-latches-in-loop-j-2 invariant-loop decreases-loop
add-from-word-3 c = omega (arith, latches-inside c.requires.0 c.requires.1.0, latches-are c.requires.0 c.requires.1.0, latches-few c.requires.0 c.requires.1.0, c.loop-j.invariant.1, c.requires.1.1.1)

mul-from-word-4 : tie.Need-offset_bounds-m-latches-in-loop-j invariant-loop decreases-loop
mul-from-word-4 c = omega (arith, latches-inside c.requires.0 c.requires.1.0, latches-are c.requires.0 c.requires.1.0, latches-few c.requires.0 c.requires.1.0, c.loop-j.invariant.1, c.requires.1.1.1)

shared-slice-read-from-word-2 : tie.Need-bounds-m-latches-in-loop-j invariant-loop decreases-loop
shared-slice-read-from-word-2 c = omega (arith, latches-inside c.requires.0 c.requires.1.0, latches-are c.requires.0 c.requires.1.0, latches-few c.requires.0 c.requires.1.0, c.loop-j.invariant.1, c.requires.1.1.1)

from-word-requires-2 : tie.Need-from_word-reset-requires invariant-loop decreases-loop
from-word-requires-2 c κs = tt

start-bit-requires : tie.Need-start_bit-requires invariant-loop decreases-loop
start-bit-requires c κs = omega (arith, c.loop-j.invariant.2, c.requires.1.0.u-is, c.requires.1.1.0)

mul-state : tie.Need-offset_bounds-state-j invariant-loop decreases-loop
mul-state c = omega (arith, latches-inside c.requires.0 c.requires.1.0, latches-are c.requires.0 c.requires.1.0, latches-few c.requires.0 c.requires.1.0, c.loop-j.invariant.1, c.requires.1.1.1)

slice-write-state : tie.Need-bounds-state-j invariant-loop decreases-loop
slice-write-state c = omega (arith, latches-inside c.requires.0 c.requires.1.0, latches-are c.requires.0 c.requires.1.0, latches-few c.requires.0 c.requires.1.0, c.loop-j.invariant.1, c.requires.1.1.1)

free-start-requires : tie.Need-free_start-requires invariant-loop decreases-loop
free-start-requires c κs = tt

cast-left : tie.Need-overflow_cast-left invariant-loop decreases-loop
cast-left c = omega (arith, counted c, bit-few (eqb (word c.args.m.now (c.args.layout.latches + 3 * (c.loop-j.j - 1) + 2)) (word c.args.m.now (c.args.layout.latches + 3 * (c.loop-j.j - 1)))))

add_left : tie.Need-overflow_add-left invariant-loop decreases-loop
add_left c = omega (arith, counted c, bit-few (eqb (word c.args.m.now (c.args.layout.latches + 3 * (c.loop-j.j - 1) + 2)) (word c.args.m.now (c.args.layout.latches + 3 * (c.loop-j.j - 1)))), c.loop-j.invariant.2, c.requires.1.0.u-is, c.requires.1.1.0)

loop-less : tie.Need-loop-j-smaller invariant-loop decreases-loop
loop-less c = omega arith

loop-again : tie.Need-loop-j-preserved invariant-loop decreases-loop
loop-again c =
    let m = c.args.m.now in
    let C = circuit_in m in
    let H = c.requires.0 in
    let A = c.requires.1.0 in
    let i = c.loop-j.j - 1 in
    let v = c.start_bit.result in
    let il : i < c.args.layout.l = omega (arith, latches-are H A) in
    let up : i + 1 ≡ c.loop-j.j = omega arith in
    let more = count-more H A i il in
    let kept : c.loop-j.left + free_before C (i + 1) ≡ free_starts C = omega (arith, ap (free_before C) up, c.loop-j.invariant.2) in
    let e : v ≡ cond (start_bit C (free_starts C) c.args.y i) 1 0 =
    started c.before ∙ ap (λ (q : Bool). cond q 1 0) (start-in H A (free_starts C) c.args.y c.loop-j.left i il kept) in (
      omega arith,
      length-set c.loop-j.state _ _ ∙ c.loop-j.invariant.1,
      omega (arith, counted c, more, kept),
      λ k l h. elim (ℕ_discrete k i) [
        | yes q ↦
            ap (λ (x : ℕ). get_or (set c.loop-j.state i v) x 0) q ∙ get_or-set_same c.loop-j.state i v 0 (omega (arith, c.loop-j.invariant.1, c.requires.1.1.1, latches-few H A)) ∙ e
            ∙ ap (λ (x : ℕ). cond (start_bit C (free_starts C) c.args.y x) 1 0) (sym q)
        | no q ↦ get_or-set_other c.loop-j.state i k v 0 (λ r. q r) ∙ c.loop-j.invariant.3 k (omega arith) h
      ],
    )

same_length : tie.Need-shape_of-state invariant-loop decreases-loop
same_length c = c.loop-j.invariant.1

returns : tie.Need-returns invariant-loop decreases-loop
returns c = λ k l. c.loop-j.invariant.3 k (omega arith) (omega (arith, latches-are c.requires.0 c.requires.1.0))

pub start_words_spec : {M : Type 1} → statement M
start_words_spec =
    tie.close
    (tie.spec invariant-loop decreases-loop loop-holds sub-j mul-from-word add-from-word mul-from-word-2 shared-slice-read-from-word from-word-requires mul-from-word-3 add-from-word-2 add-from-word-3 mul-from-word-4 shared-slice-read-from-word-2 from-word-requires-2 start-bit-requires mul-state slice-write-state free-start-requires cast-left add_left loop-less loop-again same_length returns)
