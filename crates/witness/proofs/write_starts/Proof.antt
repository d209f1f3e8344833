-- `witness::write_starts` meets its contract. The loop's invariant is `Turn`, and the measure is what is left of the latches. Assumes nothing.
use mathlib.Core.Path.{◌≡◌, ◌∙◌}
use mathlib.Core.List.{List}
use Prim.Native.Nat.{ℕ, ◌+◌, ◌-◌, ◌<◌}
use native.Mathlib.Omega.{arith}
use borrow.Author.Rules.{rules}
use lib.ListN.{length, length-set}
use Rattle.literals.specs.Literal.{word_of}
use Rattle.literals.proofs.Words.{word_read}
use Rattle.layout.specs.Words.{word}
use Rattle.witness.specs.Writing.{StartsFit}
use Rattle.witness.proofs.Starts.{Turn, begin, inside, bit-left, turn, done, latch-count}
use Rattle.witness.proofs.write_starts.Statement.{statement}
use Rattle.witness.proofs.write_starts.Tie as tie

abbrev invariant-loop : tie.invariant-loop-j
invariant-loop part₀ m free latches at₀ used₀ j₀ part at used j = Turn m free part₀ part at used j

abbrev decreases-loop : tie.decreases-loop-j
decreases-loop part₀ m free latches at₀ used₀ j₀ part at used j = latches - j

-- the memory, the free bits and the part, and what is required, at the loop's head
abbrev M : tie.At-loop-j invariant-loop decreases-loop → List ℕ
M l = l.args.m.now

abbrev F : tie.At-loop-j invariant-loop decreases-loop → List ℕ
F l = l.args.free.now

abbrev P : tie.At-loop-j invariant-loop decreases-loop → List ℕ
P l = l.args.part.now

fit : (l : tie.At-loop-j invariant-loop decreases-loop) → StartsFit (P l) (M l) l.args.layout (F l)
fit l = l.requires

more : (c : tie.In-loop-j invariant-loop decreases-loop) → c.loop-j.j < word (M c.before) 2
more c = omega (arith, c.loop-j-test.true, (fit c.before).layout.l-is)

room : (l : tie.At-loop-j invariant-loop decreases-loop) → word (M l) 2 < length (P l)
room l = omega (arith, (fit l).room, latch-count (M l))

within : (c : tie.In-loop-j invariant-loop decreases-loop) → c.loop-j.at + 2 < length (M c.before)
within c =
    inside (M c.before) (F c.before) (P c.before) c.loop-j.part c.loop-j.at c.loop-j.used c.loop-j.j c.loop-j.invariant (fit c.before).holds (more c)

finish : (c : tie.After-loop-j invariant-loop decreases-loop) → word (M c.before) 2 ≡ c.loop-j.j
finish c = omega (arith, c.loop-j-test.false, (fit c.before).layout.l-is, c.loop-j.invariant.within)

loop-holds : tie.Need-loop-j-init invariant-loop decreases-loop
loop-holds c = begin c.args.m.now c.args.free.now c.args.part.now
    c.args.layout.latches c.requires.layout.latches-is

mul-from-word : tie.Need-offset_bounds-m-at invariant-loop decreases-loop
mul-from-word c = omega (arith, within c)

shared-slice-read-from-word : tie.Need-bounds-m-at invariant-loop decreases-loop
shared-slice-read-from-word c = omega (arith, within c.before)

add-from-word : tie.Need-overflow_add-at invariant-loop decreases-loop
add-from-word c = omega (arith, within c.before.before)

mul-from-word-2 : tie.Need-offset_bounds-m-at-in-loop-j invariant-loop decreases-loop
mul-from-word-2 c = omega (arith, within c.before.before)

shared-slice-read-from-word-2 : tie.Need-bounds-m-at-in-loop-j invariant-loop decreases-loop
shared-slice-read-from-word-2 c = omega (arith, within c.before.before.before)

start-of-requires : tie.Need-start_of-start-requires invariant-loop decreases-loop
start-of-requires c κs =
    λ e.
    omega (
      arith,
      bit-left (M c.before.before.before.before.before) (F c.before.before.before.before.before) (P c.before.before.before.before.before) c.loop-j.part c.loop-j.at c.loop-j.used c.loop-j.j c.loop-j.invariant (more c.before.before.before.before)
          (word_of c.from_word-lit.result) (word_of c.from_word-reset.result)
          (word_read (word (M c.before.before.before.before.before) c.loop-j.at) c.from_word-lit.ensures)
          (word_read (word (M c.before.before.before.before.before) (c.loop-j.at + 2)) c.from_word-reset.ensures) e,
      (fit c.before.before.before.before.before).bits,
    )

slice-write-part : tie.Need-bounds-part-j invariant-loop decreases-loop
slice-write-part c =
    omega (
      arith,
      more c.before.before.before.before.before.before,
      room
          c.before.before.before.before.before.before.before,
      c.loop-j.invariant.size,
    )

add-j : tie.Need-overflow_add-j invariant-loop decreases-loop
add-j c = omega
    (arith, more c.before.before.before.before.before.before, room c.before.before.before.before.before.before.before)

add_at : tie.Need-overflow_add-at-in-loop-j invariant-loop decreases-loop
add_at c = omega (arith, within c.before.before.before.before.before.before)

loop-less : tie.Need-loop-j-smaller invariant-loop decreases-loop
loop-less c = omega (arith, c.loop-j-test.true)

loop-again : tie.Need-loop-j-preserved invariant-loop decreases-loop
loop-again c =
    turn (M c.before.before.before.before.before.before.before) (F c.before.before.before.before.before.before.before) (P c.before.before.before.before.before.before.before) c.loop-j.part c.loop-j.at c.loop-j.used c.loop-j.j c.loop-j.invariant (more c.before.before.before.before.before.before) (room c.before.before.before.before.before.before.before)
    (word_of c.from_word-lit.result) (word_of c.from_word-reset.result)
    (word_read (word (M c.before.before.before.before.before.before.before) c.loop-j.at) c.from_word-lit.ensures) (word_read (word (M c.before.before.before.before.before.before.before) (c.loop-j.at + 2)) c.from_word-reset.ensures)
    c.start_of-start.result.value c.start_of-start.result.used c.byte_of.result
    c.start_of-start.ensures.0 c.start_of-start.ensures.1 c.byte_of.ensures

slice-write-part-2 : tie.Need-bounds-part-latches invariant-loop decreases-loop
slice-write-part-2 c = omega (arith, room c.before, (fit c.before).layout.l-is, c.loop-j.invariant.size)

same_length : tie.Need-shape_of-part invariant-loop decreases-loop
same_length c = simp length-set c.loop-j.invariant.size

returns : tie.Need-returns invariant-loop decreases-loop
returns c =
    let e = (fit c.before).layout.l-is in
    let d = done (M c.before) (F c.before) (P c.before) c.loop-j.part c.loop-j.at c.loop-j.used c.loop-j.j c.loop-j.invariant (finish c) (room c.before) in
    (d.0, rw e d.1)

pub write_starts_spec : {M : Type 1} → statement M
write_starts_spec =
    tie.close
    (tie.spec invariant-loop decreases-loop loop-holds mul-from-word shared-slice-read-from-word (λ c κs. search rules) add-from-word mul-from-word-2 shared-slice-read-from-word-2 (λ c κs. search rules) start-of-requires (λ c κs. search rules) slice-write-part add-j add_at loop-less loop-again slice-write-part-2 same_length returns)
