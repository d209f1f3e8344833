-- `ternary::starts_agree` meets its contract. The loop's invariant: the first j start values agree. Assumes nothing.
use mathlib.Core.Path.{◌≡◌, refl, sym, ap, ◌∙◌}
use mathlib.Core.Bool.{Bool, true}
use Prim.Native.Nat.{ℕ, ◌+◌, ◌-◌, ◌*◌, ◌≤◌, ◌<◌}
use native.Mathlib.Omega.{arith}
use borrow.Author.Tests.{not-true, not-false}
use lib.ListN.{length, get_or}
use Rattle.aiger.specs.Lists.{every_below}
use Rattle.aiger.specs.Circuit.{Latch}
use Rattle.literals.proofs.Words.{word_read}
use Rattle.layout.specs.Words.{word, circuit_in}
use Rattle.meaning.specs.Frame.{latch_at}
use Rattle.frames.proofs.Facts.{latches-are, latches-inside, latch-place}
use Rattle.ternary.specs.Entries.{start_agrees}
use Rattle.ternary.proofs.Entries.{every_more, every-fails}
use borrow.Author.Rules.{rules}
use Rattle.ternary.proofs.starts_agree.Statement.{statement}
use Rattle.ternary.proofs.starts_agree.Tie as tie

abbrev invariant-loop : tie.invariant-loop-j
invariant-loop m order body count latches j₀ j =
    (j ≤ count)
    × (every_below j (λ i. start_agrees (latch_at (circuit_in m) i).lit (latch_at (circuit_in m) i).reset (get_or body i 0)) ≡ true)

abbrev decreases-loop : tie.decreases-loop-j
decreases-loop m order body count latches j₀ j = count - j

-- in a turn: where the words of the latch and its byte stand
module _ (n : tie.In-loop-j invariant-loop decreases-loop) where
  abbrev S : tie.Start invariant-loop decreases-loop
  S = n.before.before.before.before.before

  inside : S.args.layout.latches + 3 * n.loop-j.j + 2 < length S.args.m.now
  inside = omega (arith, latches-inside S.requires.0, n.loop-j-test.true)

  row : n.loop-j.j < length S.args.body.now
  row = omega (arith, S.requires.1, n.loop-j-test.true)

loop-holds : tie.Need-loop-j-init invariant-loop decreases-loop
loop-holds c = (omega arith, refl)

mul-from-word : tie.Need-overflow_mul-j invariant-loop decreases-loop
mul-from-word c = omega (arith, inside c)

add-from-word : tie.Need-overflow_add-latches invariant-loop decreases-loop
add-from-word c = omega (arith, inside c)

mul-from-word-2 : tie.Need-offset_bounds-m-latches invariant-loop decreases-loop
mul-from-word-2 c = omega (arith, inside c)

shared-slice-read-from-word : tie.Need-bounds-m-latches invariant-loop decreases-loop
shared-slice-read-from-word c = omega (arith, inside c.before)

mul-from-word-3 : tie.Need-overflow_mul-j-in-loop-j invariant-loop decreases-loop
mul-from-word-3 c = omega (arith, inside c.before.before)

add-from-word-2 : tie.Need-overflow_add-latches-in-loop-j invariant-loop decreases-loop
add-from-word-2 c = omega (arith, inside c.before.before)

add-from-word-3 : tie.Need-overflow_add-latches-in-loop-j-2 invariant-loop decreases-loop
add-from-word-3 c = omega (arith, inside c.before.before)

mul-from-word-4 : tie.Need-offset_bounds-m-latches-in-loop-j invariant-loop decreases-loop
mul-from-word-4 c = omega (arith, inside c.before.before)

shared-slice-read-from-word-2 : tie.Need-bounds-m-latches-in-loop-j invariant-loop decreases-loop
shared-slice-read-from-word-2 c = omega (arith, inside c.before.before.before)

shared-slice-read-start-agrees : tie.Need-bounds-body-j invariant-loop decreases-loop
shared-slice-read-start-agrees c = row c.before.before.before.before.before

-- whether the latch's start value agrees
told : (c : tie.After-start_agrees invariant-loop decreases-loop)
    → (let a = c.args in
    let j = c.loop-j.j in
    let x = latch_at (circuit_in a.m.now) j in
    c.start_agrees.result ≡ start_agrees x.lit x.reset (get_or a.body.now j 0))
told c =
    let a = c.args in
    let j = c.loop-j.j in
    let place = sym (latch-place c.requires.0 j (omega (arith, c.loop-j-test.true))) in
    let own = word_read (word a.m.now (a.layout.latches + 3 * j)) c.from_word-lit.ensures ∙ ap (λ (x : Latch). x.lit)
    place in
    let reset =
    word_read (word a.m.now (a.layout.latches + 3 * j + 2)) c.from_word-reset.ensures ∙ ap (λ (x : Latch). x.reset)
    place in
    c.start_agrees.ensures ∙ (λ i. start_agrees (own i) (reset i) (get_or a.body.now j 0))

returns : tie.Need-returns-then-not-start_agrees invariant-loop decreases-loop
returns c =
    let a = c.args in
    let j = c.loop-j.j in
    let C = circuit_in a.m.now in
    let below : j < length C.latches = omega (arith, latches-are c.requires.0, c.loop-j-test.true) in
    sym (every-fails (λ i. start_agrees (latch_at C i).lit (latch_at C i).reset (get_or a.body.now i 0)) (length C.latches) j below
    (sym (told c.before) ∙ c.if-not-start_agrees.true))

add-j : tie.Need-overflow_add-j invariant-loop decreases-loop
add-j c = omega (arith, row c.before.before.before.before.before.before.before)

loop-less : tie.Need-loop-j-smaller invariant-loop decreases-loop
loop-less c = omega (arith, c.loop-j-test.true)

loop-again : tie.Need-loop-j-preserved invariant-loop decreases-loop
loop-again c =
    let a = c.args in
    let C = circuit_in a.m.now in (
      omega (arith, c.loop-j-test.true),
      every_more (λ i. start_agrees (latch_at C i).lit (latch_at C i).reset (get_or a.body.now i 0)) c.loop-j.j c.loop-j.invariant.1
          (sym (told c.before) ∙ c.if-not-start_agrees.false),
    )

returns-2 : tie.Need-returns invariant-loop decreases-loop
returns-2 c =
    let a = c.args in
    let C = circuit_in a.m.now in
    let p : ℕ → Bool = λ i. start_agrees (latch_at C i).lit (latch_at C i).reset (get_or a.body.now i 0) in
    let e : c.loop-j.j ≡ length C.latches = omega (arith, latches-are c.requires.0, c.loop-j.invariant.0, c.loop-j-test.false) in
    sym (ap (λ (z : ℕ). every_below z p) (sym e) ∙ c.loop-j.invariant.1)

pub starts_agree_spec : {M : Type 1} → statement M
starts_agree_spec =
    tie.close
    (tie.spec invariant-loop decreases-loop loop-holds mul-from-word add-from-word mul-from-word-2 shared-slice-read-from-word (λ c κs. search rules) mul-from-word-3 add-from-word-2 add-from-word-3 mul-from-word-4 shared-slice-read-from-word-2 (λ c κs. search rules) shared-slice-read-start-agrees (λ c κs. search rules) returns add-j loop-less loop-again returns-2)
