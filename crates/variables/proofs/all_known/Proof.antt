-- `all_known` meets its contract. The loop's invariant: each literal passed has a known variable.
-- Assumes nothing.
use Rattle.std.proofs.lemmas.Bool.{not_from_true}
use Rattle.std.proofs.lemmas.Bool.{not_from_false}
use Rattle.variables.specs.Table.{Known}
use borrow.Author.Tests.{not-true, not-false}
use borrow.Author.Count.{below_more}
use mathlib.Core.Path.{◌≡◌, ap}
use lib.ListN.{get_or}
use Rattle.literals.specs.declared.Lit.{Lit}
use Rattle.literals.specs.Literal.{word_of}
use Rattle.literals.proofs.Words.{word_read}
use Rattle.columns.specs.Columns.{at}
use native.Mathlib.Omega.{arith}
use Prim.Native.Nat.{ℕ, ◌+◌, ◌*◌, ◌-◌, ◌<◌, ◌≤◌}
use borrow.Author.Rules.{rules}
use Rattle.variables.proofs.all_known.Statement.{statement}
use Rattle.variables.proofs.all_known.Tie as tie

abbrev invariant-loop : tie.invariant-loop-i
invariant-loop w table p stride n i₀ i = (i ≤ n) × ((k : ℕ) → k < i → Known table (get_or w (p + stride * k) 0))

abbrev decreases-loop : tie.decreases-loop-i
decreases-loop w table p stride n i₀ i = n - i

-- the word of the literal that was read
read : (c : tie.After-from_word invariant-loop decreases-loop)
    → (word_of c.from_word.result ≡ at c.args.w.now c.args.c
    c.loop-i.i)
read c = word_read
    (at c.args.w.now c.args.c c.loop-i.i) c.from_word.ensures

loop-holds : tie.Need-loop-i-init invariant-loop decreases-loop
loop-holds c = (omega arith, λ k l. absurd (omega arith))

mul-from-word : tie.Need-overflow_mul-stride invariant-loop decreases-loop
mul-from-word c =
    omega (arith, c.requires.0 c.loop-i.i c.loop-i-test.true)

add-from-word : tie.Need-overflow_add-at invariant-loop decreases-loop
add-from-word c =
    omega (arith, c.requires.0 c.loop-i.i c.loop-i-test.true)

mul-from-word-2 : tie.Need-offset_bounds-w-at invariant-loop decreases-loop
mul-from-word-2 c =
    omega (arith, c.requires.0 c.loop-i.i c.loop-i-test.true)

shared-slice-read-from-word : tie.Need-bounds-w-at invariant-loop decreases-loop
shared-slice-read-from-word c = c.requires.0 c.loop-i.i
    c.loop-i-test.true

known-requires : tie.Need-known-requires invariant-loop decreases-loop
known-requires c κs =
    let h = c.requires.1 c.loop-i.i
    c.loop-i-test.true in
    rw (ap (λ (l : Lit). l.0.0) c.from_word.ensures) h

returns : tie.Need-returns-then-not-known invariant-loop decreases-loop
returns c =
    λ all. rw (not-true c.known.result (not_from_false _ c.if-not-known.true), read c.before.before) at c.known.ensures
    (all c.loop-i.i c.loop-i-test.true)

add-i : tie.Need-overflow_add-i invariant-loop decreases-loop
add-i c = omega arith

loop-less : tie.Need-loop-i-smaller invariant-loop decreases-loop
loop-less c = omega arith

loop-again : tie.Need-loop-i-preserved invariant-loop decreases-loop
loop-again c = (
  omega arith,
  below_more _ _ c.loop-i.invariant.1
      (rw (not-false c.known.result (not_from_true _ c.if-not-known.false), read c.before.before) at c.known.ensures),
)

returns-2 : tie.Need-returns invariant-loop decreases-loop
returns-2 c = λ k l. c.loop-i.invariant.1 k (omega arith)

pub all_known_spec : {M : Type 1} → statement M
all_known_spec =
    tie.close
    (tie.spec invariant-loop decreases-loop loop-holds mul-from-word add-from-word mul-from-word-2 shared-slice-read-from-word (λ c κs. search rules) known-requires returns add-i loop-less loop-again returns-2)
