-- `replay::read_symbols` meets its contract. The loop's invariant: the first i bytes are bits or `x`. The measure is what is left of the
-- count. Assumes nothing.
use Prim.Native.Nat.{ℕ, ◌+◌, ◌-◌, ◌≤◌, ◌<◌}
use native.Mathlib.Omega.{arith}
use borrow.Author.Count.{below_more}
use borrow.Author.Tests.{not-true, not-false}
use mathlib.Core.Path.{sym, ◌∙◌}
use lib.ListN.{get_or}
use Rattle.completions.specs.Forms.{Symbol}
use Rattle.completions.proofs.Forms.{symbol-test, not-symbol}
use Rattle.witness.proofs.Lines.{too_short, no_line, no_answer, answer}
use Rattle.replay.proofs.Symbols.{no_symbol, same-feed, no-feed}
use Rattle.replay.proofs.read_symbols.Statement.{statement}
use Rattle.replay.proofs.read_symbols.Tie as tie

abbrev invariant-loop : tie.invariant-loop-i
invariant-loop text at count i₀ i = (i ≤ count) × ((k : ℕ) → k < i → Symbol (get_or text (at + k) 0))

abbrev decreases-loop : tie.decreases-loop-i
decreases-loop text at count i₀ i = count - i

returns : tie.Need-returns-then-text-at invariant-loop decreases-loop
returns c = λ u h. let a = c.args in no_answer (too_short u a.at a.count (omega (arith, h.size)))

sub-if2 : tie.Need-overflow_sub-text invariant-loop decreases-loop
sub-if2 c = omega arith

returns-2 : tie.Need-returns-then-text-at-2 invariant-loop decreases-loop
returns-2 c = λ u h. let a = c.args in no_answer (too_short u a.at a.count (omega (arith, h.size)))

loop-holds : tie.Need-loop-i-init invariant-loop decreases-loop
loop-holds c = (omega arith, λ k h. absurd (omega arith))

add-is-symbol : tie.Need-overflow_add-at invariant-loop decreases-loop
add-is-symbol c = omega arith

shared-slice-read-is-symbol : tie.Need-bounds-text-at invariant-loop decreases-loop
shared-slice-read-is-symbol c = omega arith

is-symbol-requires : tie.Need-is_symbol-requires invariant-loop decreases-loop
is-symbol-requires c κs = tt

returns-3 : tie.Need-returns-then-not-is_symbol invariant-loop decreases-loop
returns-3 c = λ u h.
    let a = c.args in
    no_answer
    (no_symbol h a.at a.count c.loop-i.i (omega arith) (omega (arith, h.size))
    (not-symbol (get_or a.text.now (a.at + c.loop-i.i) 0) (sym c.is_symbol.ensures ∙ c.if-not-is_symbol.true)))

add-i : tie.Need-overflow_add-i invariant-loop decreases-loop
add-i c = omega arith

loop-less : tie.Need-loop-i-smaller invariant-loop decreases-loop
loop-less c = omega arith

loop-again : tie.Need-loop-i-preserved invariant-loop decreases-loop
loop-again c =
    let a = c.args in (
      omega arith,
      below_more _ c.loop-i.i c.loop-i.invariant.1
          (symbol-test (get_or a.text.now (a.at + c.loop-i.i) 0) (sym c.is_symbol.ensures ∙ c.if-not-is_symbol.false)),
    )

add-if4 : tie.Need-overflow_add-at-2 invariant-loop decreases-loop
add-if4 c = omega arith

shared-slice-read-if4 : tie.Need-bounds-text-at-2 invariant-loop decreases-loop
shared-slice-read-if4 c = omega arith

returns-4 : tie.Need-returns-then-text-at-ne10 invariant-loop decreases-loop
returns-4 c = λ u h.
    let a = c.args in
    no_answer (no_line u a.at a.count (omega (arith, h.size)) (no-feed h (a.at + a.count) c.if-text-at-ne10.true))

add-t7 : tie.Need-overflow_add-result invariant-loop decreases-loop
add-t7 c = omega arith

add-t5 : tie.Need-overflow_add-result-2 invariant-loop decreases-loop
add-t5 c = omega arith

returns-5 : tie.Need-returns invariant-loop decreases-loop
returns-5 c = λ u h.
    let a = c.args in
    answer u a.at a.count (omega (arith, h.size)) (λ k b. (h.at (a.at + k)).symbol (c.loop-i.invariant.1 k (omega arith)))
    (same-feed h (a.at + a.count) c.if-text-at-ne10.false)

pub read_symbols_spec : {M : Type 1} → statement M
read_symbols_spec =
    tie.close
    (tie.spec invariant-loop decreases-loop returns sub-if2 returns-2 loop-holds add-is-symbol shared-slice-read-is-symbol is-symbol-requires returns-3 add-i loop-less loop-again add-if4 shared-slice-read-if4 returns-4 add-t7 add-t5 returns-5)
