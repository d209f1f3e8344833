-- `witness::read_bits` meets its contract. The loop's invariant: the first i bytes are bits. The measure is what is left of the count.
-- Assumes nothing.
use Prim.Native.Nat.{ℕ, ◌+◌, ◌-◌, ◌≤◌, ◌<◌}
use native.Mathlib.Omega.{arith}
use borrow.Author.Count.{below_more}
use lib.ListN.{get_or}
use Rattle.witness.proofs.Lines.{IsBit, bit-range, too_short, no-bit, no_line, no_answer, answer}
use Rattle.witness.proofs.read_bits.Statement.{statement}
use Rattle.witness.proofs.read_bits.Tie as tie

abbrev invariant-loop : tie.invariant-loop-i
invariant-loop text at count i₀ i = (i ≤ count) × ((k : ℕ) → k < i → IsBit (get_or text (at + k) 0))

abbrev decreases-loop : tie.decreases-loop-i
decreases-loop text at count i₀ i = count - i

returns : tie.Need-returns-then-text-at invariant-loop decreases-loop
returns c = let a = c.args in no_answer (too_short a.text.now a.at a.count (omega arith))

sub-if2 : tie.Need-overflow_sub-text invariant-loop decreases-loop
sub-if2 c = omega arith

returns-2 : tie.Need-returns-then-text-at-2 invariant-loop decreases-loop
returns-2 c = let a = c.args in no_answer (too_short a.text.now a.at a.count (omega arith))

loop-holds : tie.Need-loop-i-init invariant-loop decreases-loop
loop-holds c = (omega arith, λ k h. absurd (omega arith))

add-if3 : tie.Need-overflow_add-at invariant-loop decreases-loop
add-if3 c = omega arith

shared-slice-read-if3 : tie.Need-bounds-text-at invariant-loop decreases-loop
shared-slice-read-if3 c = omega arith

add-i : tie.Need-overflow_add-i invariant-loop decreases-loop
add-i c = omega arith

loop-less : tie.Need-loop-i-smaller invariant-loop decreases-loop
loop-less c = omega arith

loop-again : tie.Need-loop-i-preserved invariant-loop decreases-loop
loop-again c =
    (omega arith, below_more _ c.loop-i.i c.loop-i.invariant.1 (bit-range (get_or c.args.text.now (c.args.at + c.loop-i.i) 0) c.in-48-to-49.if-text-at-lt48-own.false (omega (arith, c.in-48-to-49.if-this-lt50-own.true))))

returns-3 : tie.Need-returns-in_default invariant-loop decreases-loop
returns-3 c =
    let a = c.args in
    no_answer (no-bit a.text.now a.at a.count c.loop-i.i (omega arith) (omega arith) (λ e. omega arith) (λ e. omega arith))

returns-4 : tie.Need-returns-in_default-2 invariant-loop decreases-loop
returns-4 c =
    let a = c.args in
    no_answer (no-bit a.text.now a.at a.count c.loop-i.i (omega arith) (omega arith) (λ e. omega arith) (λ e. omega arith))

add-if5 : tie.Need-overflow_add-at-2 invariant-loop decreases-loop
add-if5 c = omega arith

shared-slice-read-if5 : tie.Need-bounds-text-at-2 invariant-loop decreases-loop
shared-slice-read-if5 c = omega arith

returns-5 : tie.Need-returns-then-text-at-ne10 invariant-loop decreases-loop
returns-5 c =
    let a = c.args in
    no_answer (no_line a.text.now a.at a.count (omega arith) c.if-text-at-ne10.true)

add-t7 : tie.Need-overflow_add-result invariant-loop decreases-loop
add-t7 c = omega arith

add-t5 : tie.Need-overflow_add-result-2 invariant-loop decreases-loop
add-t5 c = omega arith

returns-6 : tie.Need-returns invariant-loop decreases-loop
returns-6 c =
    let a = c.args in
    answer a.text.now a.at a.count (omega arith) (λ k h. c.loop-i.invariant.1 k (omega arith)) c.if-text-at-ne10.false

pub read_bits_spec : {M : Type 1} → statement M
read_bits_spec =
    tie.close
    (tie.spec invariant-loop decreases-loop returns sub-if2 returns-2 loop-holds add-if3 shared-slice-read-if3 add-i loop-less loop-again returns-3 returns-4 add-if5 shared-slice-read-if5 returns-5 add-t7 add-t5 returns-6)
