-- `numbers::read_number` meets its contract. The loop's invariant is `Gathering`, and the laws of `proofs/Gather.antt` say what each
-- answer means. The measure is what is left of the text. Assumes nothing.
use mathlib.Core.Path.{sym, ◌∙◌}
use Prim.Native.Nat.{ℕ, ◌-◌}
use native.Mathlib.Omega.{arith}
use lib.ListN.{length, get_or}
use Rattle.numbers.proofs.Gather.{Gathering, start, turn, held, low-total, low, high, by-space, by-line, no_number, no_end, text-end, eleventh}
use Rattle.numbers.proofs.read_number.Statement.{statement}
use Rattle.numbers.proofs.read_number.Tie as tie

abbrev invariant-loop : tie.invariant-loop-i
invariant-loop s at total₀ count₀ i₀ total count i = Gathering s at total count i

abbrev decreases-loop : tie.decreases-loop-i
decreases-loop s at total₀ count₀ i₀ total count i = length s - i

-- the byte at i
abbrev byte : tie.At-loop-i invariant-loop decreases-loop → ℕ
byte l = get_or l.args.s.now l.loop-i.i 0

loop-holds : tie.Need-loop-i-init invariant-loop decreases-loop
loop-holds c = start _ _

shared-slice-read-b : tie.Need-bounds-s-i invariant-loop decreases-loop
shared-slice-read-b c = omega arith

is-number-requires : tie.Need-is_number-requires invariant-loop decreases-loop
is-number-requires c κs = held c.loop-i.invariant

add-t12 : tie.Need-overflow_add-result invariant-loop decreases-loop
add-t12 c = omega arith

returns : tie.Need-returns-then-is_number invariant-loop decreases-loop
returns c =
    let m = c.before.before in
    let l = m.before.before.before in
    by-space l.loop-i.invariant m.loop-i-test.true m.in-32.is (sym c.is_number.ensures ∙ c.if-is_number.true)

returns-2 : tie.Need-returns-in-32 invariant-loop decreases-loop
returns-2 c =
    let m = c.before.before in
    let l = m.before.before.before in
    no_number l.loop-i.invariant m.loop-i-test.true
    (low (byte l) (omega (arith, m.in-32.is))) (sym c.is_number.ensures ∙ c.if-is_number.false)

is-number-requires-2 : tie.Need-is_number-requires-in-10 invariant-loop decreases-loop
is-number-requires-2 c κs = held c.loop-i.invariant

add-t14 : tie.Need-overflow_add-result-then-is_number-2 invariant-loop decreases-loop
add-t14 c = omega arith

returns-3 : tie.Need-returns-then-is_number-2 invariant-loop decreases-loop
returns-3 c =
    let m = c.before.before in
    let l = m.before.before.before in
    by-line l.loop-i.invariant m.loop-i-test.true m.in-10.is (sym c.is_number-in-10.ensures ∙ c.if-is_number-2.true)

returns-4 : tie.Need-returns-in-10 invariant-loop decreases-loop
returns-4 c =
    let m = c.before.before in
    let l = m.before.before.before in
    no_number l.loop-i.invariant m.loop-i-test.true
    (low (byte l) (omega (arith, m.in-10.is))) (sym c.is_number-in-10.ensures ∙ c.if-is_number-2.false)

returns-5 : tie.Need-returns-then-count-eq10 invariant-loop decreases-loop
returns-5 c =
    let l = c.before.before.before.before in
    eleventh l.loop-i.invariant (omega arith) (omega arith) (omega arith) (omega arith)

mul-total : tie.Need-overflow_mul-total invariant-loop decreases-loop
mul-total c =
    let l = c.before.before.before.before in
    omega (arith, low-total l.loop-i.invariant (omega arith))

from-requires : tie.Need-from-requires invariant-loop decreases-loop
from-requires c κs = tt

add_total : tie.Need-overflow_add-total invariant-loop decreases-loop
add_total c =
    let l = c.before.before.before.before.before in
    omega (arith, low-total l.loop-i.invariant (omega arith), c.from.ensures)

add-count : tie.Need-overflow_add-count invariant-loop decreases-loop
add-count c = omega arith

add-i : tie.Need-overflow_add-i invariant-loop decreases-loop
add-i c = omega arith

loop-less : tie.Need-loop-i-smaller invariant-loop decreases-loop
loop-less c = omega arith

loop-again : tie.Need-loop-i-preserved invariant-loop decreases-loop
loop-again c =
    let l = c.before.before.before.before.before in
    turn l.loop-i.invariant (omega arith) (omega arith) (omega arith) (omega arith) c.from.result c.from.ensures

returns-6 : tie.Need-returns-in_default invariant-loop decreases-loop
returns-6 c =
    let m = c in
    let l = m.before.before.before in
    no_end l.loop-i.invariant m.loop-i-test.true
    (low _ c.in_default.if-b-lt48-own.true) m.in_default.in_default-own.rest.0.1 m.in_default.in_default-own.rest.1

returns-7 : tie.Need-returns-in_default-2 invariant-loop decreases-loop
returns-7 c =
    let m = c in
    let l = m.before.before.before in
    no_end l.loop-i.invariant m.loop-i-test.true
    (high _ c.in_default.if-b-lt58-own.false) m.in_default.in_default-own.rest.0.1 m.in_default.in_default-own.rest.1

returns-8 : tie.Need-returns invariant-loop decreases-loop
returns-8 c =
    let l = c.before in
    text-end l.loop-i.invariant c.loop-i-test.false

pub read_number_spec : {M : Type 1} → statement M
read_number_spec =
    tie.close
    (tie.spec invariant-loop decreases-loop loop-holds shared-slice-read-b is-number-requires add-t12 returns returns-2 is-number-requires-2 add-t14 returns-3 returns-4 returns-5 mul-total from-requires add_total add-count add-i loop-less loop-again returns-6 returns-7 returns-8)
