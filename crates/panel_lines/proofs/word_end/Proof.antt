-- `panel_lines::word_end` meets its contract. Assumes nothing.
use Prim.Native.Nat.{◌-◌}
use native.Mathlib.Omega.{arith}
use lib.ListN.{length}
use Rattle.panel_lines.proofs.Reading.{Reaches, starts, goes, stops, finishes}
use Rattle.panel_lines.proofs.word_end.Statement.{statement}
use Rattle.panel_lines.proofs.word_end.Tie as tie

abbrev invariant-loop : tie.invariant-loop-i
invariant-loop request from i₀ i = Reaches request from i

abbrev decreases-loop : tie.decreases-loop-i
decreases-loop request from i₀ i = length request - i

loop-holds : tie.Need-loop-i-init invariant-loop decreases-loop
loop-holds c = starts _ _ c.requires

shared-slice-read-if1 : tie.Need-bounds-request-i invariant-loop decreases-loop
shared-slice-read-if1 c = omega arith

returns : tie.Need-returns-then-request-i-eq32 invariant-loop decreases-loop
returns c = stops _ _ c.loop-i.invariant (omega arith) c.if-request-i-eq32.true

add-i : tie.Need-overflow_add-i invariant-loop decreases-loop
add-i c = omega arith

loop-less : tie.Need-loop-i-smaller invariant-loop decreases-loop
loop-less c = omega arith

loop-again : tie.Need-loop-i-preserved invariant-loop decreases-loop
loop-again c = goes _ _ c.loop-i.invariant (omega arith) c.if-request-i-eq32.false

returns-2 : tie.Need-returns invariant-loop decreases-loop
returns-2 c = finishes _ _ c.loop-i.invariant (omega arith)

pub word_end_spec : {M : Type 1} → statement M
word_end_spec =
    tie.close
    (tie.spec invariant-loop decreases-loop loop-holds shared-slice-read-if1 returns add-i loop-less loop-again returns-2)
