-- `numbers::fill` meets its contract. The loop's invariant: the last k digits of what is left, and the bytes from k on, are the last digits
-- of n. The measure is k. Assumes nothing.
use mathlib.Core.Path.{◌≡◌, refl, ◌∙◌}
use mathlib.Core.List.{◌++◌, append-nil}
use Prim.Native.Nat.{◌≤◌}
use native.Mathlib.Omega.{arith}
use lib.ListN.{length, drop, length-set}
use lib.Seq.{drop-length}
use Rattle.numbers.specs.Last.{last_digits}
use Rattle.numbers.proofs.Digits.{fill-before, fill_done}
use Rattle.numbers.proofs.fill.Statement.{statement}
use Rattle.numbers.proofs.fill.Tie as tie

abbrev invariant-loop : tie.invariant-loop-k
invariant-loop out₀ n k₀ rest₀ out k rest =
    (length out ≡ length out₀) × (k ≤ length out) × (last_digits k rest ++ drop k out ≡ last_digits (length out₀) n)

abbrev decreases-loop : tie.decreases-loop-k
decreases-loop out₀ n k₀ rest₀ out k rest = k

loop-holds : tie.Need-loop-k-init invariant-loop decreases-loop
loop-holds c = (refl, omega arith, rw (drop-length _) (append-nil _))

sub-k : tie.Need-overflow_sub-k invariant-loop decreases-loop
sub-k c = omega arith

cast-out : tie.Need-overflow_cast-out invariant-loop decreases-loop
cast-out c = omega arith

add-out : tie.Need-overflow_add-out invariant-loop decreases-loop
add-out c = omega arith

slice-write-out : tie.Need-bounds-out-k invariant-loop decreases-loop
slice-write-out c = omega arith

loop-less : tie.Need-loop-k-smaller invariant-loop decreases-loop
loop-less c = omega arith

loop-again : tie.Need-loop-k-preserved invariant-loop decreases-loop
loop-again c =
    let l = c.before in
    let i = l.loop-k.invariant in (
      simp length-set i.0,
      simp length-set (omega arith),
      fill-before l.loop-k.out l.loop-k.k l.loop-k.rest (omega arith) i.1 ∙ i.2,
    )

same_length : tie.Need-shape_of-out invariant-loop decreases-loop
same_length c = omega arith

returns : tie.Need-returns invariant-loop decreases-loop
returns c = fill_done c.loop-k.out c.loop-k.k c.loop-k.rest c.loop-k-test.false ∙ c.loop-k.invariant.2

pub fill_spec : {M : Type 1} → statement M
fill_spec =
    tie.close
    (tie.spec invariant-loop decreases-loop loop-holds sub-k cast-out add-out slice-write-out loop-less loop-again same_length returns)
