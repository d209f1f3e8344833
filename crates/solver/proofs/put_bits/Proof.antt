-- `solver::put_bits` meets its contract. The invariant: what is left of the bits ends as all of them do. Assumes nothing.
use mathlib.Core.Path.{◌≡◌, refl, sym, ap, ◌∙◌}
use Prim.Native.Nat.{◌+◌, ◌-◌, ◌≤◌}
use native.Mathlib.Omega.{arith}
use lib.ListN as N
use Rattle.solver.specs.Solved as S
use Rattle.solver.proofs.Bits.{put-none, put-more}
use borrow.Author.Rules.{rules}
use Rattle.solver.proofs.put_bits.Statement.{statement}
use Rattle.solver.proofs.put_bits.Tie as tie
use Rattle.solver.proofs.put_bits.Reads as reads
use Rattle.solver.proofs.put_bits.Lts as lts
use Rattle.memory.proofs.put.Reads as put_reads
use Rattle.solver.proofs.floor_bit.Reads as floor-bit-reads

abbrev invariant-loop : tie.invariant-loop-j
invariant-loop work₀ nodes n j₀ work j = (N.length work ≡ N.length work₀) × (j ≤ n) × (S.bits_put work nodes j (n - j) ≡ S.bits_put work₀ nodes 0 n)

abbrev decreases-loop : tie.decreases-loop-j
decreases-loop work₀ nodes n j₀ work j = n - j

loop-holds : tie.Need-loop-j-init invariant-loop decreases-loop
loop-holds c = (refl, omega arith, let e : c.args.n - 0 ≡ c.args.n = omega arith in ap (S.bits_put c.args.work.now c.args.nodes 0) e)

add-floor-bit : tie.Need-overflow_add-j invariant-loop decreases-loop
add-floor-bit c = omega arith

floor-bit-requires : tie.Need-floor_bit-b-requires invariant-loop decreases-loop
floor-bit-requires c κs = tt

cast-put : tie.Need-overflow_cast-j invariant-loop decreases-loop
cast-put c = omega arith

put-requires : tie.Need-put-requires invariant-loop decreases-loop
put-requires c κs = tt

add-j : tie.Need-overflow_add-j-in-loop-j invariant-loop decreases-loop
add-j c = omega arith

loop-less : tie.Need-loop-j-smaller invariant-loop decreases-loop
loop-less c = omega arith

loop-again : tie.Need-loop-j-preserved invariant-loop decreases-loop
loop-again c =
    let s = c.args in
    (c.put.auto.work ∙ c.loop-j.invariant.0, omega arith, sym (put-more c.loop-j.work c.put.new.work s.nodes c.loop-j.j (s.n - c.loop-j.j) (s.n - (c.loop-j.j + 1)) (omega arith) (c.put.ensures ∙ ap (N.set c.loop-j.work c.loop-j.j) c.floor_bit-b.ensures)) ∙ c.loop-j.invariant.2)

same_length : tie.Need-shape_of-work invariant-loop decreases-loop
same_length c = c.loop-j.invariant.0

returns : tie.Need-returns invariant-loop decreases-loop
returns c =
    let s = c.args in
    sym (put-none c.loop-j.work s.nodes c.loop-j.j (s.n - c.loop-j.j) (omega arith)) ∙ c.loop-j.invariant.2

pub put_bits_spec : {M : Type 1} → statement M
put_bits_spec =
    tie.close
    (tie.spec invariant-loop decreases-loop loop-holds add-floor-bit floor-bit-requires cast-put put-requires add-j loop-less loop-again same_length returns)
