-- `place_solver::start_bits` meets its contract. The invariant: what is left of the bits ends as all of them do. Assumes nothing.
use mathlib.Core.Path.{◌≡◌, refl, sym, ap, ◌∙◌}
use mathlib.Core.Bool.{Bool, true, false, cond}
use Prim.Native.Nat.{ℕ, ◌+◌, ◌-◌, ◌≤◌}
use native.Mathlib.Omega.{arith}
use lib.ListN as N
use Rattle.aiger.specs.Bits.{bit}
use Rattle.place_solver.specs.From as S
use Rattle.place_solver.proofs.Started.{started_none, started-more, digit-few}
use borrow.Author.Rules.{rules}
use Rattle.place_solver.proofs.start_bits.Statement.{statement}
use Rattle.place_solver.proofs.start_bits.Tie as tie

abbrev invariant-loop : tie.invariant-loop-j
invariant-loop work₀ nodes n place j₀ work j =
    (N.length work ≡ N.length work₀) × (j ≤ n) × (S.started_bits work nodes n place j (n - j) ≡ S.started_bits work₀ nodes n place 0 n)

abbrev decreases-loop : tie.decreases-loop-j
decreases-loop work₀ nodes n place j₀ work j = n - j

loop-holds : tie.Need-loop-j-init invariant-loop decreases-loop
loop-holds c =
    let a = c.args in
    let e : a.n - 0 ≡ a.n = omega arith in
    (refl, omega arith, ap (S.started_bits a.work.now a.nodes a.n a.place 0) e)

add-bit-of : tie.Need-overflow_add-j invariant-loop decreases-loop
add-bit-of c = omega arith

sub-bit-of : tie.Need-overflow_sub-n invariant-loop decreases-loop
sub-bit-of c = omega arith

cast-bit-of : tie.Need-overflow_cast-n invariant-loop decreases-loop
cast-bit-of c = omega arith

bit-of-requires : tie.Need-bit_of-d-requires invariant-loop decreases-loop
bit-of-requires c κs = tt

add-start-bit : tie.Need-overflow_add-j-in-loop-j invariant-loop decreases-loop
add-start-bit c = omega arith

start-bit-requires : tie.Need-start_bit-requires invariant-loop decreases-loop
start-bit-requires c κs = omega (arith, c.bit_of-d.ensures, digit-few (bit c.args.place (c.args.n - (c.loop-j.j + 1))))

add-j : tie.Need-overflow_add-j-in-loop-j-2 invariant-loop decreases-loop
add-j c = omega arith

loop-less : tie.Need-loop-j-smaller invariant-loop decreases-loop
loop-less c = omega arith

loop-again : tie.Need-loop-j-preserved invariant-loop decreases-loop
loop-again c =
    let s = c.args in (
      c.start_bit.auto.work ∙ c.loop-j.invariant.0,
      omega arith,
      sym (started-more c.loop-j.work c.start_bit.new.work s.nodes s.n s.place c.loop-j.j (s.n - c.loop-j.j) (s.n - (c.loop-j.j + 1)) (omega arith)
          (c.start_bit.ensures ∙ ap (S.started_bit c.loop-j.work s.nodes (c.loop-j.j + 1)) c.bit_of-d.ensures)) ∙ c.loop-j.invariant.2,
    )

same_length : tie.Need-shape_of-work invariant-loop decreases-loop
same_length c = c.loop-j.invariant.0

returns : tie.Need-returns invariant-loop decreases-loop
returns c =
    let s = c.args in
    sym (started_none c.loop-j.work s.nodes s.n s.place c.loop-j.j (s.n - c.loop-j.j) (omega arith)) ∙ c.loop-j.invariant.2

pub start_bits_spec : {M : Type 1} → statement M
start_bits_spec =
    tie.close
    (tie.spec invariant-loop decreases-loop loop-holds add-bit-of sub-bit-of cast-bit-of bit-of-requires add-start-bit start-bit-requires add-j loop-less loop-again same_length returns)
