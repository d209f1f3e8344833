-- `join::put_zeros` meets its contract. Assumes nothing.
use mathlib.Core.Path.{◌≡◌, refl, ◌∙◌}
use Prim.Native.Nat.{ℕ, ◌+◌, ◌-◌, ◌≤◌}
use native.Mathlib.Omega.{arith}
use lib.ListN.{length, length-set}
use Rattle.frames.proofs.Stores.{stored-start}
use Rattle.renumber.specs.Names.{Put}
use Rattle.renumber.proofs.Runs.{put-more, stored-all}
use borrow.Author.Rules.{rules}
use Rattle.pairing.proofs.put_zeros.Statement.{statement}
use Rattle.pairing.proofs.put_zeros.Tie as tie
use Rattle.pairing.proofs.put_zeros.Reads as reads
use Rattle.pairing.proofs.put_zeros.Lts as lts

abbrev invariant-loop : tie.invariant-loop-j
invariant-loop m₀ to n j₀ m j = (j ≤ n) × (length m ≡ length m₀) × Put to (λ _. 0) j m₀ m

abbrev decreases-loop : tie.decreases-loop-j
decreases-loop m₀ to n j₀ m j = n - j

loop-holds : tie.Need-loop-j-init invariant-loop decreases-loop
loop-holds c = (omega arith, refl, stored-start _ _ _)

loop-again : tie.Need-loop-j-preserved invariant-loop decreases-loop
loop-again c = (omega arith, length-set c.loop-j.m _ _ ∙ c.loop-j.invariant.1, put-more c.args.to (λ _. 0) c.args.n c.loop-j.j c.args.m.now c.loop-j.m c.loop-j.invariant.1 (omega arith) (omega arith) c.loop-j.invariant.2 _ refl)

same_length : tie.Need-shape_of-m invariant-loop decreases-loop
same_length c = c.loop-j.invariant.1

returns : tie.Need-returns invariant-loop decreases-loop
returns c = stored-all (λ i. c.args.to + i) (λ _. 0) c.args.m.now c.loop-j.m (omega arith) c.loop-j.invariant.2

pub put_zeros_spec : {M : Type 1} → statement M
put_zeros_spec =
    tie.close
    (tie.spec invariant-loop decreases-loop loop-holds (λ c. omega arith) (λ c. omega arith) (λ c. omega arith) (λ c. omega arith) (λ c. omega arith) loop-again same_length returns)
