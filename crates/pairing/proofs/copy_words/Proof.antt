-- `join::copy_words` meets its contract. Assumes nothing.
use mathlib.Core.Path.{◌≡◌, refl, sym, ◌∙◌, subst}
use mathlib.Core.List.{List}
use Prim.Native.Nat.{ℕ, ◌+◌, ◌-◌, ◌*◌, ◌≤◌}
use native.Mathlib.Omega.{arith}
use lib.ListN.{length, set, length-set}
use Rattle.aiger.specs.Circuit.{var}
use Rattle.layout.specs.Words.{word}
use Rattle.frames.specs.Lanes.{Stored}
use Rattle.frames.proofs.Stores.{stored-start, stored_more}
use Rattle.renumber.specs.Names.{Put, under}
use Rattle.renumber.proofs.Runs.{put-more, stored-all}
use Rattle.pairing.proofs.copy_words.Statement.{statement}
use Rattle.pairing.proofs.copy_words.Tie as tie

abbrev invariant-loop : tie.invariant-loop-j
invariant-loop from n m₀ to j₀ m j = (j ≤ n) × (length m ≡ length m₀) × Stored (λ i. to + i) (word from) j m₀ m

abbrev decreases-loop : tie.decreases-loop-j
decreases-loop from n m₀ to j₀ m j = n - j

loop-holds : tie.Need-loop-j-init invariant-loop decreases-loop
loop-holds c = (omega arith, refl, stored-start _ _ _)

loop-again : tie.Need-loop-j-preserved invariant-loop decreases-loop
loop-again c = (omega arith, length-set c.loop-j.m _ _ ∙ c.loop-j.invariant.1, put-more c.args.to (word c.args.from.now) c.args.n c.loop-j.j c.args.m.now c.loop-j.m c.loop-j.invariant.1 (omega arith) (omega arith) c.loop-j.invariant.2 _ refl)

same_length : tie.Need-shape_of-m invariant-loop decreases-loop
same_length c = c.loop-j.invariant.1

returns : tie.Need-returns invariant-loop decreases-loop
returns c = stored-all (λ i. c.args.to + i) (word c.args.from.now) c.args.m.now c.loop-j.m (omega arith) c.loop-j.invariant.2

pub copy_words_spec : {M : Type 1} → statement M
copy_words_spec =
    tie.close
    (tie.spec invariant-loop decreases-loop loop-holds (λ c. omega arith) (λ c. omega arith) (λ c. omega arith) (λ c. omega arith) (λ c. omega arith) (λ c. omega arith) (λ c. omega arith) loop-again same_length returns)
