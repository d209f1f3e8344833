-- `load::store_counts` meets its contract: seven stores are the seven counts. Assumes nothing.
use native.Mathlib.Omega.{arith}
use borrow.Author.Rules.{rules}
use lib.ListN.{length-set}
use lib.Seq.{sets-eq}
use Rattle.load.specs.Answers.{numbers}
use Rattle.load.proofs.store_counts.Statement.{statement}
use Rattle.load.proofs.store_counts.Tie as tie

slice-write-words-2 : tie.Need-bounds-words-1
slice-write-words-2 c = simp length-set (omega arith)

slice-write-words-3 : tie.Need-bounds-words-2
slice-write-words-3 c = simp length-set (omega arith)

slice-write-words-4 : tie.Need-bounds-words-3
slice-write-words-4 c = simp length-set (omega arith)

slice-write-words-5 : tie.Need-bounds-words-4
slice-write-words-5 c = simp length-set (omega arith)

slice-write-words-6 : tie.Need-bounds-words-5
slice-write-words-6 c = simp length-set (omega arith)

returns : tie.Need-returns
returns c = sets-eq (numbers c.args.k) c.args.words.now 0 c.requires

pub store_counts_spec : {M : Type 1} → statement M
store_counts_spec =
    tie.close
    (tie.spec (λ c. search rules) slice-write-words-2 slice-write-words-3 slice-write-words-4 slice-write-words-5 slice-write-words-6 (λ c. search rules) (λ c. search rules) returns)
