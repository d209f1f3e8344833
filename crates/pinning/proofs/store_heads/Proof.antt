-- `pinning::store_heads` meets its contract. Assumes nothing.
use native.Mathlib.Omega.{arith}
use lib.ListN.{length-set}
use lib.Seq.{sets-eq}
use Rattle.pinning.specs.Steps.{heads}
use borrow.Author.Rules.{rules}
use Rattle.pinning.proofs.store_heads.Statement.{statement}
use Rattle.pinning.proofs.store_heads.Tie as tie
use Rattle.pinning.proofs.store_heads.Reads as reads
use Rattle.pinning.proofs.store_heads.Lts as lts

slice-write-words-2 : tie.Need-bounds-words-1
slice-write-words-2 c = simp length-set (omega arith)

slice-write-words-3 : tie.Need-bounds-words-2
slice-write-words-3 c = simp length-set (omega arith)

slice-write-words-4 : tie.Need-bounds-words-3
slice-write-words-4 c = simp length-set (omega arith)

slice-write-words-5 : tie.Need-bounds-words-4
slice-write-words-5 c = simp length-set (omega arith)

slice-write-words-6 : tie.Need-bounds-words-5
slice-write-words-6 c = simp length-set (omega arith)

slice-write-words-7 : tie.Need-bounds-words-6
slice-write-words-7 c = simp length-set (omega arith)

same_length : tie.Need-shape_of-words
same_length c = simp length-set

returns : tie.Need-returns
returns c = sets-eq (heads c.args.m.now c.args.n) c.args.words.now 0 (omega arith)

pub store_heads_spec : {M : Type 1} → statement M
store_heads_spec =
    tie.close
    (tie.spec (λ c. search rules) (λ c. search rules) (λ c. search rules) slice-write-words-2 (λ c. search rules) slice-write-words-3 (λ c. search rules) slice-write-words-4 (λ c. search rules) slice-write-words-5 (λ c. search rules) slice-write-words-6 (λ c. search rules) slice-write-words-7 same_length returns)
