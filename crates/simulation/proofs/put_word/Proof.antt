use native.Mathlib.Omega.{arith}
use lib.ListN.{length-set}
use Rattle.simulation.proofs.Words.{word-put}
use borrow.Author.Rules.{rules}
use Rattle.simulation.proofs.put_word.Statement.{statement}
use Rattle.simulation.proofs.put_word.Tie as tie
use Rattle.simulation.proofs.put_word.Reads as reads
use Rattle.simulation.proofs.put_word.Lts as lts

slice-write-work-2 : tie.Need-bounds-work-v-2
slice-write-work-2 c = simp length-set (omega arith)

returns : tie.Need-returns
returns c = word-put c.args.work.now c.args.v c.args.word c.requires

pub put_word_spec : {M : Type 1} → statement M
put_word_spec =
    tie.close
    (tie.spec (λ c. search rules) (λ c. search rules) (λ c. search rules) (λ c. search rules) (λ c. search rules) (λ c. search rules) (λ c. search rules) (λ c. search rules) (λ c. search rules) slice-write-work-2 (λ c. search rules) returns)
