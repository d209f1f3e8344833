-- `signatures::put_word` meets its contract. Assumes nothing.
use Rattle.signatures.proofs.Words.{put_word}
use borrow.Author.Rules.{rules}
use Rattle.signatures.proofs.put_word.Statement.{statement}
use Rattle.signatures.proofs.put_word.Tie as tie

returns : tie.Need-returns
returns c =
    let a = c.args in
    put_word a.work.now a.k a.f a.w c.ranges.w.fits c.requires.0

pub put_word_spec : {M : Type 1} → statement M
put_word_spec =
    tie.close
    (tie.spec (λ c. search rules) (λ c. search rules) (λ c. search rules) (λ c. search rules) (λ c. search rules) (λ c. search rules) (λ c. search rules) (λ c. search rules) (λ c. search rules) (λ c. search rules) (λ c. search rules) (λ c. search rules) returns)
