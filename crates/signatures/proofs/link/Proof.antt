-- `signatures::link` meets its contract. Assumes nothing.
use native.Mathlib.Omega.{arith}
use lib.ListN.{length-set}
use Rattle.signatures.proofs.Buckets.{link-node}
use borrow.Author.Rules.{rules}
use Rattle.signatures.proofs.link.Statement.{statement}
use Rattle.signatures.proofs.link.Tie as tie

slice-write-work-2 : tie.Need-bounds-work-h-2
slice-write-work-2 c = simp length-set (omega arith)

returns : tie.Need-returns
returns c =
    let a = c.args in
    link-node a.work.now c.put_word.new.work a.room a.k a.s c.bucket-h.result c.bucket-h.ensures.0 c.put_word.ensures (omega arith) (omega arith)

pub link_spec : {M : Type 1} → statement M
link_spec =
    tie.close
    (tie.spec (λ c κs. search rules) (λ c κs. search rules) (λ c. search rules) (λ c. search rules) (λ c. search rules) (λ c. search rules) (λ c. search rules) (λ c. search rules) (λ c. search rules) (λ c. search rules) (λ c. search rules) (λ c. search rules) (λ c. search rules) (λ c. search rules) (λ c. search rules) slice-write-work-2 (λ c. search rules) returns)
