-- `pairs::append_pair` meets its contract: each store is in the memory, and the four stores put the gate in front of its bucket.
-- Assumes nothing.
use mathlib.Core.Path.{refl, sym, ap₂, ◌∙◌}
use native.Mathlib.Omega.{arith}
use borrow.Author.Rules.{rules}
use lib.ListN.{length-set}
use Rattle.pairs.specs.Bucket.{bucket_of}
use Rattle.pairs.proofs.Append.{appended-as, written-appended, stores-written}
use Rattle.pairs.proofs.append_pair.Statement.{statement}
use Rattle.pairs.proofs.append_pair.Tie as tie

bucket-requires : tie.Need-bucket-h-requires
bucket-requires c κs = ((omega (arith, c.requires.0.room), c.requires.0.sized.room), c.requires.1)

cast-work : tie.Need-overflow_cast-work
cast-work c = omega (arith, c.word.ensures, c.requires.1.0)

cast-work-2 : tie.Need-overflow_cast-work-2
cast-work-2 c = omega (arith, c.word-2.ensures, c.requires.1.1)

slice-write-work-2 : tie.Need-bounds-work-k-2
slice-write-work-2 c = simp length-set (omega arith)

slice-read-work : tie.Need-bounds-work-h
slice-read-work c = simp length-set (omega arith)

slice-write-work-3 : tie.Need-bounds-work-k-3
slice-write-work-3 c = simp length-set (omega arith)

slice-write-work-4 : tie.Need-bounds-work-h-2
slice-write-work-4 c = simp length-set (omega arith)

returns : tie.Need-returns
returns c =
    let a = c.args in
    let r = c.requires.0 in (
      refl,
      appended-as c.word.ensures c.word-2.ensures
          (written-appended a.work.now _ a.g c.word.result c.word-2.result r
          (stores-written a.work.now a.g c.word.result c.word-2.result c.bucket-h.result r
          (c.bucket-h.ensures.0 ∙ sym (ap₂ (bucket_of a.g.room) c.word.ensures c.word-2.ensures)) c.bucket-h.ensures.1)),
    )

pub append_pair_spec : {M : Type 1} → statement M
append_pair_spec =
    tie.close
    (tie.spec bucket-requires (λ c κs. search rules) cast-work (λ c. search rules) (λ c. search rules) (λ c. search rules) (λ c κs. search rules) cast-work-2 (λ c. search rules) (λ c. search rules) (λ c. search rules) slice-write-work-2 (λ c. search rules) (λ c. search rules) (λ c. search rules) slice-read-work (λ c. search rules) (λ c. search rules) (λ c. search rules) slice-write-work-3 (λ c. search rules) (λ c. search rules) (λ c. search rules) (λ c. search rules) (λ c. search rules) slice-write-work-4 (λ c. search rules) (λ c. search rules) returns)
