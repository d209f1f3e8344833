-- `diagrams::keep` meets its contract. Assumes nothing.
use mathlib.Core.Path.{refl}
use Prim.Native.Nat.{ℕ, ◌+◌, ◌*◌}
use native.Mathlib.Omega.{arith}
use borrow.Author.Rules.{rules}
use lib.ListN.{length-set}
use Rattle.diagrams.proofs.Stores.{kept_in, kept_out}
use Rattle.diagrams.proofs.keep.Statement.{statement}
use Rattle.diagrams.proofs.keep.Tie as tie

slice-write-w-2 : tie.Need-bounds-w-at-then-i-w
slice-write-w-2 c = simp length-set (omega arith)

slice-write-w-3 : tie.Need-bounds-w-at-then-i-w-2
slice-write-w-3 c = simp length-set (omega arith)

slice-write-w-4 : tie.Need-bounds-w-at-then-i-w-3
slice-write-w-4 c = simp length-set (omega arith)

returns : tie.Need-returns-then-i-w
returns c =
    let a = c.args in
    kept_in a.w.now a.f a.g a.h c.bucket-i.result (4 * c.bucket-i.result + 4) c.bucket-i.ensures.0 refl a.r c.if-i-w.true

returns-2 : tie.Need-returns-else-i-w
returns-2 c =
    let a = c.args in
    kept_out a.w.now a.f a.g a.h c.bucket-i.result (4 * c.bucket-i.result + 4) c.bucket-i.ensures.0 refl a.r c.if-i-w.false

pub keep_spec : {M : Type 1} → statement M
keep_spec =
    tie.close
    (tie.spec (λ c κs. search rules) (λ c. search rules) (λ c. search rules) (λ c. search rules) (λ c. search rules) (λ c. search rules) (λ c. search rules) slice-write-w-2 (λ c. search rules) (λ c. search rules) slice-write-w-3 (λ c. search rules) (λ c. search rules) slice-write-w-4 (λ c. search rules) returns returns-2)
