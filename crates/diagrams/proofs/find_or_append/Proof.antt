-- `diagrams::find_or_append` meets its contract. Assumes nothing.
use mathlib.Core.Path.{◌≡◌, sym, ap, ◌∙◌}
use Prim.Native.Nat.{ℕ}
use borrow.Author.Rules.{rules}
use Rattle.diagrams.specs.Words.{bucket_of}
use Rattle.diagrams.specs.States.{state_of}
use Rattle.diagrams.proofs.View.{length-heads}
use Rattle.diagrams.proofs.Follow.{found_here, found_nowhere}
use Rattle.diagrams.proofs.find_or_append.Statement.{statement}
use Rattle.diagrams.proofs.find_or_append.Tie as tie

head-requires : tie.Need-head-requires
head-requires c κs = c.bucket-h.ensures.1

returns : tie.Need-returns-then-k-gt0
returns c =
    let a = c.args in
    let s = state_of a.w.now in
    found_here s a.v a.lo a.hi c.bucket-h.result c.head.result c.find-k.result
    (c.bucket-h.ensures.0 ∙ ap (λ (n : ℕ). bucket_of n a.lo a.hi a.v) (sym (length-heads a.w.now)))
    c.head.ensures c.find-k.ensures
    c.edge_to.result c.if-k-gt0.true c.edge_to.ensures

append-requires : tie.Need-append-requires
append-requires c κs = c.bucket-h.ensures.1

returns-2 : tie.Need-returns
returns-2 c =
    let a = c.args in
    let s = state_of a.w.now in
    found_nowhere s a.v a.lo a.hi c.bucket-h.result c.head.result
    c.find-k.result
    (c.bucket-h.ensures.0 ∙ ap (λ (n : ℕ). bucket_of n a.lo a.hi a.v) (sym (length-heads a.w.now)))
    c.head.ensures c.find-k.ensures
    _ c.if-k-gt0.false c.append.ensures

pub find_or_append_spec : {M : Type 1} → statement M
find_or_append_spec =
    tie.close
    (tie.spec (λ c κs. search rules) head-requires (λ c κs. search rules) (λ c κs. search rules) (λ c. search rules) returns append-requires (λ c. search rules) returns-2)
