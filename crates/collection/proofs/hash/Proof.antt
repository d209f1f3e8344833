-- `collection::hash` meets its contract. Assumes nothing.
use mathlib.Core.Path.{◌≡◌, refl, sym, ap, ◌∙◌}
use Prim.Native.Nat.{ℕ, ◌+◌, ◌-◌, ◌*◌, ◌/◌, ◌≤◌, ◌<◌}
use native.Mathlib.Omega.{arith}
use borrow.Author.Rules.{rules}
use lib.ListN.{length, set}
use mathlib.Core.List.{List}
use Rattle.diagrams.specs.Words.{bucket_of}
use Rattle.diagrams.specs.States.{state_of}
use Rattle.diagrams.proofs.View.{length-heads}
use Rattle.collection.specs.Collecting.{with_nodes, linked_in}
use Rattle.collection.proofs.Words.{head-left}
use Rattle.collection.proofs.Turns.{inside-by, length-linked, hashed-by}
use Rattle.collection.proofs.hash.Statement.{statement}
use Rattle.collection.proofs.hash.Tie as tie

head-requires : tie.Need-head-next-requires
head-requires c κs = c.bucket-h.ensures.1

link-requires : tie.Need-link-requires
link-requires c κs = c.requires

same_length : tie.Need-shape_of-w
same_length c = c.put.auto.w ∙ c.link.auto.w

returns : tie.Need-returns
returns c =
    let a = c.args in
    let w = a.w.now in
    let s = state_of w in
    let p = c.read-p.result in
    let u = c.link.new.w in
    let h = c.bucket-h.result in
    let at = length w - length w / 16 + h in
    hashed-by s (state_of u) (state_of c.put.new.w) p a.n h
    c.head-next.result
    c.read-p.ensures
    (c.bucket-h.ensures.0 ∙ ap (λ (n : ℕ). bucket_of n p.lo p.hi p.var) (sym (length-heads w)))
    c.head-next.ensures c.link.ensures
    (ap state_of c.put.ensures
    ∙ head-left u h at a.n (ap (λ (n : ℕ). n - n / 16 + h) (sym c.link.auto.w))
    (inside-by s (state_of u) (linked_in s.nodes a.n
    c.head-next.result) c.link.ensures
    (length-linked s.nodes a.n c.head-next.result)
    c.requires))

pub hash_spec : {M : Type 1} → statement M
hash_spec =
    tie.close
    (tie.spec (λ c κs. search rules) (λ c κs. search rules) (λ c. search rules) (λ c. search rules) head-requires link-requires (λ c κs. search rules) same_length returns)
