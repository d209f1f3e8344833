-- `heap::rise` meets its contract. Assumes nothing.
use borrow.Author.Tests.{le-leb, lt-leb}
use Prim.Native.Nat.{ℕ}
use mathlib.Core.Bool.{true}
use Rattle.heap.specs.Heap as Hp
use Rattle.heap.proofs.Unmoved.{upped-stays}
use mathlib.Core.Path.{◌≡◌, refl, sym, subst, ◌∙◌}
use borrow.Author.Rules.{rules}
use Rattle.heap.proofs.rise.Statement.{statement}
use Rattle.heap.proofs.rise.Tie as tie

returns : tie.Need-returns-then-stays
unfolding Hp.risen
returns c =
    let a = c.args in
    let seated = sym c.is_seated.ensures ∙ c.if-is_seated.true in
    let stays = subst (λ (i : ℕ). Hp.stays a.work.now a.nodes i a.v ≡ true) c.place_of-i.ensures
    (sym c.stays.ensures ∙ c.if-stays.true) in
    rw (seated) (record { words = sym (upped-stays a.work.now a.nodes a.v a.heap.size seated stays); heap = refl })

returns-2 : tie.Need-returns-then-is_seated
unfolding Hp.risen
returns-2 c =
    rw (← c.is_seated.ensures, c.if-is_seated.true)
    (record { words = rw (← c.place_of-i.ensures) c.up.ensures; heap = refl })

returns-3 : tie.Need-returns-then-nodes-heap
unfolding Hp.risen
returns-3 c = rw (← c.is_seated.ensures, c.if-is_seated.false, le-leb _ _ c.if-nodes-heap.true) (record { words = refl; heap = refl })

returns-4 : tie.Need-returns
unfolding Hp.risen
returns-4 c = rw (← c.is_seated.ensures, c.if-is_seated.false, lt-leb _ _ c.if-nodes-heap.false) (record { words = c.up-2.ensures; heap = refl })

pub rise_spec : {M : Type 1} → statement M
rise_spec =
    tie.close
    (tie.spec (λ c κs. search rules) (λ c κs. search rules) (λ c κs. search rules) (λ c. search rules) returns (λ c κs. search rules) (λ c. search rules) returns-2 (λ c. search rules) returns-3 (λ c κs. search rules) (λ c. search rules) (λ c. search rules) returns-4)
