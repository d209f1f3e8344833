-- `pairing::put_pairs` meets its contract. Assumes nothing.
use mathlib.Core.Path.{◌≡◌, sym, ap, ap₂, ◌∙◌, subst₂}
use Prim.Native.Nat.{ℕ, ◌+◌, ◌*◌}
use native.Mathlib.Omega.{arith}
use Rattle.literals.specs.Literal.{word_of}
use Rattle.literals.specs.declared.Lit.{Lit}
use Rattle.layout.specs.Words.{word}
use Rattle.frames.proofs.Stores.{stored-start}
use Rattle.renumber.specs.Names.{under, Put}
use Rattle.renumber.proofs.Renamed.{named-word}
use Rattle.renumber.proofs.Runs.{stored-all, block_more}
use Rattle.pairing.specs.Words.{pair_word, pairs_word}
use Rattle.pairing.proofs.Pairs.{pair-words}
use Rattle.pairing.proofs.put_pairs.Goals as goal

pub pairs_from-to-requires : goal.pairs_from-to-requires
pairs_from-to-requires c = (c.requires.table.2, c.requires.table.3)

pub pairs_var-v-requires : goal.pairs_var-v-requires
pairs_var-v-requires c = (c.requires.table.2, c.requires.table.3)

pub loop-j-init : goal.loop-j-init
loop-j-init c = stored-start _ _ _

pub overflow_add-p : goal.overflow_add-p
overflow_add-p c = omega (arith, c.requires.table.0.outputs-inside)

pub bounds-a-p : goal.bounds-a-p
bounds-a-p c = omega (arith, c.requires.table.0.outputs-inside)

pub rename-x-requires : goal.rename-x-requires
rename-x-requires c = rw (ap (λ (x : Lit). x.0.0) c.from_word.ensures) (c.requires.table.0.outputs c.loop-j.j (omega arith))

pub overflow_add-q : goal.overflow_add-q
overflow_add-q c = omega (arith, c.requires.table.1.outputs-inside, c.requires.table.5)

pub bounds-b-q : goal.bounds-b-q
bounds-b-q c = omega (arith, c.requires.table.1.outputs-inside, c.requires.table.5)

pub rename-y-requires : goal.rename-y-requires
rename-y-requires c = rw (ap (λ (x : Lit). x.0.0) c.from_word-in-loop-j.ensures) (c.requires.table.1.outputs c.loop-j.j (omega (arith, c.requires.table.5)))

pub overflow_add-to : goal.overflow_add-to
overflow_add-to c = omega (arith, c.loop-j-test.true, c.requires.table.4, c.requires.q_bound, c.pairs_from-to.ensures)

pub overflow_add-v : goal.overflow_add-v
overflow_add-v c = omega (arith, c.loop-j-test.true, c.requires.table.4, c.requires.q_bound, c.pairs_var-v.ensures)

pub put_pair-requires : goal.put_pair-requires
put_pair-requires c = (
  omega (arith, c.requires.table.4, c.requires.q_bound, c.pairs_var-v.ensures),
  c.rename-x.ensures.1,
  c.rename-y.ensures.1,
  omega (arith, c.loop-j-test.true, c.loop-j.auto.m, c.requires.q_bound, c.pairs_from-to.ensures),
)

pub loop-j-preserved : goal.loop-j-preserved
loop-j-preserved c =
    let a = c.args in
    let j = c.loop-j.j in
    let v = c.pairs_var-v.result.0 in
    let to = c.pairs_from-to.result in
    let P : ℕ → ℕ = λ i. under a.first.now (word a.a.now (a.p.outputs + i)) in
    let Q : ℕ → ℕ = λ i. under a.second.now (word a.b.now (a.q.outputs + i)) in
    let p = named-word a.first.now (word a.a.now (a.p.outputs + j)) c.from_word.ensures c.rename-x.ensures.0 in
    let q = named-word a.second.now (word a.b.now (a.q.outputs + j)) c.from_word-in-loop-j.ensures c.rename-y.ensures.0 in
    block_more to 9 (pairs_word v P Q) (pair_word (v + 3 * j) (word_of c.rename-x.result) (word_of c.rename-y.result)) j a.m.now c.loop-j.m c.put_pair.new.m
    (λ r h. pair-words v P Q j r h ∙ ap₂ (λ (s t : ℕ). pair_word (v + 3 * j) s t r) (sym p) (sym q)) c.loop-j.invariant c.put_pair.ensures

pub returns : goal.returns
returns c =
    let a = c.args in
    let P : ℕ → ℕ = λ i. under a.first.now (word a.a.now (a.p.outputs + i)) in
    let Q : ℕ → ℕ = λ i. under a.second.now (word a.b.now (a.q.outputs + i)) in
    subst₂ (λ (to v : ℕ). Put to (pairs_word v P Q) (9 * a.p.o) a.m.now c.loop-j.m) c.pairs_from-to.ensures c.pairs_var-v.ensures
    (stored-all (λ i. c.pairs_from-to.result + i) (pairs_word c.pairs_var-v.result.0 P Q) a.m.now c.loop-j.m (omega arith) c.loop-j.invariant)
