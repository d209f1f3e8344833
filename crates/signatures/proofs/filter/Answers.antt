-- Each turn keeps a candidate or leaves it out. Assumes nothing.
use mathlib.Core.Path.{◌≡◌, sym, ap, ◌∙◌, subst}
use mathlib.Core.List.{List}
use Prim.Native.Nat.{ℕ, ◌+◌, ◌*◌}
use native.Mathlib.Omega.{arith}
use lib.ListN.{get_or}
use Rattle.nodes.specs.Store.{field}
use Rattle.nodes.specs.Edges.{edge_word, word_edge}
use Rattle.nodes.specs.declared.Edge.{Edge}
use Rattle.nodes.proofs.Laws.{edge-word}
use Rattle.signatures.specs.Twin.{HasWord, Sifted}
use Rattle.signatures.proofs.Candidates.{same-as, upto-none, upto-more}
use Rattle.signatures.proofs.filter.Goals as goal

-- the word of the candidate that is read
read : (m : List ℕ) (i : ℕ) {e : Edge} → e ≡ word_edge (get_or m (16 * i + 11) 0) → edge_word e ≡ field m i 11
read m i q = ap edge_word q ∙ edge-word (get_or m (16 * i + 11) 0)

pub loop-i-init : goal.loop-i-init
loop-i-init c = upto-none c.args.work.now c.args.w

pub keep-left-requires : goal.keep-left-requires
keep-left-requires c =
    let u = c.loop-i.invariant in
    let n = c.requires.nodes (field c.loop-i.work c.loop-i.i 11) (c.loop-i.i, omega arith, sym (u.rest c.loop-i.i (omega arith))) in
    let x = read c.loop-i.work c.loop-i.i c.from_word-e.ensures in
    (omega (arith, u.sifted.fewer), omega arith, omega (arith, c.slice_known-in-loop-i-1.given (16 * c.loop-i.i + 11)))

pub loop-i-preserved : goal.loop-i-preserved
loop-i-preserved c = upto-more c.loop-i.invariant (same-as c.args.w (read c.loop-i.work c.loop-i.i c.from_word-e.ensures) c.keep-left.ensures)

pub returns : goal.returns
returns c =
    let a = c.args in
    let e : c.loop-i.i ≡ a.count = omega arith in
    subst (λ (i : ℕ). Sifted a.work.now c.loop-i.work (HasWord a.work.now 8 a.w) i c.loop-i.left) e c.loop-i.invariant.sifted
