-- `decision::support_size` meets its contract. The invariant: so many of the last i free bits are marked. Assumes nothing.
use mathlib.Core.Path.{◌≡◌, refl, ap, ◌∙◌}
use mathlib.Core.List.{List}
use Prim.Native.Nat.{ℕ, ◌+◌, ◌-◌, ◌*◌, ◌≤◌}
use native.Mathlib.Omega.{arith}
use Rattle.nodes.specs.Graph.{Pair}
use Rattle.nodes.specs.Store.{field, pairs_of}
use Rattle.support.specs.Counting.{rank}
use Rattle.support.specs.Support.{support}
use Rattle.decision.proofs.Counted.{LeafMarks, mark-few, counted_none, counted-more}
use borrow.Author.Rules.{rules}
use Rattle.decision.proofs.support_size.Statement.{statement}
use Rattle.decision.proofs.support_size.Tie as tie
use Rattle.decision.proofs.support_size.Reads as reads
use Rattle.decision.proofs.support_size.Lts as lts
use Rattle.decision.proofs.mark_of.Reads as mark-of-reads

abbrev invariant-loop : tie.invariant-loop-i
invariant-loop work free r₀ i₀ r i =
    (i ≤ free) × (r ≤ i) × ((gs : List Pair) (root : ℕ) → LeafMarks gs work free root → r ≡ rank (support free gs root) i)

abbrev decreases-loop : tie.decreases-loop-i
decreases-loop work free r₀ i₀ r i = free - i

loop-holds : tie.Need-loop-i-init invariant-loop decreases-loop
loop-holds c = (omega arith, omega arith, λ gs root m. counted_none gs root _ _ _ refl refl)

sub-mark-of : tie.Need-overflow_sub-free invariant-loop decreases-loop
sub-mark-of c = omega arith

mark-of-requires : tie.Need-mark_of-r-requires invariant-loop decreases-loop
mark-of-requires c κs = omega arith

add_r : tie.Need-overflow_add-r invariant-loop decreases-loop
add_r c = omega (arith, mark-few (field c.args.work.now (c.args.g.free - c.loop-i.i) 10) c.mark_of-r.result c.mark_of-r.ensures)

add-i : tie.Need-overflow_add-i invariant-loop decreases-loop
add-i c = omega arith

loop-less : tie.Need-loop-i-smaller invariant-loop decreases-loop
loop-less c = omega arith

loop-again : tie.Need-loop-i-preserved invariant-loop decreases-loop
loop-again c =
    let s = c.args in
    let w = field s.work.now (s.g.free - c.loop-i.i) 10 in
    (omega arith, omega (arith, mark-few w c.mark_of-r.result c.mark_of-r.ensures), λ gs root m. counted-more gs root s.g.free c.loop-i.r c.loop-i.i w c.mark_of-r.result (c.loop-i.invariant.2 gs root m) (m (s.g.free - c.loop-i.i) (omega arith)) c.mark_of-r.ensures)

returns : tie.Need-returns invariant-loop decreases-loop
returns c = λ root m.
    let s = c.args in
    let e : c.loop-i.i ≡ s.g.free = omega arith in
    c.loop-i.invariant.2 (pairs_of s.work.now s.g) root (λ k h. m k (omega arith)) ∙ ap (rank (support s.g.free (pairs_of s.work.now s.g) root)) e

pub support_size_spec : {M : Type 1} → statement M
support_size_spec =
    tie.close
    (tie.spec invariant-loop decreases-loop loop-holds sub-mark-of mark-of-requires add_r add-i loop-less loop-again returns)
