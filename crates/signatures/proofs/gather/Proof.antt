-- `signatures::gather` meets its contract. The invariant: the edges with signature s of the nodes from next on are listed. Assumes nothing.
use mathlib.Core.Path.{◌≡◌, refl, sym, ◌∙◌, subst}
use Prim.Native.Nat.{ℕ}
use native.Mathlib.Omega.{arith}
use borrow.Author.Rules.{rules}
use lib.ListN.{length}
use Rattle.nodes.specs.Store.{field}
use Rattle.nodes.specs.declared.Graph.{Graph}
use Rattle.signatures.specs.Store.{SignatureStore}
use Rattle.signatures.proofs.Twins.{candidate-small, Walked, walk_start, walk-less, walk_more, walk_end}
use Rattle.signatures.proofs.gather.Statement.{statement}
use Rattle.signatures.proofs.gather.Tie as tie

abbrev invariant-loop : tie.invariant-loop-next
invariant-loop work₀ s room h count₀ next₀ work count next =
    (length work ≡ length work₀)
    × ((g : Graph) → SignatureStore work₀ g → Walked work₀ work₀ g s count₀ next₀ → Walked work₀ work g s count next)

abbrev decreases-loop : tie.decreases-loop-next
decreases-loop work₀ s room h count₀ next₀ work count next = next

-- the invariant at the graph that is lent
module _ (c : tie.At-loop-next invariant-loop decreases-loop) where
  walked : (
      let a = c.args in
      Walked a.work.now c.loop-next.work a.g a.s c.loop-next.count c.loop-next.next)
  walked =
      let a = c.args in
      let m = a.work.now in
      c.loop-next.invariant.1 a.g c.requires.1
      (subst (λ (i : ℕ). Walked m m a.g a.s 0 (field m i 7)) (sym c.bucket-h.ensures.0)
      (walk_start a.s c.requires.1 (omega arith)))

bucket-requires : tie.Need-bucket-h-requires invariant-loop decreases-loop
bucket-requires c κs = omega arith

mul_next : tie.Need-overflow_mul-next invariant-loop decreases-loop
mul_next c = omega arith

add-next : tie.Need-overflow_add-next invariant-loop decreases-loop
add-next c = omega arith

mul-next-2 : tie.Need-offset_bounds-work-h invariant-loop decreases-loop
mul-next-2 c = omega arith

slice-read-next : tie.Need-bounds-work-h invariant-loop decreases-loop
slice-read-next c = omega arith

loop-holds : tie.Need-loop-next-init invariant-loop decreases-loop
loop-holds c = (refl, λ g y w. w)

sub-k : tie.Need-overflow_sub-k invariant-loop decreases-loop
sub-k c = omega arith

cast-i : tie.Need-overflow_cast-i invariant-loop decreases-loop
cast-i c = omega (arith, (walked c.before).room)

word-at-requires : tie.Need-word_at-requires invariant-loop decreases-loop
word-at-requires c κs =
    let w = walked c.before in
    omega (arith, w.room)

push-requires : tie.Need-push-count-requires invariant-loop decreases-loop
push-requires c κs =
    let w = walked c.before.before.before.before in
    (omega (arith, w.room), candidate-small _ c.candidate-e.ensures (omega (arith, w.room)))

mul-next-3 : tie.Need-overflow_mul-next-in-loop-next invariant-loop decreases-loop
mul-next-3 c = omega (arith, (walked c.before.before.before.before.before.before.before).room)

add-next-2 : tie.Need-overflow_add-next-in-loop-next invariant-loop decreases-loop
add-next-2 c = omega (arith, (walked c.before.before.before.before.before.before.before).room)

mul-next-4 : tie.Need-offset_bounds-work-i invariant-loop decreases-loop
mul-next-4 c = omega (arith, (walked c.before.before.before.before.before.before.before).room)

slice-read-next-2 : tie.Need-bounds-work-i invariant-loop decreases-loop
slice-read-next-2 c = omega (arith, (walked c.before.before.before.before.before.before.before.before).room)

loop-less : tie.Need-loop-next-smaller invariant-loop decreases-loop
loop-less c =
    let a = c.args in
    walk-less a.s c.requires.1 (walked c.before.before.before.before.before.before.before.before) (omega arith)
    c.word_at.ensures
    c.candidate-e.ensures c.push-count.ensures

loop-again : tie.Need-loop-next-preserved invariant-loop decreases-loop
loop-again c =
    let a = c.args in (
      c.push-count.auto.work ∙ c.loop-next.invariant.0,
      λ g y w.
          walk_more a.s y (c.loop-next.invariant.1 g y w) (omega arith)
          c.word_at.ensures
          c.candidate-e.ensures c.push-count.ensures,
    )

same_length : tie.Need-shape_of-work invariant-loop decreases-loop
same_length c = c.loop-next.invariant.0

returns : tie.Need-returns invariant-loop decreases-loop
returns c =
    let a = c.args in
    walk_end a.s c.requires.1 (walked c.before) (omega arith)
    (λ i. omega (arith, c.slice_known-1.given i)) c.ranges.s.fits

pub gather_spec : {M : Type 1} → statement M
gather_spec =
    tie.close
    (tie.spec invariant-loop decreases-loop bucket-requires mul_next add-next mul-next-2 slice-read-next loop-holds sub-k cast-i word-at-requires (λ c κs. search rules) push-requires mul-next-3 add-next-2 mul-next-4 slice-read-next-2 loop-less loop-again same_length returns)
