-- `collection::gather` meets its contract. Assumes nothing.
use mathlib.Core.Path.{◌≡◌, refl, sym, ap, ◌∙◌}
use Prim.Native.Nat.{ℕ, ◌+◌, ◌-◌, ◌*◌, ◌/◌, ◌≤◌, ◌<◌}
use native.Mathlib.Omega.{arith}
use borrow.Author.Rules.{rules}
use lib.ListN.{length}
use Rattle.diagrams.specs.States.{State, state_of}
use Rattle.diagrams.proofs.View.{count-is, room-is}
use Rattle.diagrams.proofs.Stores.{room_small}
use Rattle.collection.specs.Collecting.{marked_in, packed_in}
use Rattle.collection.proofs.Turns.{inside-by, inside-same, length_marked, length-packed, packed-count, trimmed-inside, gathered-by}
use Rattle.collection.proofs.gather.Statement.{statement}
use Rattle.collection.proofs.gather.Tie as tie

mark-requires : tie.Need-mark-requires
mark-requires c κs = c.requires

sub-pack : tie.Need-overflow_sub-n
sub-pack c = omega (
  arith,
  c.get-n.ensures,
  count-is
      c.args.w.now,
  c.requires.1,
)

pack-requires : tie.Need-pack-k-requires
pack-requires c κs =
    let w = c.args.w.now in
    let s = state_of w in
    let roots = c.args.roots.now in (
      inside-by s (state_of c.mark.new.w) (marked_in roots s.nodes)
          c.mark.ensures (length_marked roots s.nodes)
          c.requires.0,
      omega (
        arith,
        c.get-n.ensures,
        count-is w,
        room-is w,
        room_small
            (length w),
        c.requires.0,
      ),
    )

trim-requires : tie.Need-trim-requires
trim-requires c κs =
    let w = c.args.w.now in
    let s = state_of w in
    let roots = c.args.roots.now in
    let n = c.get-n.result in
    let a = state_of c.mark.new.w in
    let b = state_of c.pack-k.new.w in
    let la : length a.nodes ≡ length s.nodes = ap (λ (t : State). length t.nodes)
    c.mark.ensures
    ∙ length_marked roots s.nodes in
    let lb : length b.nodes ≡ length a.nodes = ap (λ (t : State). length t.nodes)
    c.pack-k.ensures.0 ∙ length-packed (n - 1) a.nodes in
    let q = packed-count (n - 1) a.nodes in
    let i = inside-by a b (packed_in (n - 1) a.nodes).nodes
    c.pack-k.ensures.0 (length-packed (n - 1) a.nodes)
    (inside-by s a (marked_in roots s.nodes)
    c.mark.ensures
    (length_marked roots s.nodes)
    c.requires.0) in (
      omega (
        arith,
        la,
        lb,
        q.0,
        c.pack-k.ensures.1,
        c.get-n.ensures,
        count-is w,
        c.requires.1,
      ),
      i,
      omega
          (arith, q.1, c.pack-k.ensures.1),
    )

sub-rehash : tie.Need-overflow_sub-k
sub-rehash c =
    let q = packed-count
    (c.get-n.result - 1) (state_of
    c.mark.new.w).nodes in
    omega (arith, q.1, c.pack-k.ensures.1)

rehash-requires : tie.Need-rehash-requires
rehash-requires c κs =
    let w = c.args.w.now in
    let s = state_of w in
    let roots = c.args.roots.now in
    let n = c.get-n.result in
    let a = state_of
    c.mark.new.w in
    let b = state_of c.pack-k.new.w in
    let q = packed-count (n - 1) a.nodes in
    let i = inside-by a b (packed_in (n - 1) a.nodes).nodes
    c.pack-k.ensures.0
    (length-packed (n - 1) a.nodes)
    (inside-by s a (marked_in roots s.nodes)
    c.mark.ensures (length_marked roots s.nodes)
    c.requires.0) in (
      trimmed-inside b (state_of c.trim.new.w)
          c.pack-k.result
          c.trim.ensures i,
      omega (
        arith,
        q.0,
        c.pack-k.ensures.1,
        c.get-n.ensures,
        count-is w,
        room-is w,
        room_small
            (length w),
        c.requires.0,
        c.requires.1,
      ),
    )

returns : tie.Need-returns-then-pay
returns c =
    let w = c.args.w.now in
    gathered-by (state_of w) (state_of
    c.mark.new.w)
    (state_of c.pack-k.new.w) (state_of
    c.trim.new.w)
    (state_of c.rehash.new.w)
    (state_of c.pay.new.w)
    c.args.roots.now c.rename.new.roots
    c.get-n.result
    c.pack-k.result _
    (c.get-n.ensures ∙ sym (count-is w))
    c.mark.ensures
    c.pack-k.ensures.0
    c.pack-k.ensures.1
    c.rename.ensures c.trim.ensures
    c.rehash.ensures c.pay.ensures.0
    (sym c.if-pay.true ∙ c.pay.ensures.1)

returns-2 : tie.Need-returns
returns-2 c =
    let w = c.args.w.now in
    gathered-by (state_of w) (state_of
    c.mark.new.w)
    (state_of c.pack-k.new.w) (state_of
    c.trim.new.w)
    (state_of c.rehash.new.w)
    (state_of c.pay.new.w)
    c.args.roots.now c.rename.new.roots
    c.get-n.result
    c.pack-k.result _
    (c.get-n.ensures ∙ sym (count-is w))
    c.mark.ensures
    c.pack-k.ensures.0
    c.pack-k.ensures.1
    c.rename.ensures c.trim.ensures
    c.rehash.ensures c.pay.ensures.0
    (sym c.if-pay.false ∙ c.pay.ensures.1)

pub gather_spec : {M : Type 1} → statement M
gather_spec =
    tie.close
    (tie.spec (λ c κs. search rules) mark-requires sub-pack pack-requires (λ c κs. search rules) trim-requires sub-rehash rehash-requires (λ c κs. search rules) (λ c. search rules) (λ c. search rules) returns (λ c. search rules) (λ c. search rules) returns-2)
