use Rattle.std.proofs.Common.{◌≡◌, ap, ◌∙◌, ℕ, ◌+◌, arith}
use Rattle.diagrams.specs.States.{state_of}
use Rattle.collection.specs.Collecting.{with_nodes, Packed, packed, packed_one, packed_in}
use Rattle.collection.proofs.Turns.{inside-by, length-packed, packed_more, packed_none, packed-count}
use Rattle.collection.proofs.pack.Goals as goal

pub loop-j-init : goal.loop-j-init
loop-j-init c =
    let s = state_of c.args.w.now in
    let e = packed_none s.nodes in
    (ap (λ (p : Packed). with_nodes s p.nodes) e, ap (λ (p : Packed). p.count) e)

pub pack_one-k-requires : goal.pack_one-k-requires
pack_one-k-requires c =
    let s = state_of c.args.w.now in (
      inside-by s (state_of c.loop-j.w) (packed_in c.loop-j.j s.nodes).nodes c.loop-j.invariant.0 (length-packed c.loop-j.j s.nodes)
          c.requires.0,
      omega (arith, c.loop-j.invariant.1, (packed-count c.loop-j.j s.nodes).0, c.loop-j-test.true, c.requires.1),
    )

pub loop-j-preserved : goal.loop-j-preserved
loop-j-preserved c =
    let s = state_of c.args.w.now in
    let q : packed (state_of c.loop-j.w).nodes c.loop-j.k ≡ packed_in c.loop-j.j s.nodes = λ i. packed (c.loop-j.invariant.0 i).nodes
    (c.loop-j.invariant.1 i) in
    let e : packed_one (packed (state_of c.loop-j.w).nodes c.loop-j.k) (c.loop-j.j + 1) ≡ packed_in (c.loop-j.j + 1) s.nodes = ap
    (λ (p : Packed). packed_one p (c.loop-j.j + 1)) q ∙ packed_more c.loop-j.j s.nodes in (
      c.pack_one-k.ensures.0 ∙ (λ i. with_nodes (c.loop-j.invariant.0 i) (e i).nodes),
      c.pack_one-k.ensures.1 ∙ ap (λ (p : Packed). p.count) e,
    )

pub returns : goal.returns
returns c =
    let s = state_of c.args.w.now in
    let e : c.loop-j.j ≡ c.args.last = omega (arith, c.loop-j.auto.j-end, c.loop-j-test.false) in (
      c.loop-j.invariant.0 ∙ ap (λ (i : ℕ). with_nodes s (packed_in i s.nodes).nodes) e,
      c.loop-j.invariant.1 ∙ ap (λ (i : ℕ). (packed_in i s.nodes).count) e,
    )
