-- Each turn signs a free bit. Assumes nothing.
use mathlib.Core.Path.{◌≡◌, subst}
use Prim.Native.Nat.{ℕ, ◌+◌}
use native.Mathlib.Omega.{arith}
use Rattle.signatures.proofs.Stores.{SignedUpto, signed-none, signed-more, constant-word, free-word, signed_all}
use Rattle.signatures.proofs.start_signatures.Goals as goal

pub loop-j-init : goal.loop-j-init
loop-j-init c =
    let g = c.args.g in
    let m = c.args.work.now in
    signed-more m c.clear_heads.new.work c.link.new.work g.free g.room 0 0 (omega arith)
    (signed-none m c.clear_heads.new.work g.free g.room c.clear_heads.ensures.0 c.clear_heads.ensures.1) c.link.ensures (constant-word g.free)

pub loop-j-preserved : goal.loop-j-preserved
loop-j-preserved c =
    let g = c.args.g in
    signed-more c.args.work.now c.loop-j.work c.link-in-loop-j.new.work g.free g.room (c.loop-j.j + 1) c.pattern_word-w.result (omega arith) c.loop-j.invariant c.link-in-loop-j.ensures
    (free-word g.free c.loop-j.j c.pattern_word-w.result (omega arith) c.pattern_word-w.ensures)

pub returns : goal.returns
returns c =
    let g = c.args.g in
    let m = c.args.work.now in
    let e : c.loop-j.j + 1 ≡ g.nodes = omega arith in
    signed_all m c.loop-j.work g (subst (λ (i : ℕ). SignedUpto m c.loop-j.work g.free g.room i) e c.loop-j.invariant)
