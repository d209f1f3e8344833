-- Each turn checks a block, until no candidate is left. Assumes nothing.
use mathlib.Core.Path.{refl, subst}
use mathlib.Core.Logic.{inl, inr}
use Prim.Native.Nat.{ℕ}
use native.Mathlib.Omega.{arith}
use Rattle.nodes.specs.Store.{pairs_of}
use Rattle.nodes.specs.Edges.{edge_word}
use Rattle.signatures.specs.Twin.{Sifted}
use Rattle.signatures.proofs.Candidates.{candidates-sifted}
use Rattle.signatures.proofs.Simulations.{simulable-kept, all_blocks, InBlocks, blocks-none, blocks-next, blocks-few, blocks_end}
use Rattle.signatures.proofs.check_blocks.Goals as goal

pub returns-then-g-le6 : goal.returns-then-g-le6
returns-then-g-le6 c =
    let a = c.args in
    blocks-few a.g.free (pairs_of a.work.now a.g) (edge_word a.a) (edge_word a.b) (omega arith)

pub loop-q-init : goal.loop-q-init
loop-q-init c =
    let a = c.args in
    blocks-none a.g.free (pairs_of a.work.now a.g) (edge_word a.a) (edge_word a.b)

pub returns-then-left-eq0 : goal.returns-then-left-eq0
returns-then-left-eq0 c =
    let a = c.args in
    let m = a.work.now in
    let h = all_blocks a.g.free (omega arith) (omega arith) in
    let u =
    subst (λ (n : ℕ). Sifted m c.loop-q.work (InBlocks a.g.free (pairs_of m a.g) (edge_word a.a) (edge_word a.b) c.loop-q.q) a.count n) c.if-left-eq0.true
    c.loop-q.invariant in
    blocks_end a.g.free (pairs_of m a.g) (edge_word a.a) (edge_word a.b) c.loop-q.q (omega arith) (omega arith) (inl refl) u

pub check_block-left-requires : goal.check_block-left-requires
check_block-left-requires c =
    let u = c.loop-q.invariant in
    record {
      simulable = (
        simulable-kept c.args.work.now c.loop-q.work c.args.g c.loop-q.auto.work u.kept c.requires.simulable.0,
        candidates-sifted u c.requires.simulable.1,
      );
      a_bound = (omega arith, omega arith);
    }

pub loop-q-preserved : goal.loop-q-preserved
loop-q-preserved c =
    let a = c.args in
    blocks-next a.g (edge_word a.a) (edge_word a.b) c.loop-q.q c.loop-q.invariant c.check_block-left.ensures

pub returns : goal.returns
returns c =
    let a = c.args in
    let m = a.work.now in
    let h = all_blocks a.g.free (omega arith) (omega arith) in
    blocks_end a.g.free (pairs_of m a.g) (edge_word a.a) (edge_word a.b) c.loop-q.q (omega arith) (omega arith) (inr (omega arith)) c.loop-q.invariant
