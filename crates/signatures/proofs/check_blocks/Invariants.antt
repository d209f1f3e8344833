-- The candidates that agree in the first q blocks are left. Assumes nothing.
use Rattle.nodes.specs.Store.{pairs_of}
use Rattle.nodes.specs.Edges.{edge_word}
use Rattle.signatures.specs.Twin.{Sifted}
use Rattle.signatures.proofs.Simulations.{InBlocks}
use Rattle.signatures.proofs.check_blocks.Given as goal

abbrev pub invariant-loop-q : goal.invariant-loop-q
invariant-loop-q l = Sifted l.fn.work l.work (InBlocks l.g.free (pairs_of l.fn.work l.g) (edge_word l.a) (edge_word l.b) l.q) l.count l.left
