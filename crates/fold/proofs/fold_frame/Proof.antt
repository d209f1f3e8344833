-- `fold::fold_frame` meets its contract: the frame is unrolled, its cone marked, numbered and written. Assumes nothing.
use mathlib.Core.Path.{◌≡◌, ◌∙◌, subst}
use Prim.Native.Nat.{◌+◌, ◌*◌, ◌≤◌}
use lib.ListN.{length}
use Rattle.aiger.specs.Circuit.{Circuit}
use Rattle.aiger.specs.Write.{write}
use native.Mathlib.Omega.{arith}
use Rattle.aiger.specs.Frames.{size}
use Rattle.layout.specs.Words.{circuit_in}
use Rattle.nodes.specs.Edges.{edge_word}
use Rattle.limits.proofs.Sizes.{counts_of, limited, size_is}
use Rattle.fold.specs.Text.{Writable}
use Rattle.fold.proofs.Lines.{text-short}
use Rattle.fold.proofs.Folding.{shown-as, markable, writable, is-chosen, permitted}
use borrow.Author.Rules.{rules}
use Rattle.fold.proofs.fold_frame.Statement.{statement}
use Rattle.fold.proofs.fold_frame.Tie as tie

-- the room is the size
room-is : (c : tie.After-size-room) → c.size-room.result ≡ size (circuit_in c.args.m.now) c.args.t
room-is c =
    c.size-room.ensures ∙ size_is (counts_of c.requires.ready.held c.requires.ready.layout_of) c.args.t

-- where the cone is numbered, its circuit can be written
writes : (c : tie.After-assign-kept)
    → Writable c.assign-kept.new.work c.unroll-made.result.graph (edge_word c.unroll-made.result.edge) c.assign-kept.result
writes c =
    writable c.unroll-made.ensures c.mark.ensures c.assign-kept.ensures (omega (arith, c.assign-kept.auto.work, c.mark.auto.work))

size-requires : tie.Need-size-room-requires
size-requires c κs =
    let h = c.requires.ready.held in
    let a = c.requires.ready.layout_of in
    (limited h a, c.requires.last)

unroll-requires : tie.Need-unroll-made-requires
unroll-requires c κs =
    let e = room-is c.before in
    record {
      ready = c.requires.ready;
      bad = c.requires.bad;
      last = c.requires.last;
      room-is = e;
      most = omega (arith, e, c.requires.small);
      held = omega (arith, e, c.requires.words);
    }

mark-requires : tie.Need-mark-requires
mark-requires c κs = markable c.unroll-made.ensures

write-folded-requires : tie.Need-write_folded-requires
write-folded-requires c κs =
    let w = writes c.before.before.before in
    (w, omega (arith, text-short w, w.sized.nodes, c.unroll-made.ensures.room-is, room-is c.before.before.before.before.before.before.before.before.before.before.before.before.before.before.before, c.requires.output))

returns : tie.Need-returns
returns c =
    let w = writes c.before.before.before.before.before.before in
    let e = is-chosen c.unroll-made.ensures c.mark.ensures c.assign-kept.ensures in
    record {
      permitted = permitted c.unroll-made.ensures c.mark.ensures c.assign-kept.ensures;
      short =
          subst (λ (d : Circuit). length (write d) ≤ 24 * size (circuit_in c.args.m.now) c.args.t + 64) e
          (omega (arith, text-short w, w.sized.nodes, c.unroll-made.ensures.room-is, room-is c.before.before.before.before.before.before.before.before.before.before.before.before.before.before.before.before.before.before));
      shown = shown-as e c.write_folded.ensures;
    }

pub fold_frame_spec : {M : Type 1} → statement M
fold_frame_spec =
    tie.close
    (tie.spec size-requires unroll-requires mark-requires (λ c κs. search rules) write-folded-requires (λ c. search rules) (λ c. search rules) returns)
