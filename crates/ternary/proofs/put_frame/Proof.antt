-- `ternary::put_frame` meets its contract. Assumes nothing.
use mathlib.Core.Path.{◌≡◌, ap, ◌∙◌}
use mathlib.Core.List.{List}
use Prim.Native.Nat.{ℕ, ◌+◌, ◌*◌}
use native.Mathlib.Omega.{arith}
use lib.ListN.{length, length-set}
use Rattle.layout.specs.Words.{word}
use Rattle.frames.proofs.Places.{inputs-inside, input-small}
use Rattle.ternary.proofs.Frames.{frame_is}
use borrow.Author.Rules.{rules}
use Rattle.ternary.proofs.put_frame.Statement.{statement}
use Rattle.ternary.proofs.put_frame.Tie as tie

put-line-requires : tie.Need-put_line-requires
put-line-requires c κs =
    let R = c.requires.0 in
    let m : List ℕ = c.args.m.now in
    record {
      words = λ i h. omega (arith, inputs-inside R.held R.layout_of);
      small = λ i h.
          let e : word m (7 + 1 * i) ≡ word m (7 + i) = ap (word m) (omega arith) in
          omega (arith, e, input-small R.held R.layout_of i h, R.room, c.requires.1, length-set c.args.can.now 0 0);
      inside = c.requires.2;
    }

cover-gates-requires : tie.Need-cover_gates-requires
cover-gates-requires c κs =
    (c.requires.0, omega (arith, c.put_line.auto.can, length-set c.args.can.now 0 0, c.requires.1))

same_length : tie.Need-shape_of-can
same_length c =
    c.cover_gates.auto.can ∙ c.put_line.auto.can ∙ length-set c.args.can.now 0 0

returns : tie.Need-returns
returns c =
    frame_is c.requires.0 c.args.body.now c.args.at c.args.can.now c.put_line.new.can c.put_line.ensures
    c.cover_gates.ensures

pub put_frame_spec : {M : Type 1} → statement M
put_frame_spec =
    tie.close
    (tie.spec (λ c. search rules) put-line-requires cover-gates-requires same_length returns)
