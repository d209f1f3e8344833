-- `ternary::first_frame` meets its contract. Assumes nothing.
use native.Mathlib.Omega.{arith}
use lib.ListN.{length}
use Rattle.frames.proofs.Facts.{latches-inside, latches-apart}
use Rattle.ternary.proofs.Frames.{first-is}
use borrow.Author.Rules.{rules}
use Rattle.ternary.proofs.first_frame.Statement.{statement}
use Rattle.ternary.proofs.first_frame.Tie as tie

put-line-requires : tie.Need-put_line-requires
put-line-requires c κs =
    let R = c.requires.0 in
    record {
      words = λ i h. omega (arith, latches-inside R);
      small = λ i h. omega (arith, (latches-apart R).below i h, c.requires.1, c.fill.auto.can);
      inside = omega (arith, c.requires.2);
    }

returns : tie.Need-returns
returns c =
    first-is c.requires.0 (length c.args.can.now) c.args.body.now c.fill.new.can c.put_line.new.can c.fill.ensures
    c.put_line.ensures c.put_frame.ensures

pub first_frame_spec : {M : Type 1} → statement M
first_frame_spec =
    tie.close
    (tie.spec (λ c κs. search rules) put-line-requires (λ c. search rules) (λ c κs. search rules) (λ c. search rules) returns)
