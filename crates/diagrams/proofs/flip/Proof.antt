-- `diagrams::flip` meets its contract. Assumes nothing.
use borrow.Author.Rules.{rules}
use Rattle.diagrams.proofs.Flips.{xor-flip}
use Rattle.diagrams.proofs.flip.Statement.{statement}
use Rattle.diagrams.proofs.flip.Tie as tie

returns : tie.Need-returns
returns c = xor-flip c.args.e c.args.c

pub flip_spec : {M : Type 1} → statement M
flip_spec =
    tie.close
    (tie.spec returns)
