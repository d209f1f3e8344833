-- `renumber::rename` meets its contract. Assumes nothing.
use mathlib.Core.Path.{refl}
use Rattle.renumber.proofs.Renamed.{named_small}
use borrow.Author.Rules.{rules}
use Rattle.renumber.proofs.rename.Statement.{statement}
use Rattle.renumber.proofs.rename.Tie as tie

returns : tie.Need-returns
returns c =
    (refl, named_small c.args.names.now c.args.l c.requires.1)

pub rename_spec : {M : Type 1} → statement M
rename_spec =
    tie.close
    (tie.spec (λ c. search rules) (λ c. search rules) (λ c. search rules) returns)
