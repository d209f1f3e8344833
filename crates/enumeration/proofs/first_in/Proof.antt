-- `enumeration::first_in` meets its contract. Assumes nothing.
use native.Mathlib.Omega.{arith}
use borrow.Author.Rules.{rules}
use Rattle.enumeration.proofs.first_in.Statement.{statement}
use Rattle.enumeration.proofs.first_in.Tie as tie

scan-span-requires : tie.Need-scan_span-requires
scan-span-requires c κs =
    (c.requires.0, ((c.requires.1.0.0, omega arith, c.requires.1.0.1, c.requires.1.0.2), c.requires.1.1))

pub first_in_spec : {M : Type 1} → statement M
first_in_spec =
    tie.close
    (tie.spec (λ c. search rules) (λ c. search rules) scan-span-requires (λ c. search rules))
