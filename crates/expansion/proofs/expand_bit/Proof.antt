-- `expansion::expand_bit` meets its contract. Assumes nothing.
use mathlib.Core.Path.{ap, ◌∙◌}
use native.Mathlib.Omega.{arith}
use borrow.Author.Tests.{lt-ltb, le-ltb}
use Rattle.expansion.specs.Rows.{byte_of}
use borrow.Author.Rules.{rules}
use Rattle.expansion.proofs.expand_bit.Statement.{statement}
use Rattle.expansion.proofs.expand_bit.Tie as tie
use Rattle.expansion.proofs.expand_bit.Reads as reads
use Rattle.expansion.proofs.expand_bit.Lts as lts
use Rattle.expansion.proofs.byte_of.Reads as byte-of-reads
use Rattle.expansion.proofs.is_one.Reads as is-one-reads

returns : tie.Need-returns-then-pin-lt2
returns c = let h = lt-ltb c.args.pin 2 (omega arith) in rw h c.byte_of.ensures

returns-2 : tie.Need-returns
returns-2 c = let h = le-ltb c.args.pin 2 (omega arith) in rw h (c.byte_of-2.ensures ∙ ap byte_of c.is_one.ensures)

pub expand_bit_spec : {M : Type 1} → statement M
expand_bit_spec =
    tie.close (tie.spec (λ c κs. search rules) returns (λ c κs. search rules) (λ c κs. search rules) returns-2)
