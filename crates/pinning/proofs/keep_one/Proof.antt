-- `pinning::keep_one` meets its contract. Assumes nothing.
use mathlib.Core.Path.{ap}
use native.Mathlib.Omega.{arith}
use lib.ListN.{set}
use borrow.Author.Tests.{lt-ltb, le-ltb}
use borrow.Author.Rules.{rules}
use Rattle.pinning.proofs.keep_one.Statement.{statement}
use Rattle.pinning.proofs.keep_one.Tie as tie
use Rattle.pinning.proofs.keep_one.Reads as reads
use Rattle.pinning.proofs.keep_one.Lts as lts

returns : tie.Need-returns-then-pin-lt2
returns c = (rw (lt-ltb _ 2 c.if-pin-lt2.true), rw (lt-ltb _ 2 c.if-pin-lt2.true))

cast-words : tie.Need-overflow_cast-words
cast-words c = omega (arith, c.word.ensures, c.requires.1)

returns-2 : tie.Need-returns
returns-2 c =
    let a = c.args in
    let free = le-ltb a.pin 2 (omega arith) in (
      rw free (ap (set a.words.now a.at) c.word.ensures),
      rw free,
    )

pub keep_one_spec : {M : Type 1} → statement M
keep_one_spec =
    tie.close
    (tie.spec returns (λ c κs. search rules) cast-words (λ c. search rules) (λ c. search rules) (λ c. search rules) (λ c. search rules) returns-2)
