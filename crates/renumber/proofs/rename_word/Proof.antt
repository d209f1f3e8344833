-- `renumber::rename_word` meets its contract. Assumes nothing.
use mathlib.Core.Path.{◌≡◌, ap, ◌∙◌}
use native.Mathlib.Omega.{arith}
use Rattle.literals.specs.declared.Lit.{Lit}
use Rattle.renumber.specs.Names.{under}
use Rattle.renumber.proofs.Renamed.{named-word}
use borrow.Author.Rules.{rules}
use Rattle.renumber.proofs.rename_word.Statement.{statement}
use Rattle.renumber.proofs.rename_word.Tie as tie

told : (c : tie.After-word) → (c.word.result ≡ under c.args.names.now c.args.w)
told c =
    c.word.ensures ∙ named-word c.args.names.now c.args.w c.from_word.ensures c.rename.ensures.0

rename-requires : tie.Need-rename-requires
rename-requires c κs = rw (ap (λ (l : Lit). l.0.0) c.from_word.ensures) c.requires

cast-result : tie.Need-overflow_cast-result
cast-result c = omega (arith, c.word.ensures, c.rename.ensures.1)

returns : tie.Need-returns
returns c = (told c, omega (arith, c.word.ensures, c.rename.ensures.1))

pub rename_word_spec : {M : Type 1} → statement M
rename_word_spec =
    tie.close
    (tie.spec (λ c κs. search rules) rename-requires (λ c κs. search rules) cast-result returns)
