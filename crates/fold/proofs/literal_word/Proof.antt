-- `fold::literal_word` meets its contract. Assumes nothing.
use mathlib.Core.Path.{◌≡◌, sym, subst}
use native.Mathlib.Omega.{arith}
use Rattle.nodes.specs.declared.Edge.{Edge}
use Rattle.fold.specs.Text.{literal_word, NodeFits}
use Rattle.fold.proofs.Lines.{literal-told, literal-small}
use borrow.Author.Rules.{rules}
use Rattle.fold.proofs.literal_word.Statement.{statement}
use Rattle.fold.proofs.literal_word.Tie as tie

told : (c : tie.After-word) → (c.word.result ≡ literal_word c.args.work.now c.args.w)
told c =
    literal-told c.args.work.now c.args.w c.from_word.ensures c.literal.ensures c.word.ensures

literal-requires : tie.Need-literal-requires
literal-requires c κs =
    subst (λ (e : Edge). NodeFits c.args.work.now e.0.0) (sym c.from_word.ensures) c.requires

cast-result : tie.Need-overflow_cast-result
cast-result c =
    omega (arith, told c, literal-small c.args.work.now c.args.w c.requires.small)

returns : tie.Need-returns
returns c = told c

pub literal_word_spec : {M : Type 1} → statement M
literal_word_spec =
    tie.close (tie.spec (λ c κs. search rules) literal-requires (λ c κs. search rules) cast-result returns)
