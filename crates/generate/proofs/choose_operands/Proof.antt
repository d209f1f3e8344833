-- `generate::choose_operands` meets its contract. Assumes nothing.
use borrow.Author.Rules.{rules}
use Rattle.generate.proofs.Lines.{both-drawn}
use Rattle.generate.proofs.choose_operands.Statement.{statement}
use Rattle.generate.proofs.choose_operands.Tie as tie

returns : tie.Need-returns
returns c =
    both-drawn c.args.before c.choose-one.result c.choose-two.result c.args.own c.choose-one.ensures c.choose-two.ensures

pub choose_operands_spec : {M : Type 1} → statement M
choose_operands_spec =
    tie.close
    (tie.spec (λ c κs. search rules) (λ c κs. search rules) returns)
