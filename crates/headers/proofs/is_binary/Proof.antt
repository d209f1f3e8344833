-- `headers::is_binary` meets its contract. Assumes nothing.
use mathlib.Core.Path.{◌∙◌}
use Rattle.headers.proofs.Heading.{named-binary}
use borrow.Author.Rules.{rules}
use Rattle.headers.proofs.is_binary.Statement.{statement}
use Rattle.headers.proofs.is_binary.Tie as tie

returns : tie.Need-returns
returns c = c.is_named.ensures ∙ named-binary c.args.s.now

pub is_binary_spec : {M : Type 1} → statement M
is_binary_spec = tie.close (tie.spec (λ c κs. search rules) returns)
