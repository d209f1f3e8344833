-- `panel_lines::verb_where` meets its contract. Assumes nothing.
use borrow.Author.Rules.{rules}
use Rattle.panel_lines.proofs.verb_where.Statement.{statement}
use Rattle.panel_lines.proofs.verb_where.Tie as tie

returns : tie.Need-returns-then-is_word
returns c = rw (← c.is_word.ensures, c.if-is_word.true)

returns-2 : tie.Need-returns
returns-2 c = rw (← c.is_word.ensures, c.if-is_word.false)

pub verb_where_spec : {M : Type 1} → statement M
verb_where_spec = tie.close (tie.spec (λ c κs. search rules) returns returns-2)
