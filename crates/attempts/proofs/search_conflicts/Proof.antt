-- `attempts::search_conflicts` meets its contract. Assumes nothing.
use borrow.Author.Rules.{rules}
use Rattle.attempts.proofs.Graphs.{search-hit, search-clear, search-out}
use Rattle.attempts.proofs.search_conflicts.Statement.{statement}
use Rattle.attempts.proofs.search_conflicts.Tie as tie

first-hit-requires : tie.Need-first_hit-requires
first-hit-requires c κs = c.requires

returns : tie.Need-returns-in-Found
returns c =
    λ C b t u. search-hit u c.args.e c.first_hit.new.work c.first_hit.result c.first_hit.ensures c.in-Found.is

returns-2 : tie.Need-returns-in-Clear
returns-2 c =
    λ C b t u. search-clear u c.args.e c.first_hit.new.work c.first_hit.result c.first_hit.ensures c.in-Clear.used c.in-Clear.is

returns-3 : tie.Need-returns-in-Out
returns-3 c =
    λ C b t u. search-out u c.args.e c.first_hit.new.work c.first_hit.result c.first_hit.ensures c.in-Out.is

pub search_conflicts_spec : {M : Type 1} → statement M
search_conflicts_spec =
    tie.close
    (tie.spec first-hit-requires (λ c. search rules) (λ c. search rules) (λ c. search rules) (λ c. search rules) returns (λ c. search rules) returns-2 (λ c. search rules) returns-3)
