-- `learning::keep_clause` meets its contract. Assumes nothing.
use Rattle.learning.proofs.Calls.{kept_by_lem}
use native.Mathlib.Omega.{arith}
use borrow.Author.Rules.{rules}
use Rattle.learning.proofs.keep_clause.Statement.{statement}
use Rattle.learning.proofs.keep_clause.Tie as tie

highest-requires : tie.Need-highest-h-requires
highest-requires c κs = c.requires

returns : tie.Need-returns
returns c =
    let s = c.args in
    rw (← kept_by_lem s.work.now s.net s.s s.d c.highest-h.ensures
    c.target-to.ensures
    c.keep-b.ensures.words
    c.keep-b.ensures.arena
    c.with_arena.ensures
    c.retreat-u.ensures.words
    c.retreat-u.ensures.search)
    c.install.ensures

pub keep_clause_spec : {M : Type 1} → statement M
keep_clause_spec =
    tie.close
    (tie.spec highest-requires (λ c κs. search rules) (λ c κs. search rules) (λ c κs. search rules) (λ c κs. search rules) (λ c κs. search rules) (λ c. search rules) returns)
