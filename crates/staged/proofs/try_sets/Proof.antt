-- `staged::try_sets` meets its contract. Assumes nothing.
use native.Mathlib.Omega.{arith}
use borrow.Author.Rules.{rules}
use Rattle.layout.specs.Words.{circuit_in}
use Rattle.staged.proofs.Turns.{is-proper, sets-hit, sets-clear, sets-never, sets-gave-up}
use Rattle.staged.proofs.try_sets.Statement.{statement}
use Rattle.staged.proofs.try_sets.Tie as tie

search-sets-requires : tie.Need-search_sets-requires
search-sets-requires c κs =
    let p = c.requires in (
      p.0.ready,
      record { bad = p.0.bad; bound = p.0.bound; within = p.1.0; units = p.0.units; room = p.0.words; none = p.1.1 },
    )

returns : tie.Need-returns-in-Hit
returns c =
    let a = c.args in
    sets-hit (circuit_in a.m.now) a.q.b a.q.k a.share a.first (is-proper c.requires.0.ready) c.search_sets.new.work c.search_sets.result c.search_sets.ensures
    c.in-Hit.is

returns-2 : tie.Need-returns-in-Clear
returns-2 c =
    let a = c.args in
    sets-clear (circuit_in a.m.now) a.q.b a.q.k a.share a.first (is-proper c.requires.0.ready) c.search_sets.new.work c.search_sets.result c.search_sets.ensures
    c.in-Clear.is

returns-3 : tie.Need-returns-in-Never
returns-3 c =
    let a = c.args in
    sets-never (circuit_in a.m.now) a.q.b a.q.k a.share a.first (is-proper c.requires.0.ready) c.search_sets.new.work c.search_sets.result c.search_sets.ensures
    c.in-Never.is

returns-4 : tie.Need-returns-in-GaveUp
returns-4 c =
    let a = c.args in
    sets-gave-up (circuit_in a.m.now) a.q.b a.q.k a.share a.first (is-proper c.requires.0.ready) c.search_sets.new.work c.search_sets.result c.search_sets.ensures
    c.in-GaveUp.is

pub try_sets_spec : {M : Type 1} → statement M
try_sets_spec =
    tie.close
    (tie.spec search-sets-requires (λ c. search rules) (λ c. search rules) (λ c. search rules) (λ c. search rules) (λ c. search rules) returns (λ c. search rules) returns-2 (λ c. search rules) returns-3 (λ c. search rules) returns-4)
