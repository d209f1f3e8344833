-- `staged::by_layers` meets its contract. Assumes nothing.
use mathlib.Core.Path.{◌≡◌, sym, subst}
use native.Mathlib.Omega.{arith}
use borrow.Author.Rules.{rules}
use Rattle.layout.specs.Words.{circuit_in}
use Rattle.stages.specs.Endings.{Staged}
use Rattle.staged.specs.Answers.{Shows}
use Rattle.staged.proofs.Turns.{layers-hit, layers-clear, layers-never, layers-left}
use Rattle.staged.proofs.by_layers.Statement.{statement}
use Rattle.staged.proofs.by_layers.Tie as tie

search-layers-requires : tie.Need-search_layers-requires
search-layers-requires c κs =
    let p = c.requires.0 in (
      p.ready,
      record {
        bad = p.bad;
        bound = p.bound;
        known = c.requires.1.0;
        moderate = record { base-small = omega (arith, c.requires.1.1); unit-small = omega arith };
        words = p.words;
        units = p.units;
      },
    )

returns : tie.Need-returns-in-Hit
returns c =
    let s = c.args in
    layers-hit (circuit_in s.m.now) s.q.b s.q.k s.limit s.first s.q.d c.requires.0.bound c.search_layers.new.work
    c.search_layers.result c.search_layers.ensures c.in-Hit.is

returns-2 : tie.Need-returns-in-Clear
returns-2 c =
    let s = c.args in
    layers-clear (circuit_in s.m.now) s.q.b s.q.k s.limit s.first s.q.d c.requires.0.bound c.search_layers.new.work
    c.search_layers.result c.search_layers.ensures c.in-Clear.is

returns-3 : tie.Need-returns-in-Never
returns-3 c =
    let s = c.args in
    layers-never (circuit_in s.m.now) s.q.b s.q.k s.limit s.first s.q.d c.requires.0.bound c.search_layers.new.work
    c.search_layers.result c.search_layers.ensures c.requires.1.0 c.in-Never.is

returns-4 : tie.Need-returns-in-GaveUp
returns-4 c =
    let s = c.args in
    let C = circuit_in s.m.now in
    let work = c.search_layers.new.work in
    subst (λ (z : Staged). Shows C s.q.k z work c.give_up.result)
    (sym (layers-left C s.q.b s.q.k s.limit s.first s.q.d c.requires.0.bound work c.search_layers.result c.search_layers.ensures
    c.in-GaveUp.is)) (c.give_up.ensures C work)

pub by_layers_spec : {M : Type 1} → statement M
by_layers_spec =
    tie.close
    (tie.spec search-layers-requires (λ c. search rules) (λ c. search rules) (λ c. search rules) (λ c. search rules) (λ c κs. search rules) (λ c. search rules) returns (λ c. search rules) returns-2 (λ c. search rules) returns-3 (λ c. search rules) returns-4)
