-- `watches::visit` meets its contract. Assumes nothing.
use Rattle.trail.proofs.Turns.{left_by}
use Rattle.watches.proofs.Turns.{walked_end}
use Rattle.watches.specs.Watch as W
use Rattle.memory.specs.Record.{undef}
use mathlib.Core.Path.{sym}
use borrow.Author.Rules.{rules}
use Rattle.watches.proofs.visit.Statement.{statement}
use Rattle.watches.proofs.visit.Tie as tie

returns : tie.Need-returns-then-arena-c
unfolding W.visited
returns c =
    let a = c.args in
    rw (← c.first-c.ensures)
    (left_by
    (sym (walked_end a.work.now a.net a.arena (W.at a.t c.first-c.result undef) a.f a.arena.count c.if-arena-c.true)))

returns-2 : tie.Need-returns
unfolding W.visited
returns-2 c = rw (← c.first-c.ensures) c.walk.ensures

pub visit_spec : {M : Type 1} → statement M
visit_spec =
    tie.close
    (tie.spec (λ c κs. search rules) (λ c. search rules) returns (λ c κs. search rules) (λ c. search rules) returns-2)
