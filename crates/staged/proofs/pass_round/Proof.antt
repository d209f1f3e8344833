-- `staged::pass_round` meets its contract. Assumes nothing.
use mathlib.Core.Path.{◌≡◌}
use mathlib.Core.List.{[], ◌++◌}
use native.Mathlib.Omega.{arith}
use borrow.Author.Rules.{rules}
use Rattle.layout.specs.Words.{circuit_in}
use Rattle.stages.specs.Choice.{listed}
use Rattle.staged.specs.Schedule.{round_of}
use Rattle.staged.proofs.Turns.{first-stage, later-stages}
use Rattle.staged.proofs.pass_round.Statement.{statement}
use Rattle.staged.proofs.pass_round.Tie as tie

limit-in-requires : tie.Need-limit_in-limit-requires
limit-in-requires c κs = (omega arith, c.requires.1.1)

by-layers-requires : tie.Need-by_layers-requires
by-layers-requires c κs = let p = c.requires in (p.0, (p.1.0, c.limit_in-limit.ensures.1))

pass-later-requires : tie.Need-pass_later-requires
pass-later-requires c κs =
    let a = c.args in
    let p = c.requires in
    let z = first-stage (circuit_in a.m.now) a.q.b a.q.k a.q.d c.by_layers.new.work a.first a.r (omega (arith, p.1.0, p.0.bound))
    p.1.2 c.limit_in-limit.ensures.0 c.in-GaveUp.is c.by_layers.ensures [] tt in (
      record {
        ready = p.0.ready;
        bad = p.0.bad;
        bound = p.0.bound;
        some = p.0.some;
        most = p.0.most;
        units = p.0.units;
        words = omega (arith, p.0.words, c.by_layers.auto.work);
      },
      (z.0, p.1.1, z.1),
    )

returns : tie.Need-returns-in-Hit
returns c =
    let a = c.args in
    let p = c.requires in
    first-stage (circuit_in a.m.now) a.q.b a.q.k a.q.d c.by_layers.new.work a.first a.r (omega (arith, p.1.0, p.0.bound))
    p.1.2 c.limit_in-limit.ensures.0 c.in-Hit.is c.by_layers.ensures

returns-2 : tie.Need-returns-in-Nothing
returns-2 c =
    let a = c.args in
    let p = c.requires in
    first-stage (circuit_in a.m.now) a.q.b a.q.k a.q.d c.by_layers.new.work a.first a.r (omega (arith, p.1.0, p.0.bound))
    p.1.2 c.limit_in-limit.ensures.0 c.in-Nothing.is c.by_layers.ensures

returns-3 : tie.Need-returns-in-Never
returns-3 c =
    let a = c.args in
    let p = c.requires in
    first-stage (circuit_in a.m.now) a.q.b a.q.k a.q.d c.by_layers.new.work a.first a.r (omega (arith, p.1.0, p.0.bound))
    p.1.2 c.limit_in-limit.ensures.0 c.in-Never.is c.by_layers.ensures

returns-4 : tie.Need-returns-in-GaveUp
returns-4 c =
    let a = c.args in
    let p = c.requires in
    let C = circuit_in a.m.now in
    λ ss sound.
    later-stages C a.q.b a.q.k a.q.d c.pass_later.new.work a.r _ ss sound (listed (round_of C a.q.b a.r ++ ss) a.first a.q.d)
    (first-stage (circuit_in a.m.now) a.q.b a.q.k a.q.d c.by_layers.new.work a.first a.r (omega (arith, p.1.0, p.0.bound))
    p.1.2 c.limit_in-limit.ensures.0 c.in-GaveUp.is c.by_layers.ensures ss sound) c.pass_later.result c.pass_later.ensures

returns-5 : tie.Need-returns-in-CutOff
returns-5 c =
    let a = c.args in
    let p = c.requires in
    first-stage (circuit_in a.m.now) a.q.b a.q.k a.q.d c.by_layers.new.work a.first a.r (omega (arith, p.1.0, p.0.bound))
    p.1.2 c.limit_in-limit.ensures.0 c.in-CutOff.is c.by_layers.ensures

pub pass_round_spec : {M : Type 1} → statement M
pass_round_spec =
    tie.close
    (tie.spec limit-in-requires by-layers-requires (λ c. search rules) (λ c. search rules) (λ c. search rules) (λ c. search rules) pass-later-requires (λ c. search rules) (λ c. search rules) returns (λ c. search rules) returns-2 (λ c. search rules) returns-3 (λ c. search rules) returns-4 (λ c. search rules) returns-5)
