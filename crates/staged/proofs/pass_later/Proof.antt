-- `staged::pass_later` meets its contract. Assumes nothing.
use mathlib.Core.Path.{◌≡◌}
use mathlib.Core.List.{◌++◌}
use native.Mathlib.Omega.{arith}
use borrow.Author.Rules.{rules}
use Rattle.layout.specs.Words.{circuit_in}
use Rattle.stages.specs.Choice.{listed}
use Rattle.staged.specs.Schedule.{later_of}
use Rattle.staged.proofs.Turns.{sets-stage, second-stage}
use Rattle.staged.proofs.pass_later.Statement.{statement}
use Rattle.staged.proofs.pass_later.Tie as tie

share-in-requires : tie.Need-share_in-share-requires
share-in-requires c κs = c.requires.1.1

by-sets-requires : tie.Need-by_sets-requires
by-sets-requires c κs = let p = c.requires in (p.0, (p.1.0, p.1.2))

limit-in-requires : tie.Need-limit_in-limit-requires
limit-in-requires c κs = (omega arith, c.requires.1.1)

by-attempts-requires : tie.Need-by_attempts-requires
by-attempts-requires c κs =
    let p = c.requires.0 in
    record {
      ready = p.ready;
      bad = p.bad;
      bound = p.bound;
      some = p.some;
      most = p.most;
      units = p.units;
      words = omega (arith, p.words, c.by_sets.auto.work);
    }

returns : tie.Need-returns-in-Hit
returns c =
    let a = c.args in
    let p = c.requires in
    sets-stage (circuit_in a.m.now) a.q.b a.q.k a.q.d c.by_sets.new.work a.first a.r (omega (arith, p.1.0, p.0.bound))
    p.1.2 c.share_in-share.ensures c.in-Hit.is c.by_sets.ensures

returns-2 : tie.Need-returns-in-Nothing
returns-2 c =
    let a = c.args in
    let p = c.requires in
    sets-stage (circuit_in a.m.now) a.q.b a.q.k a.q.d c.by_sets.new.work a.first a.r (omega (arith, p.1.0, p.0.bound))
    p.1.2 c.share_in-share.ensures c.in-Nothing.is c.by_sets.ensures

returns-3 : tie.Need-returns-in-Never
returns-3 c =
    let a = c.args in
    let p = c.requires in
    sets-stage (circuit_in a.m.now) a.q.b a.q.k a.q.d c.by_sets.new.work a.first a.r (omega (arith, p.1.0, p.0.bound))
    p.1.2 c.share_in-share.ensures c.in-Never.is c.by_sets.ensures

returns-4 : tie.Need-returns-in-GaveUp
returns-4 c =
    let a = c.args in
    let p = c.requires in
    let C = circuit_in a.m.now in
    λ ss sound.
    second-stage C a.q.b a.q.k a.q.d c.by_attempts.new.work a.r _ ss sound (listed (later_of C a.q.b a.r ++ ss) a.first a.q.d)
    p.0.bound
    (sets-stage (circuit_in a.m.now) a.q.b a.q.k a.q.d c.by_sets.new.work a.first a.r (omega (arith, p.1.0, p.0.bound))
    p.1.2 c.share_in-share.ensures c.in-GaveUp.is c.by_sets.ensures ss sound) c.limit_in-limit.ensures.0 c.by_attempts.result c.by_attempts.ensures

returns-5 : tie.Need-returns-in-CutOff
returns-5 c =
    let a = c.args in
    let p = c.requires in
    sets-stage (circuit_in a.m.now) a.q.b a.q.k a.q.d c.by_sets.new.work a.first a.r (omega (arith, p.1.0, p.0.bound))
    p.1.2 c.share_in-share.ensures c.in-CutOff.is c.by_sets.ensures

pub pass_later_spec : {M : Type 1} → statement M
pass_later_spec =
    tie.close
    (tie.spec share-in-requires by-sets-requires (λ c. search rules) (λ c. search rules) (λ c. search rules) (λ c. search rules) limit-in-requires by-attempts-requires (λ c. search rules) (λ c. search rules) returns (λ c. search rules) returns-2 (λ c. search rules) returns-3 (λ c. search rules) returns-4 (λ c. search rules) returns-5)
