-- `replay::judge_completions` meets its contract. Assumes nothing.
use mathlib.Core.Path.{sym, ap, ◌∙◌}
use native.Mathlib.Omega.{arith}
use borrow.Author.Rules.{rules}
use Rattle.aiger.specs.Load.{gives}
use Rattle.completions.specs.Either.{shows}
use Rattle.layout.specs.Words.{circuit_in}
use Rattle.frames.proofs.Facts.{ready_with}
use Rattle.replay.proofs.Answers.{verdict-all, verdict-no, verdict-mixed, none_is}
use Rattle.replay.proofs.judge_completions.Statement.{statement}
use Rattle.replay.proofs.judge_completions.Tie as tie

-- the entry, from the first test
abbrev start : tie.After-every_completion → tie.Start
start k = k.before.before.before.before.before.before.before.before

returns : tie.Need-returns-then-every_completion
returns c =
    let a = (start c.before.before.before.before.before).args in
    ap gives (verdict-all (shows (circuit_in a.m.now) a.w.q.bad) a.body.now
    (sym c.if-every_completion.true ∙ c.every_completion.ensures))

every-completion-requires-2 : tie.Need-every_completion-requires-2
every-completion-requires-2 c κs =
    let S = start c.before.before.before.before.before.before.before in
    let P = S.requires.0 in (
      record {
        ready = ready_with P.ready (omega (arith, c.every_completion.auto.values, P.ready.room));
        bad = P.bad;
        fits = P.fits;
      },
      omega (arith, c.every_completion.auto.state, S.requires.1),
    )

returns-2 : tie.Need-returns-then-every_completion-2
returns-2 c =
    let a = (start c.before.before.before.before.before.before.before.before.before.before.before.before.before).args in
    let p = shows (circuit_in a.m.now) a.w.q.bad in
    ap gives
    (verdict-no p a.body.now (sym c.if-every_completion.false ∙ c.every_completion.ensures)
    (sym c.if-every_completion-2.true ∙ c.every_completion-2.ensures ∙ sym (none_is p a.body.now)))

returns-3 : tie.Need-returns
returns-3 c =
    let a = (start c.before.before.before.before.before.before.before.before.before.before.before.before.before).args in
    let p = shows (circuit_in a.m.now) a.w.q.bad in
    ap gives
    (verdict-mixed p a.body.now (sym c.if-every_completion.false ∙ c.every_completion.ensures)
    (sym c.if-every_completion-2.false ∙ c.every_completion-2.ensures ∙ sym (none_is p a.body.now)))

pub judge_completions_spec : {M : Type 1} → statement M
judge_completions_spec =
    tie.close
    (tie.spec (λ c κs. search rules) (λ c. search rules) (λ c. search rules) returns every-completion-requires-2 (λ c. search rules) (λ c. search rules) returns-2 (λ c. search rules) (λ c. search rules) returns-3)
