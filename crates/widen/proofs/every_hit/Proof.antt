-- `widen::every_hit` meets its contract. Assumes nothing.
use mathlib.Core.Path.{◌≡◌, sym}
use native.Mathlib.Omega.{arith}
use Rattle.completions.specs.Either.{all_pass, shows}
use Rattle.layout.specs.Words.{circuit_in}
use Rattle.aiger.proofs.Tests.{true-T}
use Rattle.frames.proofs.Facts.{counts, top-is, ready_with}
use borrow.Author.Rules.{rules}
use Rattle.widen.proofs.every_hit.Statement.{statement}
use Rattle.widen.proofs.every_hit.Tie as tie

every-completion-requires : tie.Need-every_completion-requires
every-completion-requires c κs =
    let P = c.requires.0 in
    (ready_with P.ready (omega (arith, (counts P.ready.held).max_var, top-is c.args.m.now)), P.bad, P.fits)

returns : tie.Need-returns-then-every_completion
returns c =
    let a = c.args in
    sym (true-T (all_pass (shows (circuit_in a.m.now) a.w.q.bad) a.body.now)
    (c.every_completion.ensures.1 c.if-every_completion.true))

pub every_hit_spec : {M : Type 1} → statement M
every_hit_spec =
    tie.close
    (tie.spec every-completion-requires returns (λ c κs. search rules) (λ c. search rules) (λ c. search rules) (λ c. search rules))
