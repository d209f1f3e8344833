-- `replay::judge_counted` meets its contract. Assumes nothing.
use mathlib.Core.Path.{sym, subst}
use Prim.Native.Nat.{ℕ}
use borrow.Author.Rules.{rules}
use Rattle.layout.specs.Words.{circuit_in}
use Rattle.blocks.specs.Runs.{Fits}
use Rattle.replay.proofs.judge_counted.Statement.{statement}
use Rattle.replay.proofs.judge_counted.Tie as tie

count-eithers-requires : tie.Need-count_eithers-eithers-requires
count-eithers-requires c κs = tt

judge-alone-requires : tie.Need-judge_alone-requires
judge-alone-requires c κs =
    let a = c.args in
    let P = c.requires in
    record {
      ready = P.ready;
      bad = P.bad;
      fits =
          subst (λ (n : ℕ). Fits (circuit_in a.m.now) a.w.q.bad a.w.q.frames n a.body.now)
          (sym c.count_eithers-eithers.ensures)
          P.fits;
    }

returns : tie.Need-returns
returns c = c.judge_alone.ensures

pub judge_counted_spec : {M : Type 1} → statement M
judge_counted_spec = tie.close (tie.spec count-eithers-requires judge-alone-requires returns)
