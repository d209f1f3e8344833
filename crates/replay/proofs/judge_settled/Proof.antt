-- `replay::judge_settled` meets its contract. Assumes nothing.
use mathlib.Core.Path.{sym, subst}
use Prim.Native.Nat.{ℕ, ◌≤◌}
use borrow.Author.Rules.{rules}
use lib.ListN.{length, length-replicate}
use Rattle.replay.proofs.Under.{body-short}
use Rattle.replay.proofs.judge_settled.Statement.{statement}
use Rattle.replay.proofs.judge_settled.Tie as tie

slice-aggregate-judge-copy : tie.Need-slice_bounds-judge_copy-end
slice-aggregate-judge-copy c = sym (length-replicate {A = ℕ} 66825 0)

judge-copy-requires : tie.Need-judge_copy-requires
judge-copy-requires c κs =
    let P = c.requires in (
      P,
      subst (λ (n : ℕ). length c.args.body.now ≤ n) (sym (length-replicate {A = ℕ} 66825 0)) (body-short P.ready P.fits),
    )

returns : tie.Need-returns
returns c = c.judge_copy.ensures

pub judge_settled_spec : {M : Type 1} → statement M
judge_settled_spec = tie.close (tie.spec slice-aggregate-judge-copy judge-copy-requires returns)
