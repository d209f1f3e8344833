-- `blocks::put_starts` meets its contract. Assumes nothing.
use mathlib.Core.Path.{◌≡◌, refl, ap, ◌∙◌}
use Prim.Native.Nat.{ℕ, ◌+◌, ◌*◌, ◌<◌}
use native.Mathlib.Omega.{arith}
use borrow.Author.Rules.{rules}
use lib.ListN.{take, length-set}
use Rattle.completions.specs.Either.{eithers}
use Rattle.frames.proofs.Facts.{latches-inside, latches-apart}
use Rattle.frames.proofs.Facts.{ready_with}
use Rattle.blocks.proofs.Runs.{started}
use Rattle.blocks.proofs.put_starts.Statement.{statement}
use Rattle.blocks.proofs.put_starts.Tie as tie

put-line-requires : tie.Need-put_line-requires
put-line-requires c κs =
    let R = c.requires.0 in
    record {
      words = λ i l. omega (arith, latches-inside R);
      apart = latches-apart (ready_with R (omega (arith, length-set c.args.values.now 0 0, R.room)));
      inside = omega (arith, c.requires.1);
      before = refl;
    }

same_length : tie.Need-shape_of-values
same_length c =
    c.put_line.auto.values ∙ length-set c.args.values.now 0 0

returns : tie.Need-returns
returns c =
    let R = c.requires.0 in
    let a = c.args in
    let e : 0 + a.layout.l + 1 ≡ a.layout.l + 1 = omega arith in (
      started R a.body.now a.block a.values.now c.put_line.new.values (omega (arith, R.room)) c.put_line.ensures.0,
      c.put_line.ensures.1 ∙ ap (λ (n : ℕ). eithers (take n a.body.now)) e,
    )

pub put_starts_spec : {M : Type 1} → statement M
put_starts_spec = tie.close (tie.spec (λ c. search rules) put-line-requires same_length returns)
