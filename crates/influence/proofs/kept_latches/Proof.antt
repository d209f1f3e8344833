-- `influence::kept_latches` meets its contract. Assumes nothing.
use mathlib.Core.Path.{◌≡◌, sym, ◌∙◌}
use Prim.Native.Nat.{ℕ, ◌<◌}
use native.Mathlib.Omega.{arith}
use borrow.Author.Rules.{rules}
use lib.ListN.{length}
use Rattle.frames.proofs.Facts.{ready_with}
use Rattle.influence.proofs.Rooms.{cone-marks, kept-are}
use Rattle.influence.proofs.kept_latches.Statement.{statement}
use Rattle.influence.proofs.kept_latches.Tie as tie

mark-cone-requires : tie.Need-mark_cone-requires
mark-cone-requires c κs = (ready_with c.requires.0 (omega (arith, c.requires.0.room)), c.requires.1.0)

is-settled-requires : tie.Need-is_settled-whole-requires
is-settled-requires c κs =
    (ready_with c.requires.0 (omega (arith, c.mark_cone.auto.marks, c.requires.0.room)), c.requires.1.0)

keep-requires : tie.Need-keep-requires
keep-requires c κs =
    (ready_with c.requires.0 (omega (arith, c.mark_cone.auto.marks, c.requires.0.room)), c.requires.1.1)

returns : tie.Need-returns
returns c =
    let ms = c.mark_cone.new.marks in
    let e = cone-marks c.requires.0 c.args.b c.requires.1.0 ms c.mark_cone.ensures in
    (c.keep.ensures.0, c.keep.ensures.1 ∙ kept-are c.requires.0 c.args.b c.requires.1.0 ms c.is_settled-whole.result e c.is_settled-whole.ensures, c.keep.ensures.2)

pub kept_latches_spec : {M : Type 1} → statement M
kept_latches_spec =
    tie.close
    (tie.spec (λ c. search rules) mark-cone-requires (λ c. search rules) is-settled-requires (λ c. search rules) keep-requires (λ c. search rules) returns)
