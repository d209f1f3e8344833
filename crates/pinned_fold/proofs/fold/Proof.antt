-- `pinned_fold::fold` meets its contract. Assumes nothing.
use mathlib.Core.Path.{◌≡◌, sym, ◌∙◌}
use native.Mathlib.Omega.{arith}
use borrow.Author.Rules.{rules}
use Rattle.pins.specs.Pins.{pins_of}
use Rattle.pinning.proofs.Free.{held-free, plain-folded}
use Rattle.pinned_fold.proofs.Answers.{folded-for}
use Rattle.pinned_fold.proofs.fold.Statement.{statement}
use Rattle.pinned_fold.proofs.fold.Tie as tie

none-held-requires : tie.Need-none_held-requires
none-held-requires c κs = omega arith

fold-requires : tie.Need-fold-requires
fold-requires c κs = tt

same_length : tie.Need-shape_of-work-then-none_held
same_length c = c.fold.auto.work

same-length-2 : tie.Need-shape_of-out-then-none_held
same-length-2 c = c.fold.auto.out

returns : tie.Need-returns-then-none_held
returns c =
    let a = c.args in
    let q = pins_of a.pins.now a.user in
    plain-folded q (held-free q (sym c.none_held.ensures ∙ c.if-none_held.true)) c.fold.ensures

fold-held-requires : tie.Need-fold_held-requires
fold-held-requires c κs = omega arith

same-length-3 : tie.Need-shape_of-work-then-user-eq0
same-length-3 c = c.fold_held.auto.work

same-length-4 : tie.Need-shape_of-out-then-user-eq0
same-length-4 c = c.fold_held.auto.out

returns-2 : tie.Need-returns-then-user-eq0
returns-2 c = folded-for c.args.pins.now c.if-user-eq0.true c.fold_held.ensures

fold-held-requires-2 : tie.Need-fold_held-requires-2
fold-held-requires-2 c κs = omega arith

same-length-5 : tie.Need-shape_of-work
same-length-5 c = c.fold_held-2.auto.work

same-length-6 : tie.Need-shape_of-out
same-length-6 c = c.fold_held-2.auto.out

returns-3 : tie.Need-returns
returns-3 c =
    let a = c.args in
    let u : a.user ≡ 1 = omega (arith, c.requires, c.if-user-eq0.false) in
    folded-for a.pins.now u c.fold_held-2.ensures

pub fold_spec : {M : Type 1} → statement M
fold_spec =
    tie.close
    (tie.spec none-held-requires fold-requires same_length same-length-2 returns fold-held-requires same-length-3 same-length-4 returns-2 fold-held-requires-2 same-length-5 same-length-6 returns-3)
