-- Each turn marks a variable. Assumes nothing.
use mathlib.Core.Path.{◌≡◌, ap, ◌∙◌}
use Prim.Native.Nat.{ℕ, ◌+◌}
use native.Mathlib.Omega.{arith}
use lib.ListN.{length}
use Rattle.layout.specs.Words.{word}
use Rattle.influence.specs.Cone.{mark_below}
use Rattle.influence.proofs.Marks.{mark-none, mark-more, var-mark, var-below}
use Rattle.influence.proofs.mark_words.Goals as goal

pub loop-i-init : goal.loop-i-init
loop-i-init c = mark-none (λ k. word c.args.m.now (c.args.at + k)) c.args.marks.now

pub overflow_add-at : goal.overflow_add-at
overflow_add-at c = omega (arith, (c.requires c.loop-i.i (omega arith)).0)

pub var_at-requires : goal.var_at-requires
var_at-requires c = (c.requires c.loop-i.i (omega arith)).0

pub mark-requires : goal.mark-requires
mark-requires c =
    let w = word c.args.m.now (c.args.at + c.loop-i.i) in
    var-below w (length c.loop-i.marks) c.var_at.ensures (omega (arith, (c.requires c.loop-i.i (omega arith)).1))

pub loop-i-preserved : goal.loop-i-preserved
loop-i-preserved c =
    let a = c.args in
    let w : ℕ → ℕ = λ i. word a.m.now (a.at + i) in
    var-mark c.loop-i.marks (w c.loop-i.i) c.var_at.ensures c.mark.ensures ∙ mark-more w c.loop-i.i a.marks.now c.loop-i.marks c.loop-i.invariant

pub returns : goal.returns
returns c =
    let a = c.args in
    let e : c.loop-i.i ≡ a.n = omega arith in
    c.loop-i.invariant ∙ ap (λ (k : ℕ). mark_below (λ j. word a.m.now (a.at + j)) k a.marks.now) e
