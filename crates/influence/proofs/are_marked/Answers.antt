-- Each turn looks at a literal. Assumes nothing.
use mathlib.Core.Path.{◌≡◌, refl, sym, ap, ◌∙◌}
use Prim.Native.Nat.{ℕ, ◌+◌}
use native.Mathlib.Omega.{arith}
use lib.ListN.{length}
use Rattle.aiger.specs.Lists.{every_below}
use Rattle.layout.specs.Words.{word}
use Rattle.influence.specs.Cone.{marked}
use Rattle.influence.proofs.Marks.{var-marked, var-below, below_more, below_fails}
use Rattle.influence.proofs.are_marked.Goals as goal

pub loop-i-init : goal.loop-i-init
loop-i-init c = refl

pub overflow_add-at : goal.overflow_add-at
overflow_add-at c = omega (arith, (c.requires c.loop-i.i (omega arith)).0)

pub var_at-requires : goal.var_at-requires
var_at-requires c = (c.requires c.loop-i.i (omega arith)).0

pub is_marked-requires : goal.is_marked-requires
is_marked-requires c =
    let i = c.loop-i.i in
    var-below (word c.args.m.now (c.args.at + i)) (length c.args.marks.now) c.var_at.ensures (c.requires i (omega arith)).1

pub returns-then-not-is_marked : goal.returns-then-not-is_marked
returns-then-not-is_marked c =
    let a = c.args in
    let i = c.loop-i.i in
    below_fails (λ j. marked a.marks.now (word a.m.now (a.at + j))) a.n i (omega arith)
    (sym (var-marked a.marks.now (word a.m.now (a.at + i)) c.var_at.ensures c.is_marked.ensures) ∙ c.if-not-is_marked.true)

pub loop-i-preserved : goal.loop-i-preserved
loop-i-preserved c =
    let a = c.args in
    let i = c.loop-i.i in
    below_more (λ j. marked a.marks.now (word a.m.now (a.at + j))) i c.loop-i.invariant
    (sym (var-marked a.marks.now (word a.m.now (a.at + i)) c.var_at.ensures c.is_marked.ensures) ∙ c.if-not-is_marked.false)

pub returns : goal.returns
returns c =
    let a = c.args in
    let e : c.loop-i.i ≡ a.n = omega arith in
    sym (ap (λ (z : ℕ). every_below z (λ k. marked a.marks.now (word a.m.now (a.at + k)))) (sym e) ∙ c.loop-i.invariant)
