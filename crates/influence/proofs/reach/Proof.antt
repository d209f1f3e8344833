-- `influence::reach` meets its contract. Assumes nothing.
use mathlib.Core.Path.{◌≡◌, sym, ap, ◌∙◌}
use mathlib.Core.Bool.{true}
use mathlib.Core.List.{List}
use Prim.Native.Nat.{ℕ, ◌+◌}
use native.Mathlib.Omega.{arith}
use lib.ListN.{length}
use Rattle.layout.specs.Words.{word}
use Rattle.influence.specs.Cone.{mark, gate_by}
use Rattle.influence.proofs.Marks.{var-marked, var-mark, var-below, reach-not, reach-all}
use Rattle.influence.proofs.Rooms.{not-true, not-false}
use borrow.Author.Rules.{rules}
use Rattle.influence.proofs.reach.Statement.{statement}
use Rattle.influence.proofs.reach.Tie as tie

var-at-requires : tie.Need-var_at-v-requires
var-at-requires c κs = omega (arith, c.requires.inside)

add-var-at : tie.Need-overflow_add-at
add-var-at c = omega (arith, c.requires.inside)

var-at-requires-2 : tie.Need-var_at-x-requires
var-at-requires-2 c κs = omega (arith, c.requires.inside)

add-var-at-2 : tie.Need-overflow_add-at-2
add-var-at-2 c = omega (arith, c.requires.inside, c.requires.short)

var-at-requires-3 : tie.Need-var_at-y-requires
var-at-requires-3 c κs = omega (arith, c.requires.inside, c.requires.short)

is-marked-requires : tie.Need-is_marked-requires
is-marked-requires c κs =
    var-below (word c.args.m.now c.args.at) (length c.args.marks.now) c.var_at-v.ensures c.requires.lit

returns : tie.Need-returns-then-not-is_marked
returns c =
    let a = c.args in
    let t = var-marked a.marks.now (word a.m.now a.at) c.var_at-v.ensures c.is_marked.ensures in
    reach-not (gate_by a.m.now a.at a.last) a.marks.now (sym t ∙ c.if-not-is_marked.true)

mark-requires : tie.Need-mark-requires
mark-requires c κs =
    var-below (word c.args.m.now (c.args.at + 1)) (length c.args.marks.now) c.var_at-x.ensures c.requires.left

mark-requires-2 : tie.Need-mark-requires-2
mark-requires-2 c κs =
    var-below (word c.args.m.now (c.args.at + c.args.last)) (length c.mark.new.marks) c.var_at-y.ensures
    (omega (arith, c.mark.auto.marks, c.requires.right))

same-length-2 : tie.Need-shape_of-marks
same-length-2 c = c.mark-2.auto.marks ∙ c.mark.auto.marks

returns-2 : tie.Need-returns
returns-2 c =
    let a = c.args in
    let x = word a.m.now (a.at + 1) in
    let y = word a.m.now (a.at + a.last) in
    let t = var-marked a.marks.now (word a.m.now a.at) c.var_at-v.ensures c.is_marked.ensures in
    let left = var-mark a.marks.now x c.var_at-x.ensures c.mark.ensures in
    let right = var-mark c.mark.new.marks y c.var_at-y.ensures c.mark-2.ensures in
    right ∙ ap (mark y) left
    ∙ reach-all (gate_by a.m.now a.at a.last) a.marks.now (sym t ∙ c.if-not-is_marked.false)

pub reach_spec : {M : Type 1} → statement M
reach_spec =
    tie.close
    (tie.spec var-at-requires add-var-at var-at-requires-2 add-var-at-2 var-at-requires-3 is-marked-requires (λ c. search rules) returns mark-requires mark-requires-2 same-length-2 returns-2)
