-- `influence::is_closed` meets its contract. Assumes nothing.
use mathlib.Core.Path.{◌≡◌, sym, ap, ◌∙◌}
use mathlib.Core.Bool.{true, false}
use Prim.Native.Nat.{ℕ, ◌+◌}
use native.Mathlib.Omega.{arith}
use lib.ListN.{length}
use Rattle.layout.specs.Words.{word}
use Rattle.influence.specs.Cone.{marked, gate_by}
use Rattle.influence.proofs.Marks.{var-marked, var-below, closed-not, closed-left, closed-right}
use Rattle.influence.proofs.Rooms.{not-true, not-false}
use borrow.Author.Rules.{rules}
use Rattle.influence.proofs.is_closed.Statement.{statement}
use Rattle.influence.proofs.is_closed.Tie as tie

var-at-requires : tie.Need-var_at-v-requires
var-at-requires c κs = omega (arith, c.requires.inside)

add-var-at : tie.Need-overflow_add-at
add-var-at c = omega (arith, c.requires.inside)

var-at-requires-2 : tie.Need-var_at-x-requires
var-at-requires-2 c κs = omega (arith, c.requires.inside)

add-var-at-2 : tie.Need-overflow_add-at-2
add-var-at-2 c = omega (arith, c.requires.inside, c.requires.short)

var-at-requires-3 : tie.Need-var_at-y-requires
var-at-requires-3 c κs = omega (arith, c.requires.inside, c.requires.short)

is-marked-requires : tie.Need-is_marked-requires
is-marked-requires c κs =
    var-below (word c.args.m.now c.args.at) (length c.args.marks.now) c.var_at-v.ensures c.requires.lit

is-marked-requires-2 : tie.Need-is_marked-requires-2
is-marked-requires-2 c κs =
    var-below (word c.args.m.now (c.args.at + 1)) (length c.args.marks.now) c.var_at-x.ensures c.requires.left

is-marked-requires-3 : tie.Need-is_marked-requires-3
is-marked-requires-3 c κs =
    var-below (word c.args.m.now (c.args.at + c.args.last)) (length c.args.marks.now) c.var_at-y.ensures
    c.requires.right

-- the marks of the gate and of its left operand
gate-mark : (c : tie.After-is_marked)
    → (let a = c.args in
    c.is_marked.result ≡ marked a.marks.now (word a.m.now a.at))
gate-mark c =
    let a = c.args in
    var-marked a.marks.now (word a.m.now a.at) c.var_at-v.ensures c.is_marked.ensures

left-mark : (c : tie.After-is_marked-2)
    → (let a = c.args in
    c.is_marked-2.result ≡ marked a.marks.now (word a.m.now (a.at + 1)))
left-mark c =
    let a = c.args in
    var-marked a.marks.now (word a.m.now (a.at + 1)) c.var_at-x.ensures c.is_marked-2.ensures

returns : tie.Need-returns-then-not-is_marked
returns c =
    let a = c.args in
    closed-not a.marks.now (gate_by a.m.now a.at a.last) (sym (gate-mark c.before) ∙ c.if-not-is_marked.true)

returns-2 : tie.Need-returns-then-not-is_marked-2
returns-2 c =
    let a = c.args in
    closed-left a.marks.now (gate_by a.m.now a.at a.last)
    (sym (gate-mark c.before.before.before) ∙ c.if-not-is_marked.false)
    (sym (left-mark c.before) ∙ c.if-not-is_marked-2.true)

returns-3 : tie.Need-returns
returns-3 c =
    let a = c.args in
    var-marked a.marks.now (word a.m.now (a.at + a.last)) c.var_at-y.ensures c.is_marked-3.ensures
    ∙ closed-right a.marks.now (gate_by a.m.now a.at a.last) true
    (sym (gate-mark c.before.before.before.before) ∙ c.if-not-is_marked.false)
    (sym (left-mark c.before.before) ∙ c.if-not-is_marked-2.false)

pub is_closed_spec : {M : Type 1} → statement M
is_closed_spec =
    tie.close
    (tie.spec var-at-requires add-var-at var-at-requires-2 add-var-at-2 var-at-requires-3 is-marked-requires returns is-marked-requires-2 returns-2 is-marked-requires-3 returns-3)
