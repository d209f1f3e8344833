-- `influence::is_settled` meets its contract. Assumes nothing.
use mathlib.Core.Path.{◌≡◌, refl, sym, ap, ap₂, ◌∙◌, subst}
use Prim.Native.Nat.{ℕ, ◌+◌, ◌-◌, ◌*◌, ◌≤◌, ◌<◌}
use native.Mathlib.Omega.{arith}
use mathlib.Core.Bool.{Bool, ◌&&◌}
use Rattle.frames.proofs.Facts.{bad-inside}
use Rattle.influence.proofs.Rooms.{gate-rooms, latch-rooms, bad-literals, constraint-literals, closed_is}
use borrow.Author.Rules.{rules}
use Rattle.influence.proofs.is_settled.Statement.{statement}
use Rattle.influence.proofs.is_settled.Tie as tie

are-closed-requires : tie.Need-are_closed-gates-requires
are-closed-requires c κs = gate-rooms c.requires.0

are-closed-requires-2 : tie.Need-are_closed-latches-requires
are-closed-requires-2 c κs = latch-rooms c.requires.0

add-are-marked : tie.Need-overflow_add-layout
add-are-marked c = omega (arith, bad-inside c.requires.0 c.args.b c.requires.1)

are-marked-requires : tie.Need-are_marked-bad-requires
are-marked-requires c κs = bad-literals c.requires.0 c.args.b c.requires.1

are-marked-requires-2 : tie.Need-are_marked-constraints-requires
are-marked-requires-2 c κs = constraint-literals c.requires.0

returns : tie.Need-returns
returns c =
    ap₂ (λ (x y : Bool). x && y) c.are_closed-gates.ensures (ap₂ (λ (x y : Bool). x && y) c.are_closed-latches.ensures (ap₂ (λ (x y : Bool). x && y) c.are_marked-bad.ensures c.are_marked-constraints.ensures))
    ∙ closed_is c.requires.0 c.args.b c.requires.1 c.args.marks.now

pub is_settled_spec : {M : Type 1} → statement M
is_settled_spec =
    tie.close
    (tie.spec are-closed-requires are-closed-requires-2 add-are-marked are-marked-requires are-marked-requires-2 returns)
