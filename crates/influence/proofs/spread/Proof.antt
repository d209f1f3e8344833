-- `influence::spread` meets its contract. Assumes nothing.
use mathlib.Core.Path.{◌≡◌, refl, sym, ap, ap₂, ◌∙◌, subst}
use Prim.Native.Nat.{ℕ, ◌+◌, ◌-◌, ◌*◌, ◌≤◌, ◌<◌}
use native.Mathlib.Omega.{arith}
use mathlib.Core.List.{List}
use lib.ListN.{length}
use Rattle.influence.specs.Cone.{reach_down, gate_by, Rooms}
use Rattle.influence.proofs.Rooms.{gate-rooms, latch-rooms, spread-is}
use borrow.Author.Rules.{rules}
use Rattle.influence.proofs.spread.Statement.{statement}
use Rattle.influence.proofs.spread.Tie as tie

reach-down-requires : tie.Need-reach_down-requires
reach-down-requires c κs = gate-rooms c.requires

reach-down-requires-2 : tie.Need-reach_down-requires-2
reach-down-requires-2 c κs = subst (λ (n : ℕ). Rooms c.args.m.now c.args.layout.latches c.args.layout.l 1 n) (sym c.reach_down.auto.marks) (latch-rooms c.requires)

same_length : tie.Need-shape_of-marks
same_length c = c.reach_down-2.auto.marks ∙ c.reach_down.auto.marks

returns : tie.Need-returns
returns c = c.reach_down-2.ensures ∙ ap (reach_down (λ j. gate_by c.args.m.now (c.args.layout.latches + 3 * j) 1) c.args.layout.l) c.reach_down.ensures ∙ spread-is c.requires c.args.marks.now

pub spread_spec : {M : Type 1} → statement M
spread_spec = tie.close (tie.spec reach-down-requires reach-down-requires-2 same_length returns)
