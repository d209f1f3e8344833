-- `influence::settle` meets its contract. The loop's invariant: `left` rounds from these marks on give what 129 give from the first ones. Assumes nothing.
use mathlib.Core.Path.{◌≡◌, refl, sym, ap, ap₂, ◌∙◌, subst}
use Prim.Native.Nat.{ℕ, ◌+◌, ◌-◌, ◌*◌, ◌≤◌, ◌<◌}
use native.Mathlib.Omega.{arith}
use mathlib.Core.List.{List}
use lib.ListN.{length}
use Rattle.layout.specs.Words.{circuit_in}
use Rattle.frames.proofs.Facts.{ready_with}
use Rattle.influence.specs.Cone.{settle}
use Rattle.influence.proofs.Marks.{settle-end, settle-stop, settle-more}
use borrow.Author.Rules.{rules}
use Rattle.influence.proofs.settle.Statement.{statement}
use Rattle.influence.proofs.settle.Tie as tie

abbrev invariant-loop : tie.invariant-loop-left
invariant-loop m layout order b marks₀ left₀ marks left = (left ≤ 129) × (length marks ≡ length marks₀) × (settle left (circuit_in m) b marks ≡ settle 129 (circuit_in m) b marks₀)

abbrev decreases-loop : tie.decreases-loop-left
decreases-loop m layout order b marks₀ left₀ marks left = left

loop-holds : tie.Need-loop-left-init invariant-loop decreases-loop
loop-holds c = (omega arith, refl, refl)

is-settled-requires : tie.Need-is_settled-requires invariant-loop decreases-loop
is-settled-requires c κs = (ready_with c.requires.0 (omega (arith, c.loop-left.invariant.1, c.requires.0.room)), c.requires.1)

same_length : tie.Need-shape_of-marks-then-is_settled invariant-loop decreases-loop
same_length c = c.loop-left.invariant.1

returns : tie.Need-returns-then-is_settled invariant-loop decreases-loop
returns c = sym (settle-stop (circuit_in c.args.m.now) c.args.b c.loop-left.left c.loop-left.marks (omega arith) (sym c.is_settled.ensures ∙ c.if-is_settled.true)) ∙ c.loop-left.invariant.2

spread-requires : tie.Need-spread-requires invariant-loop decreases-loop
spread-requires c κs = ready_with c.requires.0 (omega (arith, c.loop-left.invariant.1, c.requires.0.room))

sub-left : tie.Need-overflow_sub-left invariant-loop decreases-loop
sub-left c = omega arith

loop-less : tie.Need-loop-left-smaller invariant-loop decreases-loop
loop-less c = omega arith

loop-again : tie.Need-loop-left-preserved invariant-loop decreases-loop
loop-again c = (omega arith, c.spread.auto.marks ∙ c.loop-left.invariant.1, ap (settle (c.loop-left.left - 1) (circuit_in c.args.m.now) c.args.b) c.spread.ensures ∙ sym (settle-more (circuit_in c.args.m.now) c.args.b c.loop-left.left c.loop-left.marks (omega arith) (sym c.is_settled.ensures ∙ c.if-is_settled.false)) ∙ c.loop-left.invariant.2)

same-length-2 : tie.Need-shape_of-marks invariant-loop decreases-loop
same-length-2 c = c.loop-left.invariant.1

returns-2 : tie.Need-returns invariant-loop decreases-loop
returns-2 c =
    let e : 0 ≡ c.loop-left.left = omega arith in
    sym (settle-end (circuit_in c.args.m.now) c.args.b c.loop-left.marks) ∙ ap (λ (z : ℕ). settle z (circuit_in c.args.m.now) c.args.b c.loop-left.marks) e ∙ c.loop-left.invariant.2

pub settle_spec : {M : Type 1} → statement M
settle_spec =
    tie.close
    (tie.spec invariant-loop decreases-loop loop-holds is-settled-requires same_length returns spread-requires sub-left loop-less loop-again same-length-2 returns-2)
