-- `gate_order::refresh_users` meets its contract: each turn of its loop counts anew for one slot. Assumes nothing.
use native.Mathlib.Omega.{arith}
use borrow.Author.Rules.{rules}
use mathlib.Core.Path.{◌≡◌, sym, ◌∙◌}
use Prim.Native.Nat.{◌+◌, ◌-◌, ◌≤◌, ◌<◌}
use lib.ListN.{length, get_or}
use Rattle.gate_order.specs.Waiting.{uses, link}
use Rattle.gate_order.proofs.Users.{Refreshing, Slot, start, slot, gate-inside, more, end, smaller}
use Rattle.gate_order.proofs.refresh_users.Statement.{statement}
use Rattle.gate_order.proofs.refresh_users.Tie as tie

abbrev invariant-loop : tie.invariant-loop-cur
invariant-loop vars ops table v links waiting₀ marks₀ cur₀ waiting marks cur = Refreshing vars ops table v marks₀ waiting marks cur

abbrev decreases-loop : tie.decreases-loop-cur
decreases-loop vars ops table v links waiting₀ marks₀ cur₀ waiting marks cur = cur

-- the function's entry
abbrev S : tie.At-loop-cur invariant-loop decreases-loop → tie.Start invariant-loop decreases-loop
S l = l.before.before.before.before.before.before.before.before

-- the slot that is next
next : (t : tie.In-loop-cur invariant-loop decreases-loop) → Slot t.loop-cur.invariant (t.loop-cur.cur - 1)
next t = slot t.loop-cur.invariant t.loop-cur-test.true

within : (t : tie.In-loop-cur invariant-loop decreases-loop) → t.loop-cur.cur - 1 < length (S t.before).args.ops.now
within t = omega (arith, (next t).inside, t.loop-cur.invariant.low)

mul-cur : tie.Need-offset_bounds-links-v invariant-loop decreases-loop
mul-cur c = omega (arith, c.requires.1.0)

shared-slice-read-cur : tie.Need-bounds-links-v invariant-loop decreases-loop
shared-slice-read-cur c = omega (arith, c.requires.1.0, c.requires.1.1)

loop-holds : tie.Need-loop-cur-init invariant-loop decreases-loop
loop-holds c =
    start _ _ _ _ _ _ _ (c.requires.0.1.starts c.args.v c.requires.1.0) c.requires.1.2

cast-s : tie.Need-overflow_cast-s invariant-loop decreases-loop
cast-s c = omega (arith, within c, (S c.before).requires.0.0.pairs, (S c.before).requires.0.0.few)

sub-s : tie.Need-overflow_sub-s invariant-loop decreases-loop
sub-s c = omega arith

refresh-requires : tie.Need-refresh-requires invariant-loop decreases-loop
refresh-requires c κs =
    let s = S c.before.before.before in (
      (s.requires.0.0, c.loop-cur.invariant.stale.long),
      (gate-inside c.loop-cur.invariant _ (next c.before.before) s.requires.0.0.pairs, c.loop-cur.invariant.stale.blocks),
    )

add-cur : tie.Need-overflow_add-cur invariant-loop decreases-loop
add-cur c = omega (arith, within c.before.before.before.before.before.before.before, (S c.before.before.before.before.before.before.before.before).requires.0.0.pairs, (S c.before.before.before.before.before.before.before.before).requires.0.0.few)

mul-cur-2 : tie.Need-offset_bounds-links-s invariant-loop decreases-loop
mul-cur-2 c = omega (arith, within c.before.before.before.before.before.before.before, (S c.before.before.before.before.before.before.before.before).requires.0.0.pairs, (S c.before.before.before.before.before.before.before.before).requires.0.0.few)

shared-slice-read-cur-2 : tie.Need-bounds-links-s invariant-loop decreases-loop
shared-slice-read-cur-2 c = omega (arith, within c.before.before.before.before.before.before.before.before, (S c.before.before.before.before.before.before.before.before.before).requires.1.1)

loop-less : tie.Need-loop-cur-smaller invariant-loop decreases-loop
loop-less c =
    let s = S c.before.before.before.before.before.before.before.before.before in
    let x = c.loop-cur.cur - 1 in
    omega (arith, s.requires.0.1.goes x (within c.before.before.before.before.before.before.before.before), smaller (uses s.args.ops.now (get_or s.args.ops.now x 0)) x, c.loop-cur-test.true)

loop-again : tie.Need-loop-cur-preserved invariant-loop decreases-loop
loop-again c =
    let s = S c.before.before.before.before.before.before.before.before.before in
    let x = c.loop-cur.cur - 1 in
    more c.loop-cur.invariant x (next c.before.before.before.before.before.before.before.before) s.requires.0.0.pairs c.refresh.ensures _ (s.requires.0.1.goes x (within c.before.before.before.before.before.before.before.before))

same_length : tie.Need-shape_of-waiting invariant-loop decreases-loop
same_length c = c.loop-cur.invariant.stale.long ∙ sym (S c.before).requires.1.2.long

same-length-2 : tie.Need-shape_of-marks invariant-loop decreases-loop
same-length-2 c = c.loop-cur.invariant.same

returns : tie.Need-returns invariant-loop decreases-loop
returns c = end c.loop-cur.invariant c.loop-cur-test.false

pub refresh_users_spec : {M : Type 1} → statement M
refresh_users_spec =
    tie.close
    (tie.spec invariant-loop decreases-loop mul-cur shared-slice-read-cur loop-holds cast-s sub-s refresh-requires add-cur mul-cur-2 shared-slice-read-cur-2 loop-less loop-again same_length same-length-2 returns)
