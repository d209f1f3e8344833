-- `ternary::cover_gates` meets its contract. The loop's invariant: the first k gates of the order are done. Assumes nothing.
use mathlib.Core.Path.{◌≡◌, refl, sym, ap, ◌∙◌}
use Prim.Native.Nat.{ℕ, ◌+◌, ◌-◌, ◌*◌, ◌≤◌, ◌<◌}
use native.Mathlib.Omega.{arith}
use lib.ListN.{length, get_or}
use Rattle.aiger.specs.Circuit.{Gate}
use Rattle.layout.specs.Words.{circuit_in}
use Rattle.frames.proofs.Facts.{gates-are, gates-few, gates-inside, gate-place, gate-room}
use Rattle.ternary.specs.Entries.{gate_step, gates_below}
use Rattle.ternary.proofs.Entries.{gates-none, gates-more}
use Rattle.ternary.proofs.Covering.{room_of}
use borrow.Author.Rules.{rules}
use Rattle.ternary.proofs.cover_gates.Statement.{statement}
use Rattle.ternary.proofs.cover_gates.Tie as tie

abbrev invariant-loop : tie.invariant-loop-k
invariant-loop m order can₀ count gates k₀ can k = (k ≤ count) × (length can ≡ length can₀) × (can ≡ gates_below (circuit_in m) order k can₀)

abbrev decreases-loop : tie.decreases-loop-k
decreases-loop m order can₀ count gates k₀ can k = count - k

-- the entry, from the loop's head
abbrev start : tie.At-loop-k invariant-loop decreases-loop → tie.Start invariant-loop decreases-loop
start l = l.before.before.before.before

abbrev g : tie.In-loop-k invariant-loop decreases-loop → ℕ
g n = get_or (start n.before).args.order.now n.loop-k.k 0

named : (n : tie.In-loop-k invariant-loop decreases-loop) → g n < (start n.before).args.layout.a
named n =
    let R = (start n.before).requires.0 in
    omega (arith, gates-are R, R.ordered.gate n.loop-k.k (omega (arith, gates-are R, n.loop-k-test.true)))

loop-holds : tie.Need-loop-k-init invariant-loop decreases-loop
loop-holds c =
    let a = c.args in (omega arith, refl, gates-none (circuit_in a.m.now) a.order.now a.can.now)

mul-g : tie.Need-offset_bounds-order-k invariant-loop decreases-loop
mul-g c = omega (arith, gates-few c.requires.0, c.loop-k-test.true)

shared-slice-read-g : tie.Need-bounds-order-k invariant-loop decreases-loop
shared-slice-read-g c =
    let R = c.requires.0 in omega (arith, gates-few R, R.ranks, c.loop-k-test.true)

cast-g : tie.Need-overflow_cast-g invariant-loop decreases-loop
cast-g c = omega (arith, named c.before, gates-few c.requires.0)

mul-cover-gate : tie.Need-overflow_mul-g invariant-loop decreases-loop
mul-cover-gate c = omega (arith, named c.before, gates-few c.requires.0)

add-cover-gate : tie.Need-overflow_add-gates invariant-loop decreases-loop
add-cover-gate c = omega (arith, named c.before, gates-inside c.requires.0)

cover-gate-requires : tie.Need-cover_gate-requires invariant-loop decreases-loop
cover-gate-requires c κs =
    room_of (gate-room c.requires.0 (g c.before.before) (named c.before.before)) (omega (arith, c.requires.1, c.loop-k.invariant.1))

add-k : tie.Need-overflow_add-k invariant-loop decreases-loop
add-k c =
    omega (arith, gates-few c.requires.0, c.loop-k-test.true)

loop-less : tie.Need-loop-k-smaller invariant-loop decreases-loop
loop-less c = omega (arith, c.loop-k-test.true)

loop-again : tie.Need-loop-k-preserved invariant-loop decreases-loop
loop-again c =
    let C = circuit_in c.args.m.now in
    let gate = ap (λ (x : Gate). gate_step x c.loop-k.can) (sym (gate-place c.requires.0 (g c.before.before.before.before.before) (named c.before.before.before.before.before))) in (
      omega (arith, c.loop-k-test.true),
      c.cover_gate.auto.can ∙ c.loop-k.invariant.1,
      c.cover_gate.ensures ∙ gate ∙ gates-more C c.args.order.now c.loop-k.k c.args.can.now c.loop-k.can c.loop-k.invariant.2,
    )

same_length : tie.Need-shape_of-can invariant-loop decreases-loop
same_length c = c.loop-k.invariant.1

returns : tie.Need-returns invariant-loop decreases-loop
returns c =
    let a = c.args in
    let e : c.loop-k.k ≡ a.layout.a = omega (arith, c.loop-k.invariant.0, c.loop-k-test.false) in
    c.loop-k.invariant.2 ∙ ap (λ (n : ℕ). gates_below (circuit_in a.m.now) a.order.now n a.can.now) e

pub cover_gates_spec : {M : Type 1} → statement M
cover_gates_spec =
    tie.close
    (tie.spec invariant-loop decreases-loop loop-holds mul-g shared-slice-read-g cast-g mul-cover-gate add-cover-gate cover-gate-requires add-k loop-less loop-again same_length returns)
