-- `expansion::expand_rows` meets its contract. Assumes nothing.
use mathlib.Core.Path.{◌≡◌, refl, sym, ap, ◌∙◌}
use Prim.Native.Nat.{ℕ, ◌+◌, ◌-◌, ◌*◌, ◌≤◌, ◌<◌}
use native.Mathlib.Nat.{mul-le-mul_left}
use native.Mathlib.Omega.{arith}
use lib.ListN.{length, length-set}
use Rattle.pins.specs.Pins.{pins_of, free_inputs}
use Rattle.expansion.proofs.Rows.{Filed, free-most, filed-start, filed-next, filed-more, filed-end}
use Rattle.expansion.proofs.Witnesses.{length-rows}
use borrow.Author.Rules.{rules}
use Rattle.expansion.proofs.expand_rows.Statement.{statement}
use Rattle.expansion.proofs.expand_rows.Tie as tie

abbrev invariant-loop : tie.invariant-loop-u
invariant-loop out₀ start t inputs n pins user end from₀ at₀ u₀ out from at u = Filed (pins_of pins user) inputs start (t + 1) out₀ out from at u

abbrev decreases-loop : tie.decreases-loop-u
decreases-loop out₀ start t inputs n pins user end from₀ at₀ u₀ out from at u = u

add-end : tie.Need-overflow_add-end invariant-loop decreases-loop
add-end c = omega arith

add-end-2 : tie.Need-overflow_add-end-2 invariant-loop decreases-loop
add-end-2 c = omega arith

mul-end : tie.Need-overflow_mul-end invariant-loop decreases-loop
mul-end c =
    let a = c.args in
    let q = pins_of a.pins.now a.user in
    let r = length-rows a.out.now q a.inputs a.start (a.t + 1) in
    omega (arith, r, c.requires.3)

add-end-3 : tie.Need-overflow_add-end-3 invariant-loop decreases-loop
add-end-3 c =
    let a = c.args in
    let q = pins_of a.pins.now a.user in
    let r = length-rows a.out.now q a.inputs a.start (a.t + 1) in
    omega (arith, r, c.requires.3)

add-from : tie.Need-overflow_add-from invariant-loop decreases-loop
add-from c = omega arith

add-from-2 : tie.Need-overflow_add-from-2 invariant-loop decreases-loop
add-from-2 c =
    let a = c.args in
    let q = pins_of a.pins.now a.user in
    let r = length-rows a.out.now q a.inputs a.start (a.t + 1) in
    let f : a.n + 1 ≤ a.inputs + 1 = omega (arith, c.requires.4, free-most q a.inputs) in
    let m : (a.t + 1) * (a.n + 1) ≤ (a.t + 1) * (a.inputs + 1) = mul-le-mul_left (a.t + 1) f in
    omega arith

mul-from : tie.Need-overflow_mul-from invariant-loop decreases-loop
mul-from c =
    let a = c.args in
    let q = pins_of a.pins.now a.user in
    let r = length-rows a.out.now q a.inputs a.start (a.t + 1) in
    let f : a.n + 1 ≤ a.inputs + 1 = omega (arith, c.requires.4, free-most q a.inputs) in
    let m : (a.t + 1) * (a.n + 1) ≤ (a.t + 1) * (a.inputs + 1) = mul-le-mul_left (a.t + 1) f in
    omega (arith, r, c.requires.3)

add-from-3 : tie.Need-overflow_add-from-3 invariant-loop decreases-loop
add-from-3 c =
    let a = c.args in
    let q = pins_of a.pins.now a.user in
    let r = length-rows a.out.now q a.inputs a.start (a.t + 1) in
    let f : a.n + 1 ≤ a.inputs + 1 = omega (arith, c.requires.4, free-most q a.inputs) in
    let m : (a.t + 1) * (a.n + 1) ≤ (a.t + 1) * (a.inputs + 1) = mul-le-mul_left (a.t + 1) f in
    omega (arith, r, c.requires.3)

add-u : tie.Need-overflow_add-u invariant-loop decreases-loop
add-u c = omega arith

loop-holds : tie.Need-loop-u-init invariant-loop decreases-loop
loop-holds c =
    let a = c.args in
    let q = pins_of a.pins.now a.user in
    let r = length-rows a.out.now q a.inputs a.start (a.t + 1) in
    filed-start q a.inputs a.start (a.t + 1) a.out.now (ap (λ (k : ℕ). a.start + (a.t + 1) * (k + 1)) c.requires.4) refl

sub-u : tie.Need-overflow_sub-u invariant-loop decreases-loop
sub-u c = omega arith

add-from-4 : tie.Need-overflow_add-from-in-loop-u invariant-loop decreases-loop
add-from-4 c =
    let a = c.args in
    let q = pins_of a.pins.now a.user in
    let r = length-rows a.out.now q a.inputs a.start (a.t + 1) in
    let f : a.n + 1 ≤ a.inputs + 1 = omega (arith, c.requires.4, free-most q a.inputs) in
    let m : (a.t + 1) * (a.n + 1) ≤ (a.t + 1) * (a.inputs + 1) = mul-le-mul_left (a.t + 1) f in
    omega arith

sub-from : tie.Need-overflow_sub-from invariant-loop decreases-loop
sub-from c =
    let a = c.args in
    let q = pins_of a.pins.now a.user in
    let r = length-rows a.out.now q a.inputs a.start (a.t + 1) in
    let u = c.loop-u.u - 1 in
    let one : c.loop-u.u ≡ u + 1 = omega arith in
    let room : a.start + (a.t + 1) * (a.inputs + 1) ≤ length a.out.now = omega (arith, r, c.requires.3) in
    let x = filed-next q a.inputs a.start (a.t + 1) u c.loop-u.invariant one room in
    omega (arith, x.source-less, c.requires.4)

add_at : tie.Need-overflow_add-at invariant-loop decreases-loop
add_at c = omega arith

sub_at : tie.Need-overflow_sub-at invariant-loop decreases-loop
sub_at c =
    let a = c.args in
    let q = pins_of a.pins.now a.user in
    let r = length-rows a.out.now q a.inputs a.start (a.t + 1) in
    let u = c.loop-u.u - 1 in
    let one : c.loop-u.u ≡ u + 1 = omega arith in
    let room : a.start + (a.t + 1) * (a.inputs + 1) ≤ length a.out.now = omega (arith, r, c.requires.3) in
    let x = filed-next q a.inputs a.start (a.t + 1) u c.loop-u.invariant one room in
    omega (arith, x.target-less)

expand-row-requires : tie.Need-expand_row-requires invariant-loop decreases-loop
expand-row-requires c κs =
    let a = c.args in
    let q = pins_of a.pins.now a.user in
    let r = length-rows a.out.now q a.inputs a.start (a.t + 1) in
    let u = c.loop-u.u - 1 in
    let one : c.loop-u.u ≡ u + 1 = omega arith in
    let room : a.start + (a.t + 1) * (a.inputs + 1) ≤ length a.out.now = omega (arith, r, c.requires.3) in
    let x = filed-next q a.inputs a.start (a.t + 1) u c.loop-u.invariant one room in
    (c.requires.0, c.requires.1, omega (arith, x.source-less, x.target-less, x.behind, c.requires.4), omega (arith, x.target-less, x.room, c.loop-u.invariant.size), c.requires.4)

loop-less : tie.Need-loop-u-smaller invariant-loop decreases-loop
loop-less c = omega arith

loop-again : tie.Need-loop-u-preserved invariant-loop decreases-loop
loop-again c =
    let a = c.args in
    let q = pins_of a.pins.now a.user in
    let r = length-rows a.out.now q a.inputs a.start (a.t + 1) in
    let u = c.loop-u.u - 1 in
    let one : c.loop-u.u ≡ u + 1 = omega arith in
    let room : a.start + (a.t + 1) * (a.inputs + 1) ≤ length a.out.now = omega (arith, r, c.requires.3) in
    let x = filed-next q a.inputs a.start (a.t + 1) u c.loop-u.invariant one room in
    filed-more q a.inputs a.start (a.t + 1) (c.loop-u.from - (a.n + 1)) (c.loop-u.at - (a.inputs + 1)) u c.loop-u.invariant one room
    (omega (arith, x.source-less, c.requires.4)) (omega (arith, x.target-less)) c.expand_row.ensures c.expand_row.auto.out

slice-write-out : tie.Need-bounds-out-end invariant-loop decreases-loop
slice-write-out c =
    let a = c.args in
    let q = pins_of a.pins.now a.user in
    let r = length-rows a.out.now q a.inputs a.start (a.t + 1) in
    omega (arith, r, c.requires.3, c.loop-u.invariant.size)

add-out : tie.Need-overflow_add-out invariant-loop decreases-loop
add-out c =
    let a = c.args in
    let q = pins_of a.pins.now a.user in
    let r = length-rows a.out.now q a.inputs a.start (a.t + 1) in
    omega (arith, r, c.requires.3, c.loop-u.invariant.size)

slice-write-out-2 : tie.Need-bounds-out-end-2 invariant-loop decreases-loop
slice-write-out-2 c =
    let a = c.args in
    let q = pins_of a.pins.now a.user in
    let r = length-rows a.out.now q a.inputs a.start (a.t + 1) in
    simp length-set (omega (arith, r, c.requires.3, c.loop-u.invariant.size))

same_length : tie.Need-shape_of-out invariant-loop decreases-loop
same_length c = simp length-set c.loop-u.invariant.size

returns : tie.Need-returns invariant-loop decreases-loop
returns c =
    let a = c.args in
    let q = pins_of a.pins.now a.user in
    let r = length-rows a.out.now q a.inputs a.start (a.t + 1) in
    filed-end q a.inputs a.start (a.t + 1) c.loop-u.invariant (omega arith) (omega (arith, r, c.requires.3))

pub expand_rows_spec : {M : Type 1} → statement M
expand_rows_spec =
    tie.close
    (tie.spec invariant-loop decreases-loop add-end add-end-2 mul-end add-end-3 add-from add-from-2 mul-from add-from-3 add-u loop-holds sub-u add-from-4 sub-from add_at sub_at expand-row-requires loop-less loop-again slice-write-out add-out slice-write-out-2 same_length returns)
