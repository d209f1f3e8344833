-- `expansion::expand_row` meets its contract. Assumes nothing.
use mathlib.Core.Path.{◌≡◌, sym, ap, ◌∙◌}
use mathlib.Core.Bool.{cond}
use Prim.Native.Nat.{ℕ, ◌+◌, ◌-◌, ◌≤◌, ◌<◌}
use native.Mathlib.Omega.{arith}
use lib.Dec.{eqb}
use lib.ListN.{length, get_or, length-set}
use Rattle.pins.specs.Pins.{is_held, pins_of, free_inputs}
use Rattle.expansion.specs.Rows.{byte_of, bits_at}
use Rattle.expansion.proofs.Rows.{Filling, free-most, left-used, fill_start, fill_more, fill_end}
use borrow.Author.Rules.{rules}
use Rattle.expansion.proofs.expand_row.Statement.{statement}
use Rattle.expansion.proofs.expand_row.Tie as tie

abbrev invariant-loop : tie.invariant-loop-i
invariant-loop out₀ from at inputs n pins user j₀ i₀ out j i = Filling (pins_of pins user) inputs from at out₀ out i j

abbrev decreases-loop : tie.decreases-loop-i
decreases-loop out₀ from at inputs n pins user j₀ i₀ out j i = i

loop-holds : tie.Need-loop-i-init invariant-loop decreases-loop
loop-holds c =
    let a = c.args in
    fill_start (pins_of a.pins.now a.user) a.inputs a.from a.at a.out.now c.requires.4

sub-i : tie.Need-overflow_sub-i invariant-loop decreases-loop
sub-i c = omega arith

pin-at-requires : tie.Need-pin_at-pin-requires invariant-loop decreases-loop
pin-at-requires c κs = (omega arith, omega (arith, c.loop-i.invariant.within))

sub-j : tie.Need-overflow_sub-j invariant-loop decreases-loop
sub-j c =
    let a = c.args in
    let q = pins_of a.pins.now a.user in
    let i = c.loop-i.i - 1 in
    let one : c.loop-i.i ≡ i + 1 = omega arith in
    let p : c.pin_at-pin.result ≡ q i = c.pin_at-pin.ensures in
    let e : c.bits_of-j.result ≡ cond (is_held (q i)) 0 1 =
    c.bits_of-j.ensures ∙ ap (λ (x : ℕ). cond (is_held x) 0 1) p in
    let w = left-used q a.inputs a.from a.at i c.loop-i.invariant one in
    omega (arith, e, w)

add-expand-bit : tie.Need-overflow_add-from invariant-loop decreases-loop
add-expand-bit c =
    let a = c.args in
    let q = pins_of a.pins.now a.user in
    omega (arith, c.loop-i.invariant.used, free-most q c.loop-i.i, c.loop-i.invariant.within)

add-out : tie.Need-overflow_add-out invariant-loop decreases-loop
add-out c = omega (arith, c.loop-i.invariant.within)

slice-write-out : tie.Need-bounds-out-at invariant-loop decreases-loop
slice-write-out c = omega (arith, c.loop-i.invariant.within, c.loop-i.invariant.size)

loop-less : tie.Need-loop-i-smaller invariant-loop decreases-loop
loop-less c = omega arith

loop-again : tie.Need-loop-i-preserved invariant-loop decreases-loop
loop-again c =
    let a = c.args in
    let q = pins_of a.pins.now a.user in
    let i = c.loop-i.i - 1 in
    let one : c.loop-i.i ≡ i + 1 = omega arith in
    let p : c.pin_at-pin.result ≡ q i = c.pin_at-pin.ensures in
    let e : c.bits_of-j.result ≡ cond (is_held (q i)) 0 1 =
    c.bits_of-j.ensures ∙ ap (λ (x : ℕ). cond (is_held x) 0 1) p in
    let w = left-used q a.inputs a.from a.at i c.loop-i.invariant one in
    let j = c.loop-i.j - c.bits_of-j.result in
    let x : c.expand_bit-byte.result ≡ cond (is_held (q i)) (byte_of (eqb (q i) 1)) (byte_of (bits_at c.loop-i.out a.from j)) =
    c.expand_bit-byte.ensures
    ∙ ap (λ (z : ℕ). cond (is_held z) (byte_of (eqb z 1)) (byte_of (bits_at c.loop-i.out a.from j))) p in
    fill_more q a.inputs a.from a.at i j c.expand_bit-byte.result c.loop-i.invariant one (omega (arith, e, w)) c.requires.2
    (omega (arith, c.requires.3)) x

add-out-2 : tie.Need-overflow_add-out-2 invariant-loop decreases-loop
add-out-2 c = omega arith

slice-write-out-2 : tie.Need-bounds-out-at-2 invariant-loop decreases-loop
slice-write-out-2 c = omega (arith, c.loop-i.invariant.size)

same_length : tie.Need-shape_of-out invariant-loop decreases-loop
same_length c = simp length-set c.loop-i.invariant.size

returns : tie.Need-returns invariant-loop decreases-loop
returns c =
    let a = c.args in
    let q = pins_of a.pins.now a.user in
    fill_end q a.inputs a.from a.at c.loop-i.invariant (omega arith) c.requires.3

pub expand_row_spec : {M : Type 1} → statement M
expand_row_spec =
    tie.close
    (tie.spec invariant-loop decreases-loop loop-holds sub-i pin-at-requires (λ c κs. search rules) sub-j add-expand-bit (λ c κs. search rules) add-out slice-write-out loop-less loop-again add-out-2 slice-write-out-2 same_length returns)
