-- `place_enumeration::first_hit_from` meets its contract. Assumes nothing.
use mathlib.Core.Path.{sym, ◌∙◌, subst}
use Prim.Native.Nat.{ℕ}
use native.Mathlib.Omega.{arith}
use Rattle.layout.specs.Words.{circuit_in}
use Rattle.enumeration.specs.Frame.{FreeBits}
use Rattle.frames.proofs.Places.{inputs_are, inputs-few}
use Rattle.frames.proofs.Starts.{starts-few}
use Rattle.frames.proofs.Starts.{bits_are, bits-few}
use Rattle.place_enumeration.proofs.Blocks.{from-hit, from-clear, from-spent}
use borrow.Author.Rules.{rules}
use Rattle.place_enumeration.proofs.first_hit_from.Statement.{statement}
use Rattle.place_enumeration.proofs.first_hit_from.Tie as tie

add-n : tie.Need-overflow_add-n
add-n c = omega (arith, c.requires.last)

mul-n : tie.Need-overflow_mul-n
mul-n c =
    let R = c.requires.ready in
    omega (arith, bits-few c.args.layout.i c.args.q.t (inputs-few R.held R.layout_of) c.requires.last)

add-n-2 : tie.Need-overflow_add-n-2
add-n-2 c =
    let R = c.requires.ready in
    omega (arith, bits-few c.args.layout.i c.args.q.t (inputs-few R.held R.layout_of) c.requires.last, R.layout_of.u-is, starts-few R.held R.layout_of)

add-end : tie.Need-overflow_add-end
add-end c = omega (arith, c.requires.start, c.requires.budget)

first-in-requires : tie.Need-first_in-x-requires
first-in-requires c κs =
    let R = c.requires.ready in
    (R, ((c.requires.bad, omega (arith, c.end_of-to.ensures, c.requires.start, c.requires.budget), omega (arith, c.requires.start)), ((bits_are (circuit_in c.args.m.now) c.args.q.t R.layout_of.u-is (inputs_are R.held R.layout_of)), R.layout_of.u-is)))

put-free-requires : tie.Need-put_free-requires
put-free-requires c κs =
    let R = c.requires.ready in
    omega (arith, (bits_are (circuit_in c.args.m.now) c.args.q.t R.layout_of.u-is (inputs_are R.held R.layout_of)), c.requires.free)

returns : tie.Need-returns-then-x-to
returns c =
    let R = c.requires.ready in
    let n = bits_are (circuit_in c.args.m.now) c.args.q.t R.layout_of.u-is (inputs_are R.held R.layout_of) in
    (c.first_in-x.result, from-hit (circuit_in c.args.m.now) c.args.q.b c.args.q.t c.args.q.place c.args.q.d n c.end_of-to.ensures c.first_in-x.ensures c.if-x-to.true, subst (λ (k : ℕ). FreeBits k c.first_in-x.result c.put_free.new.free) n c.put_free.ensures)

returns-2 : tie.Need-returns-then-done
returns-2 c =
    let R = c.requires.ready in
    let n = bits_are (circuit_in c.args.m.now) c.args.q.t R.layout_of.u-is (inputs_are R.held R.layout_of) in
    from-clear (circuit_in c.args.m.now) c.args.q.b c.args.q.t c.args.q.place c.args.q.d n c.end_of-to.ensures c.first_in-x.ensures c.if-x-to.false (grind (arith, c.passes_all-done.ensures, c.if-done.true))

returns-3 : tie.Need-returns-else-done
returns-3 c =
    let R = c.requires.ready in
    let n = bits_are (circuit_in c.args.m.now) c.args.q.t R.layout_of.u-is (inputs_are R.held R.layout_of) in
    from-spent (circuit_in c.args.m.now) c.args.q.b c.args.q.t c.args.q.place c.args.q.d n c.end_of-to.ensures c.first_in-x.ensures c.if-x-to.false (grind (arith, c.passes_all-done.ensures, c.if-done.false))

pub first_hit_from_spec : {M : Type 1} → statement M
first_hit_from_spec =
    tie.close
    (tie.spec add-n mul-n add-n-2 add-end (λ c κs. search rules) first-in-requires put-free-requires (λ c. search rules) returns (λ c κs. search rules) returns-2 returns-3)
