-- `enumeration::first_hit` meets its contract. Assumes nothing.
use mathlib.Core.Path.{sym, ◌∙◌, subst}
use Prim.Native.Nat.{ℕ}
use native.Mathlib.Omega.{arith}
use Rattle.layout.specs.Words.{circuit_in}
use Rattle.enumeration.specs.Frame.{FreeBits}
use Rattle.frames.proofs.Places.{inputs_are, inputs-few}
use Rattle.frames.proofs.Starts.{starts-few}
use Rattle.frames.proofs.Starts.{bits_are, bits-few}
use Rattle.enumeration.proofs.Least.{decision-hit, decision-clear, decision-spent}
use borrow.Author.Rules.{rules}
use Rattle.enumeration.proofs.first_hit.Statement.{statement}
use Rattle.enumeration.proofs.first_hit.Tie as tie

mul-n : tie.Need-overflow_mul-n
mul-n c =
    let R = c.requires.0 in
    omega (arith, bits-few c.args.layout.i c.args.t (inputs-few R.held R.layout_of) c.requires.1.0.1)

add-n-2 : tie.Need-overflow_add-n-2
add-n-2 c =
    let R = c.requires.0 in
    omega (arith, bits-few c.args.layout.i c.args.t (inputs-few R.held R.layout_of) c.requires.1.0.1, R.layout_of.u-is, starts-few R.held R.layout_of)

first-below-requires : tie.Need-first_below-x-requires
first-below-requires c κs =
    let R = c.requires.0 in
    (R, ((c.requires.1.0.0, omega (arith, c.tries-total.ensures, c.requires.1.0)), ((bits_are (circuit_in c.args.m.now) c.args.t R.layout_of.u-is (inputs_are R.held R.layout_of)), R.layout_of.u-is)))

put-free-requires : tie.Need-put_free-requires
put-free-requires c κs =
    let R = c.requires.0 in
    omega (arith, (bits_are (circuit_in c.args.m.now) c.args.t R.layout_of.u-is (inputs_are R.held R.layout_of)), c.requires.1.1)

returns : tie.Need-returns-then-x-total
returns c =
    let R = c.requires.0 in
    (c.first_below-x.result, decision-hit (circuit_in c.args.m.now) c.args.b c.args.t c.args.d (bits_are (circuit_in c.args.m.now) c.args.t R.layout_of.u-is (inputs_are R.held R.layout_of)) c.tries-total.ensures c.first_below-x.ensures c.if-x-total.true, subst (λ (n : ℕ). FreeBits n c.first_below-x.result c.put_free.new.free) (bits_are (circuit_in c.args.m.now) c.args.t R.layout_of.u-is (inputs_are R.held R.layout_of)) c.put_free.ensures)

returns-2 : tie.Need-returns-then-covers
returns-2 c =
    let R = c.requires.0 in
    decision-clear (circuit_in c.args.m.now) c.args.b c.args.t c.args.d (bits_are (circuit_in c.args.m.now) c.args.t R.layout_of.u-is (inputs_are R.held R.layout_of)) c.tries-total.ensures c.first_below-x.ensures c.if-x-total.false (sym c.covers.ensures ∙ c.if-covers.true)

returns-3 : tie.Need-returns-else-covers
returns-3 c =
    let R = c.requires.0 in
    decision-spent (circuit_in c.args.m.now) c.args.b c.args.t c.args.d (bits_are (circuit_in c.args.m.now) c.args.t R.layout_of.u-is (inputs_are R.held R.layout_of)) c.tries-total.ensures c.first_below-x.ensures c.if-x-total.false (sym c.covers.ensures ∙ c.if-covers.false)

pub first_hit_spec : {M : Type 1} → statement M
first_hit_spec =
    tie.close
    (tie.spec (λ c. search rules) mul-n add-n-2 (λ c κs. search rules) first-below-requires put-free-requires (λ c. search rules) returns (λ c κs. search rules) returns-2 returns-3)
