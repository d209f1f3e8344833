-- `set_search::try_orders` meets its contract. The loop's invariant: what is seen of the stage is what is seen of the attempts from attempt
-- i on. Assumes nothing.
use mathlib.Core.Path.{◌≡◌, refl, sym, ap, ◌∙◌, subst}
use mathlib.Core.List.{List}
use Prim.Native.Nat.{ℕ, ◌+◌, ◌-◌, ◌≤◌, ◌<◌}
use native.Mathlib.Omega.{arith}
use borrow.Author.Rules.{rules}
use lib.ListN.{length}
use Rattle.layout.specs.Words.{circuit_in}
use Rattle.influence.specs.Cone.{part_of}
use Rattle.set_search.proofs.Turns.{From, turns-start, hit-arm, never-arm, clear-arm, gave-up-arm, next-arm, end-arm}
use Rattle.set_search.proofs.try_orders.Statement.{statement}
use Rattle.set_search.proofs.try_orders.Tie as tie

abbrev invariant-loop : tie.invariant-loop-i
invariant-loop m layout order stage work₀ first i₀ work i =
    (length work ≡ length work₀) × (i ≤ 4) × (first ≡ stage.first)
    × From (part_of (circuit_in m) stage.b) stage.b stage.share stage.first stage.k i

abbrev decreases-loop : tie.decreases-loop-i
decreases-loop m layout order stage work₀ first i₀ work i = 4 - i

loop-holds : tie.Need-loop-i-init invariant-loop decreases-loop
loop-holds c =
    let a = c.args in
    let p = c.requires.1.0 in (
      refl,
      omega arith,
      refl,
      turns-start (part_of (circuit_in a.m.now) a.stage.b) a.stage.b a.stage.share a.stage.first a.stage.k p.within p.bound
          c.requires.1.1,
    )

attempt-requires : tie.Need-attempt-requires invariant-loop decreases-loop
attempt-requires c κs =
    let p = c.requires.1.0 in (
      c.requires.0,
      (
        record { bad = p.bad; bound = p.bound; within = p.within; units = p.units; room = omega (arith, p.room, c.loop-i.invariant.0); none = p.none },
        c.requires.1.1,
      ),
    )

same_length : tie.Need-shape_of-work-in-Hit invariant-loop decreases-loop
same_length c = c.attempt.auto.work ∙ c.loop-i.invariant.0

returns : tie.Need-returns-in-Hit invariant-loop decreases-loop
returns c =
    let a = c.args in
    let p = c.requires.1.0 in
    hit-arm (circuit_in a.m.now) a.stage.b a.stage.share a.stage.first a.stage.k p.within p.bound c.loop-i.i c.loop-i-test.true
    c.loop-i.invariant.3 c.order_of.result c.order_of.ensures c.attempt.new.work c.attempt.result c.attempt.ensures c.in-Hit.is

same-length-2 : tie.Need-shape_of-work-in-Never invariant-loop decreases-loop
same-length-2 c = c.attempt.auto.work ∙ c.loop-i.invariant.0

returns-2 : tie.Need-returns-in-Never invariant-loop decreases-loop
returns-2 c =
    let a = c.args in
    let p = c.requires.1.0 in
    never-arm (circuit_in a.m.now) a.stage.b a.stage.share a.stage.first a.stage.k p.within p.bound c.loop-i.i c.loop-i-test.true
    c.loop-i.invariant.3 c.order_of.result c.order_of.ensures c.attempt.new.work c.attempt.result c.attempt.ensures c.in-Never.is

same-length-3 : tie.Need-shape_of-work-in-Clear invariant-loop decreases-loop
same-length-3 c = c.attempt.auto.work ∙ c.loop-i.invariant.0

returns-3 : tie.Need-returns-in-Clear invariant-loop decreases-loop
returns-3 c =
    let a = c.args in
    let p = c.requires.1.0 in
    clear-arm (circuit_in a.m.now) a.stage.b a.stage.share a.stage.first a.stage.k p.within p.bound c.loop-i.i c.loop-i-test.true
    c.loop-i.invariant.3 c.order_of.result c.order_of.ensures c.attempt.new.work c.attempt.result c.attempt.ensures c.in-Clear.is

same-length-4 : tie.Need-shape_of-work-then-first-t invariant-loop decreases-loop
same-length-4 c = c.attempt.auto.work ∙ c.loop-i.invariant.0

returns-4 : tie.Need-returns-then-first-t invariant-loop decreases-loop
returns-4 c =
    let a = c.args in
    let p = c.requires.1.0 in
    gave-up-arm (circuit_in a.m.now) a.stage.b a.stage.share a.stage.first a.stage.k p.within p.bound c.loop-i.i c.loop-i-test.true
    c.loop-i.invariant.3 c.order_of.result c.order_of.ensures c.attempt.new.work c.attempt.result c.attempt.ensures c.in-GaveUp.is (omega (arith, c.if-first-t.true, c.loop-i.invariant.2))

add-i : tie.Need-overflow_add-i invariant-loop decreases-loop
add-i c = omega (arith, c.loop-i-test.true)

loop-less : tie.Need-loop-i-smaller invariant-loop decreases-loop
loop-less c = omega (arith, c.loop-i-test.true)

loop-again : tie.Need-loop-i-preserved invariant-loop decreases-loop
loop-again c =
    let a = c.args in
    let p = c.requires.1.0 in (
      c.attempt.auto.work ∙ c.loop-i.invariant.0,
      omega (arith, c.loop-i-test.true),
      c.loop-i.invariant.2,
      next-arm (circuit_in a.m.now) a.stage.b a.stage.share a.stage.first a.stage.k p.within p.bound c.loop-i.i
          c.loop-i-test.true c.loop-i.invariant.3 c.order_of.result c.order_of.ensures
          c.attempt.new.work c.attempt.result c.attempt.ensures c.in-GaveUp.is (omega (arith, c.if-first-t.false, c.loop-i.invariant.2)),
    )

same-length-5 : tie.Need-shape_of-work invariant-loop decreases-loop
same-length-5 c = c.loop-i.invariant.0

returns-5 : tie.Need-returns invariant-loop decreases-loop
returns-5 c =
    let a = c.args in
    let p = c.requires.1.0 in
    let e : c.loop-i.i ≡ 4 = omega (arith, c.loop-i-test.false, c.loop-i.invariant.1) in
    end-arm (circuit_in a.m.now) a.stage.b a.stage.share a.stage.first a.stage.k p.within p.bound c.loop-i.invariant.3 e c.loop-i.invariant.2 c.loop-i.work

pub try_orders_spec : {M : Type 1} → statement M
try_orders_spec =
    tie.close
    (tie.spec invariant-loop decreases-loop loop-holds (λ c κs. search rules) attempt-requires (λ c. search rules) same_length returns (λ c. search rules) same-length-2 returns-2 (λ c. search rules) same-length-3 returns-3 (λ c. search rules) same-length-4 returns-4 add-i loop-less loop-again same-length-5 returns-5)
