-- `sort` meets its contract. The loop's invariant is `Run`. The measure falls since each turn passes a gate, meets one or places one.
-- Assumes nothing.
use Rattle.toposort.proofs.Runs.{Run, Planned, counts, search-push, run-start, run-skip, run_step, run_end, planned-start}
use Rattle.toposort.proofs.Runs.{planned-skip, planned-push, planned-end}
use lib.ListN.{length, drop}
use native.Mathlib.Omega.{arith}
use Prim.Native.Nat.{ℕ, ◌+◌, ◌*◌, ◌-◌, ◌≤◌}
use Rattle.toposort.specs.DepthFirst.{Search, Stays}
use mathlib.Core.Path.{◌≡◌, refl, ap, ◌∙◌}
use Rattle.layout.specs.Order.{placed_from}
use borrow.Author.Rules.{rules}
use Rattle.toposort.proofs.sort.Statement.{statement}
use Rattle.toposort.proofs.sort.Tie as tie

abbrev invariant-loop : tie.invariant-loop-s
invariant-loop lits table base m pos₀ order₀ stack₀ s₀ sp₀ done₀ pos order stack s sp done =
    Run lits m pos order stack s sp done × (length pos ≡ length pos₀) × (length order ≡ length order₀) × (length stack ≡ length stack₀)
    × Planned lits base m table order stack s sp done × (drop m order ≡ drop m order₀)

abbrev decreases-loop : tie.decreases-loop-s
decreases-loop lits table base m pos₀ order₀ stack₀ s₀ sp₀ done₀ pos order stack s sp done = 3 * m - (2 * done + sp + s)

-- ---- places
abbrev loop-of : tie.After-advance invariant-loop decreases-loop → tie.At-loop-s invariant-loop decreases-loop
loop-of c = c.before.before.before.before.before.before

abbrev start_of : tie.At-loop-s invariant-loop decreases-loop → tie.Start invariant-loop decreases-loop
start_of l = l.before.before.before.before.before.before

counted : (l : tie.At-loop-s invariant-loop decreases-loop) → l.loop-s.done + l.loop-s.sp ≤ (start_of l).args.m
counted l = counts _ _ _ _ _ _ _ l.loop-s.invariant.0.search

-- the loop goes on with what `advance` left
goes_on : (c : tie.After-advance invariant-loop decreases-loop) (sp done : ℕ)
    → let L = (loop-of c).loop-s in
    let S = (start_of (loop-of c)).args in
    Search S.lits.now S.m c.advance.new.pos c.advance.new.order c.advance.new.stack sp done
    × Stays L.pos c.advance.new.pos
    → Planned S.lits.now S.base S.m S.table.now c.advance.new.order c.advance.new.stack L.s sp done
    → drop S.m c.advance.new.order ≡ drop S.m L.order
    → invariant-loop S.lits.now S.table.now S.base S.m S.pos.now S.order.now S.stack.now 0 0 0 c.advance.new.pos
    c.advance.new.order c.advance.new.stack L.s sp done
goes_on c sp done n p d =
    let i = (loop-of c).loop-s.invariant in (
      run_step _ _ _ _ _ _ _ _ i.0 _ _ _ _ _ c.loop-s-test.true n,
      c.advance.auto.pos ∙ i.1,
      c.advance.auto.order ∙ i.2,
      c.advance.auto.stack ∙ i.3,
      p,
      d ∙ i.5,
    )

-- ---- needs
loop-holds : tie.Need-loop-s-init invariant-loop decreases-loop
loop-holds c = (
  run-start _ _ c.args.pos.now c.args.order.now c.args.stack.now c.requires.1.0.0 c.requires.1.0.1 c.requires.1.0.2
      c.requires.1.1,
  refl,
  refl,
  refl,
  planned-start c.args.lits.now c.args.base c.args.m c.args.table.now c.args.order.now c.args.stack.now,
  refl,
)

advance-requires : tie.Need-advance-requires invariant-loop decreases-loop
advance-requires c κs =
    ((start_of c.before.before.before.before.before).requires.0, (c.loop-s.invariant.0.search, c.if-sp-gt0.true))

add-sp : tie.Need-overflow_add-sp invariant-loop decreases-loop
add-sp c =
    let l = loop-of c.before.before.before.before.before.before.before in
    omega (arith, counted l, (start_of l).requires.0.small)

loop-less : tie.Need-loop-s-smaller-in-Deeper invariant-loop decreases-loop
loop-less c =
    let n = rw c.in-Deeper.is at c.advance.ensures in
    omega (arith, counts _ _ _ _ _ _ _ n.0.0, c.loop-s-test.true)

loop-again : tie.Need-loop-s-preserved-in-Deeper invariant-loop decreases-loop
loop-again c =
    let l = loop-of c.before.before.before.before.before.before.before in
    let m = (start_of l).args.m in
    let n = rw c.in-Deeper.is at c.advance.ensures in
    goes_on c.before.before.before.before.before.before.before _ _ n.0
    (λ left right o. ap (placed_from left right m l.loop-s.s (m - l.loop-s.s)) (n.1 left right o) ∙ l.loop-s.invariant.4 left right o) n.2

sub-sp : tie.Need-overflow_sub-sp invariant-loop decreases-loop
sub-sp c = omega arith

add_done : tie.Need-overflow_add-done invariant-loop decreases-loop
add_done c =
    let l = loop-of c.before.before.before.before.before.before.before in
    omega (arith, counted l, (start_of l).requires.0.small)

loop-less-2 : tie.Need-loop-s-smaller-in-Placed invariant-loop decreases-loop
loop-less-2 c =
    omega (arith, counted (loop-of c.before.before.before.before.before.before.before), c.if-sp-gt0.true, c.loop-s-test.true)

loop-again-2 : tie.Need-loop-s-preserved-in-Placed invariant-loop decreases-loop
loop-again-2 c =
    let l = loop-of c.before.before.before.before.before.before.before in
    let m = (start_of l).args.m in
    let n = rw c.in-Placed.is at c.advance.ensures in
    goes_on c.before.before.before.before.before.before.before _ _ n.0
    (λ left right o. ap (placed_from left right m l.loop-s.s (m - l.loop-s.s)) (n.1 left right o) ∙ l.loop-s.invariant.4 left right o) n.2

same_length : tie.Need-shape_of-pos-in-Cycle invariant-loop decreases-loop
same_length c =
    c.advance.auto.pos ∙ (loop-of c.before.before.before.before.before.before.before).loop-s.invariant.1

same-length-2 : tie.Need-shape_of-order-in-Cycle invariant-loop decreases-loop
same-length-2 c =
    c.advance.auto.order ∙ (loop-of c.before.before.before.before.before.before.before).loop-s.invariant.2

same-length-3 : tie.Need-shape_of-stack-in-Cycle invariant-loop decreases-loop
same-length-3 c =
    c.advance.auto.stack ∙ (loop-of c.before.before.before.before.before.before.before).loop-s.invariant.3

returns : tie.Need-returns-in-Cycle invariant-loop decreases-loop
returns c =
    let n = rw c.in-Cycle.is at c.advance.ensures in
    (n.0, tt, n.2 ∙ (loop-of c.before.before.before.before.before.before.before).loop-s.invariant.5)

mul-if2 : tie.Need-offset_bounds-pos-s invariant-loop decreases-loop
mul-if2 c = omega arith

slice-read-if2 : tie.Need-bounds-pos-s invariant-loop decreases-loop
slice-read-if2 c = omega (arith, c.loop-s.invariant.0.search.pos-room)

push-requires : tie.Need-push-requires invariant-loop decreases-loop
push-requires c κs = (
  omega (arith, c.requires.0.small),
  c.loop-s-test.true,
  omega (arith, c.if-sp-gt0.false, c.loop-s-test.true),
  c.loop-s.invariant.0.search.pos-room,
  c.loop-s.invariant.0.search.stack-room,
)

add-sp-2 : tie.Need-overflow_add-sp-then-pos-s-eq0 invariant-loop decreases-loop
add-sp-2 c = omega (arith, c.if-sp-gt0.false)

loop-less-3 : tie.Need-loop-s-smaller-then-pos-s-eq0 invariant-loop decreases-loop
loop-less-3 c =
    omega (
      arith,
      counts _ _ _ _ _ _ _ c.loop-s.invariant.0.search,
      c.if-sp-gt0.false,
      c.loop-s-test.true,
    )

loop-again-3 : tie.Need-loop-s-preserved-then-pos-s-eq0 invariant-loop decreases-loop
loop-again-3 c =
    let sm = c.loop-s-test.true in
    let empty = c.if-sp-gt0.false in
    let new = c.if-pos-s-eq0.true in
    let pushed =
    search-push _ _ _ _ _ _ _ c.loop-s.invariant.0.search _ sm new _ _ c.push.ensures.0 c.push.ensures.1
    (λ k e. absurd (omega arith))
    in (
      run_step _ _ _ _ _ _ _ _ c.loop-s.invariant.0 _ _ _ _ _ sm pushed,
      c.push.auto.pos ∙ c.loop-s.invariant.1,
      c.loop-s.invariant.2,
      c.push.auto.stack ∙ c.loop-s.invariant.3,
      planned-push _ _ _ _ _ _ _ _ c.loop-s.invariant.0 _ _ c.loop-s.invariant.4 sm empty new _ c.push.ensures.1,
      c.loop-s.invariant.5,
    )

add-s : tie.Need-overflow_add-s invariant-loop decreases-loop
add-s c = omega arith

loop-less-4 : tie.Need-loop-s-smaller invariant-loop decreases-loop
loop-less-4 c =
    omega (arith, counts _ _ _ _ _ _ _ c.loop-s.invariant.0.search, c.loop-s-test.true)

loop-again-4 : tie.Need-loop-s-preserved invariant-loop decreases-loop
loop-again-4 c = (
  run-skip _ _ _ _ _ _ _ _ c.loop-s.invariant.0 c.loop-s-test.true c.if-sp-gt0.false c.if-pos-s-eq0.false,
  c.loop-s.invariant.1,
  c.loop-s.invariant.2,
  c.loop-s.invariant.3,
  planned-skip _ _ _ _ _ _ _ _ c.loop-s.invariant.0 _ _ c.loop-s.invariant.4 c.loop-s-test.true
      c.if-sp-gt0.false c.if-pos-s-eq0.false,
  c.loop-s.invariant.5,
)

same-length-4 : tie.Need-shape_of-pos invariant-loop decreases-loop
same-length-4 c = c.loop-s.invariant.1

same-length-5 : tie.Need-shape_of-order invariant-loop decreases-loop
same-length-5 c = c.loop-s.invariant.2

same-length-6 : tie.Need-shape_of-stack invariant-loop decreases-loop
same-length-6 c = c.loop-s.invariant.3

returns-2 : tie.Need-returns invariant-loop decreases-loop
returns-2 c = (
  run_end _ _ _ _ _ _ _ _ c.loop-s.invariant.0 c.loop-s-test.false,
  planned-end _ _ _ _ _ _ _ _ c.loop-s.invariant.0 _ _ c.loop-s.invariant.4 c.loop-s-test.false,
  c.loop-s.invariant.5,
)

pub sort_spec : {M : Type 1} → statement M
sort_spec =
    tie.close
    (tie.spec invariant-loop decreases-loop loop-holds advance-requires (λ c. search rules) add-sp loop-less loop-again (λ c. search rules) sub-sp add_done loop-less-2 loop-again-2 (λ c. search rules) same_length same-length-2 same-length-3 returns mul-if2 slice-read-if2 push-requires add-sp-2 loop-less-3 loop-again-3 add-s loop-less-4 loop-again-4 same-length-4 same-length-5 same-length-6 returns-2)
