-- `gate_order::take_gates` meets its contract: each turn of its loop takes one gate. Assumes nothing.
use mathlib.Core.Path.{◌≡◌, refl, sym, ◌∙◌}
use Prim.Native.Nat.{◌+◌, ◌-◌, ◌≤◌, ◌<◌}
use native.Mathlib.Omega.{arith}
use lib.ListN.{length, get_or, length-set}
use Rattle.gate_order.specs.Waiting.{Waiting}
use Rattle.gate_order.proofs.Taking.{Taking, start, more, stopped, end, found-next, found_none, remarked, stale, gates-set}
use Rattle.gate_order.proofs.take_gates.Statement.{statement}
use Rattle.gate_order.proofs.take_gates.Tie as tie

abbrev invariant-loop : tie.invariant-loop-n
invariant-loop vars ops k table₀ order₀ links waiting₀ marks₀ n₀ next₀ table order waiting marks n next =
    Taking vars ops k table₀ order₀ table order waiting marks n next × (length order ≡ length order₀) × (length marks ≡ 48)

abbrev decreases-loop : tie.decreases-loop-n
decreases-loop vars ops k table₀ order₀ links waiting₀ marks₀ n₀ next₀ table order waiting marks n next = length vars - n

-- the function's entry
abbrev S : tie.At-loop-n invariant-loop decreases-loop → tie.Start invariant-loop decreases-loop
S l = l.before.before.before.before.before.before.before.before.before.before.before.before.before

-- the place after the variable of the gate is read: the loop, the gate, and that it is one
abbrev L : tie.After-shared_slice_known-in-loop-n-1 invariant-loop decreases-loop → tie.At-loop-n invariant-loop decreases-loop
L q = q.before.before.before.before.before.before

abbrev F : tie.After-shared_slice_known-in-loop-n-1 invariant-loop decreases-loop → tie.After-first_ready-i invariant-loop decreases-loop
F q = q.before.before.before

gate : (q : tie.After-shared_slice_known-in-loop-n-1 invariant-loop decreases-loop) → (F q).first_ready-i.result < length (S (L q)).args.vars.now
gate q = q.if-vars-i.false

-- its variable has a word in the table
known : (q : tie.After-shared_slice_known-in-loop-n-1 invariant-loop decreases-loop) → get_or (S (L q)).args.vars.now (F q).first_ready-i.result 0 < length
    (L q).loop-n.table
known q = (L q).loop-n.invariant.0.gates.known (F q).first_ready-i.result (gate q)

variable : (q : tie.After-shared_slice_known-in-loop-n-1 invariant-loop decreases-loop) → get_or (S (L q)).args.vars.now (F q).first_ready-i.result 0 < 4097
variable q = omega (arith, known q, (L q).loop-n.invariant.0.same, (S (L q)).requires.1.0.0)

-- the counts with the marks that the search left
state : (q : tie.After-shared_slice_known-in-loop-n-1 invariant-loop decreases-loop)
    → Waiting (S (L q)).args.vars.now (S (L q)).args.ops.now (L q).loop-n.table (L q).loop-n.waiting (F q).first_ready-i.new.marks
state q = remarked (L q).loop-n.invariant.0.state (F q).first_ready-i.auto.marks (F q).first_ready-i.ensures.1

slice-aggregate-start-waiting : tie.Need-slice_bounds-start_waiting-end invariant-loop decreases-loop
slice-aggregate-start-waiting c = refl

start-waiting-requires : tie.Need-start_waiting-requires invariant-loop decreases-loop
start-waiting-requires c κs = let p = c.requires in
    ((p.0.0, p.1.1.2), omega (arith, p.0.0.few))

loop-holds : tie.Need-loop-n-init invariant-loop decreases-loop
loop-holds c = (
  start _ _ _ _ _ _ _ c.requires.0.0 c.start_waiting.ensures,
  refl,
  c.start_waiting.auto.marks,
)

slice-aggregate-first-ready : tie.Need-slice_bounds-first_ready-end invariant-loop decreases-loop
slice-aggregate-first-ready c = sym c.loop-n.invariant.2

first-ready-requires : tie.Need-first_ready-i-requires invariant-loop decreases-loop
first-ready-requires c κs =
    let w = c.loop-n.invariant.0.state in
    (omega (arith, w.long, w.blocks), omega (arith, w.long, c.loop-n.invariant.0.gates.few), w.marked)

same_length : tie.Need-shape_of-table-then-vars-i invariant-loop decreases-loop
same_length c = c.loop-n.invariant.0.same

same-length-2 : tie.Need-shape_of-order-then-vars-i invariant-loop decreases-loop
same-length-2 c = c.loop-n.invariant.1

same-length-3 : tie.Need-shape_of-waiting-then-vars-i invariant-loop decreases-loop
same-length-3 c = c.loop-n.invariant.0.state.long
    ∙ sym (S c.before.before.before.before.before).requires.1.1.2

returns : tie.Need-returns-then-vars-i invariant-loop decreases-loop
returns c =
    stopped c.loop-n.invariant.0 (found_none c.loop-n.invariant.0.state c.first_ready-i.ensures.0 c.if-vars-i.true)

mul-v : tie.Need-offset_bounds-vars-i invariant-loop decreases-loop
mul-v c = omega (arith, c.if-vars-i.false, c.loop-n.invariant.0.gates.few)

shared-slice-read-v : tie.Need-bounds-vars-i invariant-loop decreases-loop
shared-slice-read-v c = omega (arith, c.if-vars-i.false)

cast-v : tie.Need-overflow_cast-v invariant-loop decreases-loop
cast-v c = omega (arith, variable c)

cast-order : tie.Need-overflow_cast-order invariant-loop decreases-loop
cast-order c = omega (arith, gate c, (L c).loop-n.invariant.0.gates.few)

mul-order : tie.Need-offset_bounds-order-n invariant-loop decreases-loop
mul-order c = omega (arith, c.loop-n-test.true, (L c).loop-n.invariant.0.gates.few)

slice-write-order : tie.Need-bounds-order-n invariant-loop decreases-loop
slice-write-order c = omega (
  arith,
  c.loop-n-test.true,
  (S (L c)).requires.1.0.2,
  (L
      c).loop-n.invariant.1,
)

mul-table : tie.Need-offset_bounds-table-v invariant-loop decreases-loop
mul-table c = omega (arith, variable c)

slice-write-table : tie.Need-bounds-table-v invariant-loop decreases-loop
slice-write-table c = omega (arith, known c)

slice-aggregate-refresh : tie.Need-slice_bounds-refresh-end invariant-loop decreases-loop
slice-aggregate-refresh c = sym (c.first_ready-i.auto.marks
    ∙ c.loop-n.invariant.2)

refresh-requires : tie.Need-refresh-requires invariant-loop decreases-loop
refresh-requires c κs =
    let i = (L c.before.before).loop-n.invariant.0 in
    ((gates-set i.gates _ _, i.state.long), (gate c.before.before, (state c.before.before).blocks))

slice-aggregate-refresh-users : tie.Need-slice_bounds-refresh_users-end invariant-loop decreases-loop
slice-aggregate-refresh-users c = sym (c.refresh.auto.marks
    ∙ c.first_ready-i.auto.marks
    ∙ c.loop-n.invariant.2)

refresh-users-requires : tie.Need-refresh_users-requires invariant-loop decreases-loop
refresh-users-requires c κs =
    let s = S (L c.before.before.before.before.before.before.before.before) in
    let g = (L c.before.before.before.before.before.before.before.before).loop-n.invariant.0.gates in (
      (gates-set g _ _, s.requires.0.1),
      (
        variable c.before.before.before.before.before.before.before.before,
        s.requires.1.0.1,
        stale (state c.before.before.before.before.before.before.before.before) g s.requires.0.2 _ _ (gate c.before.before.before.before.before.before.before.before)
            c.refresh.ensures,
      ),
    )

add-n : tie.Need-overflow_add-n invariant-loop decreases-loop
add-n c = omega (
  arith,
  c.loop-n-test.true,
  (L
      c.before.before.before.before.before.before.before.before.before.before.before.before).loop-n.invariant.0.gates.few,
)

add-next : tie.Need-overflow_add-next invariant-loop decreases-loop
add-next c = omega (
  arith,
  c.loop-n-test.true,
  (L
      c.before.before.before.before.before.before.before.before.before.before.before.before).loop-n.invariant.0.number,
  (S (L c.before.before.before.before.before.before.before.before.before.before.before.before)
      ).requires.1.1.0,
)

loop-less : tie.Need-loop-n-smaller invariant-loop decreases-loop
loop-less c = omega (
  arith,
  c.loop-n-test.true,
)

loop-again : tie.Need-loop-n-preserved invariant-loop decreases-loop
loop-again c =
    let l = L c.before.before.before.before.before.before.before.before.before.before.before.before in (
      more l.loop-n.invariant.0 _ c.loop-n-test.true (gate c.before.before.before.before.before.before.before.before.before.before.before.before) (omega (arith, c.loop-n-test.true, (S l).requires.1.0.2))
          (found-next l.loop-n.invariant.0.state (F c.before.before.before.before.before.before.before.before.before.before.before.before).first_ready-i.ensures.0 (gate c.before.before.before.before.before.before.before.before.before.before.before.before)) c.refresh_users.ensures,
      length-set l.loop-n.order l.loop-n.n (F c.before.before.before.before.before.before.before.before.before.before.before.before).first_ready-i.result ∙ l.loop-n.invariant.1,
      c.refresh_users.auto.marks
          ∙ c.refresh.auto.marks
          ∙ (F c.before.before.before.before.before.before.before.before.before.before.before.before).first_ready-i.auto.marks ∙ l.loop-n.invariant.2,
    )

same-length-4 : tie.Need-shape_of-table invariant-loop decreases-loop
same-length-4 c = c.loop-n.invariant.0.same

same-length-5 : tie.Need-shape_of-order invariant-loop decreases-loop
same-length-5 c = c.loop-n.invariant.1

same-length-6 : tie.Need-shape_of-waiting invariant-loop decreases-loop
same-length-6 c = c.loop-n.invariant.0.state.long ∙ sym (S c.before).requires.1.1.2

returns-2 : tie.Need-returns invariant-loop decreases-loop
returns-2 c = end c.loop-n.invariant.0 c.loop-n-test.false

pub take_gates_spec : {M : Type 1} → statement M
take_gates_spec =
    tie.close
    (tie.spec invariant-loop decreases-loop slice-aggregate-start-waiting start-waiting-requires loop-holds slice-aggregate-first-ready first-ready-requires same_length same-length-2 same-length-3 returns mul-v shared-slice-read-v cast-v cast-order mul-order slice-write-order mul-table slice-write-table slice-aggregate-refresh refresh-requires slice-aggregate-refresh-users refresh-users-requires add-n add-next loop-less loop-again same-length-4 same-length-5 same-length-6 returns-2)
