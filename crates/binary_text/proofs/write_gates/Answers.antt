-- `binary_text::write_gates` meets its contract. Assumes nothing.
use mathlib.Core.Path.{◌≡◌}
use Prim.Native.Nat.{ℕ, ◌+◌, ◌-◌, ◌*◌, ◌≤◌, ◌<◌}
use native.Mathlib.Omega.{arith}
use Rattle.layout.specs.Words.{word}
use Rattle.renumbered.specs.Renumbered.{sorted, gate_text}
use Rattle.output.proofs.Output.{Rest, rest-start, rest-room, rest_more, rest_end}
use Rattle.binary_text.specs.Lines.{gate_under_at, gate_bytes}
use Rattle.binary_text.proofs.Steps.{gates-from, gates-end, operand-within}
use Rattle.binary_text.proofs.write_gates.Goals as goal

pub loop-j-init : goal.loop-j-init
loop-j-init c =
    let e : c.args.count - 0 ≡ c.args.count = omega arith in
    rw e (rest-start c.args.out.now c.args.at (gate_bytes c.args.names.now c.args.m.now c.args.first c.args.order.now 0 c.args.count))

pub bounds-order-j : goal.bounds-order-j
bounds-order-j c = omega (arith, c.requires.0.room, c.loop-j-test.true)

pub overflow_mul-p : goal.overflow_mul-p
overflow_mul-p c = omega (arith, c.requires.0.inside, c.requires.0.places c.loop-j.j c.loop-j-test.true)

pub overflow_add-p : goal.overflow_add-p
overflow_add-p c = omega (arith, c.requires.0.inside, c.requires.0.places c.loop-j.j c.loop-j-test.true)

pub bounds-m-p : goal.bounds-m-p
bounds-m-p c = omega (arith, c.requires.0.inside, c.requires.0.places c.loop-j.j c.loop-j-test.true)

pub rename_word-lit-requires : goal.rename_word-lit-requires
rename_word-lit-requires c =
    c.requires.0.within (3 * word c.args.order.now c.loop-j.j) (omega (arith, c.requires.0.places c.loop-j.j c.loop-j-test.true))

pub overflow_add-p-in-loop-j : goal.overflow_add-p-in-loop-j
overflow_add-p-in-loop-j c = omega (arith, c.requires.0.inside, c.requires.0.places c.loop-j.j c.loop-j-test.true)

pub bounds-m-p-in-loop-j : goal.bounds-m-p-in-loop-j
bounds-m-p-in-loop-j c = omega (arith, c.requires.0.inside, c.requires.0.places c.loop-j.j c.loop-j-test.true)

pub rename_word-left-requires : goal.rename_word-left-requires
rename_word-left-requires c = operand-within c.requires.0 c.loop-j.j c.loop-j-test.true 1 (omega arith)

pub overflow_add-p-in-loop-j-2 : goal.overflow_add-p-in-loop-j-2
overflow_add-p-in-loop-j-2 c = omega (arith, c.requires.0.inside, c.requires.0.places c.loop-j.j c.loop-j-test.true)

pub bounds-m-p-in-loop-j-2 : goal.bounds-m-p-in-loop-j-2
bounds-m-p-in-loop-j-2 c = omega (arith, c.requires.0.inside, c.requires.0.places c.loop-j.j c.loop-j-test.true)

pub rename_word-right-requires : goal.rename_word-right-requires
rename_word-right-requires c = operand-within c.requires.0 c.loop-j.j c.loop-j-test.true 2 (omega arith)

pub write_gate-end-requires : goal.write_gate-end-requires
write_gate-end-requires c =
    let m = c.args.m.now in
    let names = c.args.names.now in
    let order = c.args.order.now in
    let j = c.loop-j.j in
    let t = c.loop-j-test.true in
    let e₀ = c.rename_word-lit.ensures.0 in
    let e₁ = c.rename_word-left.ensures.0 in
    let e₂ = c.rename_word-right.ensures.0 in (
      omega (arith, e₀, e₁, c.requires.0.left j t),
      omega (arith, e₀, e₂, c.requires.0.right j t),
      rw (e₀, e₁, e₂)
          (rest-room (gate_text (sorted (gate_under_at names m (c.args.first + 3 * word order j))))
          (gate_bytes names m c.args.first order (j + 1) (c.args.count - (j + 1))) c.requires.1
          (rw (gates-from names m c.args.first order j c.args.count t) at c.loop-j.invariant)),
    )

pub loop-j-preserved : goal.loop-j-preserved
loop-j-preserved c =
    let m = c.args.m.now in
    let names = c.args.names.now in
    let order = c.args.order.now in
    let j = c.loop-j.j in
    let t = c.loop-j-test.true in
    rest_more (gate_text (sorted (gate_under_at names m (c.args.first + 3 * word order j))))
    (gate_bytes names m c.args.first order (j + 1) (c.args.count - (j + 1))) c.requires.1
    (rw (gates-from names m c.args.first order j c.args.count t) at c.loop-j.invariant)
    (rw (c.rename_word-lit.ensures.0, c.rename_word-left.ensures.0, c.rename_word-right.ensures.0) at c.write_gate-end.ensures)

pub returns : goal.returns
returns c =
    let a = c.args in
    rest_end (rw (gates-end a.names.now a.m.now a.first a.order.now c.loop-j.j a.count c.loop-j-test.false) at c.loop-j.invariant)
