-- `pinned_search_from::search_held` meets its contract. Assumes nothing.
use Rattle.std.proofs.Common.{◌≡◌, sym, ap, ◌∙◌, List, ℕ, length, arith}
use Rattle.aiger.specs.Memory.{Holds}
use Rattle.aiger.specs.Operations.{Operated}
use Rattle.layout.specs.Words.{circuit_in}
use Rattle.layout.specs.Layout.{LayoutOf}
use Rattle.layout.specs.declared.Layout.{Layout}
use Rattle.limits.proofs.Sizes.{counts_of, limited}
use Rattle.pins.specs.Pins.{pins_of, pinned, free_inputs}
use Rattle.pins.proofs.Questions.{free-inputs, free-starts}
use Rattle.expansion.proofs.Rows.{free-most}
use Rattle.pinned_search_from.proofs.Answers.{refused-with, answered}
use Rattle.pinned_search_from.proofs.search_held.Goals as goal

-- how many inputs are free, by the layout
inputs-free : {m : List ℕ} {p : Layout} (q : ℕ → ℕ) → Holds m (circuit_in m) → LayoutOf m p → {n : ℕ} → n ≡ free_inputs q p.i
    → length (pinned (circuit_in m) q).inputs ≡ n
inputs-free {m} q h a e = free-inputs (circuit_in m) q ∙ ap (free_inputs q) (sym (counts_of h a).inputs) ∙ sym e

pub returns-in_default : goal.returns-in_default
returns-in_default c = Operated.no_circuit (rw c.in_default.is at c.test.ensures)

pub free_inputs-inputs-requires : goal.free_inputs-inputs-requires
free_inputs-inputs-requires c =
    let h = rw c.in-Some.is at c.test.ensures in (c.requires, (limited h.1 h.0).inputs)

pub check_from-requires : goal.check_from-requires
check_from-requires c =
    let h = rw c.in-Some.is at c.test.ensures in
    let s = c.args in
    (limited h.1 h.0, omega (arith, c.free_inputs-inputs.ensures, free-most (pins_of s.pins.now s.user) c.in-Some.layout.i))

pub returns-in-Err : goal.returns-in-Err
returns-in-Err c =
    let h = rw c.in-Some.is at c.test.ensures in
    let s = c.args in
    let q = pins_of s.pins.now s.user in
    rw c.number.ensures
    (refused-with q h.1
    (rw c.in-Err.is at
    (c.check_from.ensures (pinned (circuit_in s.m.now) q) (circuit_in s.m.now) (counts_of h.1 h.0) (inputs-free q h.1 h.0 c.free_inputs-inputs.ensures) (free-starts (circuit_in s.m.now) q))))

pub search_known-requires : goal.search_known-requires
search_known-requires c =
    let h = rw c.in-Some.is at c.test.ensures in
    let s = c.args in
    let q = pins_of s.pins.now s.user in
    record {
      held = h.1;
      layout_of = h.0;
      user-of = c.requires;
      tests =
          rw c.in_default-check_from.is at
          (c.check_from.ensures (pinned (circuit_in s.m.now) q) (circuit_in s.m.now) (counts_of h.1 h.0) (inputs-free q h.1 h.0 c.free_inputs-inputs.ensures) (free-starts (circuit_in s.m.now) q));
    }

pub shape_of-work : goal.shape_of-work
shape_of-work c = c.search_known.auto.work

pub shape_of-out : goal.shape_of-out
shape_of-out c = c.search_known.auto.out

pub returns : goal.returns
returns c =
    let h = rw c.in-Some.is at c.test.ensures in
    let s = c.args in
    let q = pins_of s.pins.now s.user in
    answered q h.1
    (rw c.in_default-check_from.is at
    (c.check_from.ensures (pinned (circuit_in s.m.now) q) (circuit_in s.m.now) (counts_of h.1 h.0) (inputs-free q h.1 h.0 c.free_inputs-inputs.ensures) (free-starts (circuit_in s.m.now) q)))
    c.search_known.ensures
