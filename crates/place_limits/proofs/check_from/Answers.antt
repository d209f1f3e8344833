-- `place_limits::check_from` meets its contract: each refusal by the first test that fails. Assumes nothing.
use Rattle.std.proofs.Common.{◌≡◌, sym, ap, ◌∙◌, subst, Bool, ℕ, ◌+◌, ◌*◌, ◌≤◌, length, arith}
use native.Mathlib.Nat.{mul-le-mul_left, mul-le-mul_right}
use Rattle.std.proofs.lemmas.Result.{err_from_is_err_and}
use Rattle.aiger.specs.Circuit.{Circuit}
use Rattle.aiger.specs.Frames.{free_starts, free_bits}
use Rattle.aiger.specs.Load.{Answer}
use Rattle.aiger.specs.Operations.{judge, budget_right}
use Rattle.layout.specs.declared.Layout.{Layout}
use Rattle.limits.specs.Limits.{CountsOf, line_tests}
use Rattle.limits.proofs.Sizes.{length-is}
use Rattle.place_search.specs.Operation.{place_right}
use Rattle.place_limits.proofs.Passing.{bits-counted, line_refused, place-refused, size-refused, output-refused, all_pass}
use Rattle.place_limits.proofs.check_from.Goals as goal

-- how many free bits there are at most
bits-few : (n t : ℕ) → n ≤ 256 → t ≤ 255 → n * (t + 1) ≤ 65536
bits-few n t l k =
    let a : n * (t + 1) ≤ n * 256 = mul-le-mul_left n (omega arith) in
    let b : n * 256 ≤ 256 * 256 = mul-le-mul_right 256 l in
    omega arith

-- the tests 10 and 11 with the test of the budget in place of its result
line : (x : Circuit) (b t d : ℕ) {s : Bool} {w : Answer (Unit {0})} → s ≡ budget_right d → judge (line_tests x b t s) ≡ w
    → judge (line_tests x b t (budget_right d)) ≡ w
line x b t d {w = w} e h = subst (λ (p : Bool). judge (line_tests x b t p) ≡ w) e h

-- the test of the place, of the circuit that is asked
place : (asked x : Circuit) (p : Layout) (inputs t at : ℕ) {s r : Bool} → s ≡ place_right (p.u + inputs * (t + 1)) at → s ≡ r → CountsOf x p
    → length asked.inputs ≡ inputs → free_starts asked ≡ free_starts x → place_right (free_bits asked t) at ≡ r
place asked x p inputs t at h g e i u =
    sym (ap (λ (k : ℕ). place_right k at) (bits-counted asked t _ _ (e.starts ∙ sym u) (sym i))) ∙ sym h ∙ g

pub returns-in_err-check_line : goal.returns-in_err-check_line
returns-in_err-check_line c =
    let a = c.args in
    let p = err_from_is_err_and c.from_residual.result c.from_residual.ensures.1 in
    rw (p.1, p.2)
    (
    λ asked x e i u.
    line_refused asked x a.q.b a.q.t a.q.place a.q.d a.room a.len _
    (line x a.q.b a.q.t a.q.d c.is_budget-budget.ensures (c.in_err-check_line.ensures.tests x e))
    )

pub overflow_mul-inputs : goal.overflow_mul-inputs
overflow_mul-inputs c =
    omega (arith, bits-few c.args.inputs c.args.q.t (omega (arith, c.requires.0.inputs, c.requires.1)) c.in_ok-check_line.ensures.within.bound)

pub overflow_add-layout : goal.overflow_add-layout
overflow_add-layout c =
    omega (
      arith,
      bits-few c.args.inputs c.args.q.t (omega (arith, c.requires.0.inputs, c.requires.1)) c.in_ok-check_line.ensures.within.bound,
      c.requires.0.starts,
      c.requires.0.latches,
    )

pub returns-then-not-is_place : goal.returns-then-not-is_place
returns-then-not-is_place c =
    let a = c.args in
    λ asked x e i u.
    place-refused asked x a.q.b a.q.t a.q.place a.q.d a.room a.len
    (line x a.q.b a.q.t a.q.d c.is_budget-budget.ensures (c.in_ok-check_line.ensures.tests x e))
    (place asked x a.layout a.inputs a.q.t a.q.place c.is_place.ensures c.if-not-is_place.true e i u)

pub returns-in_err-check_size : goal.returns-in_err-check_size
returns-in_err-check_size c =
    let a = c.args in
    let p = err_from_is_err_and c.from_residual-in_err-check_size.result c.from_residual-in_err-check_size.ensures.1 in
    rw (p.1, p.2)
    (
    λ asked x e i u.
    size-refused asked x a.q.b a.q.t a.q.place a.q.d a.room a.len
    (line x a.q.b a.q.t a.q.d c.is_budget-budget.ensures (c.in_ok-check_line.ensures.tests x e))
    (place asked x a.layout a.inputs a.q.t a.q.place c.is_place.ensures c.if-not-is_place.false e i u) _
    (c.in_err-check_size.ensures.tests x e)
    )

pub returns-then-len-witness_length : goal.returns-then-len-witness_length
returns-then-len-witness_length c =
    let a = c.args in
    λ asked x e i u.
    let l = c.witness_length.ensures ∙ length-is e a.q.b a.q.t in
    output-refused asked x a.q.b a.q.t a.q.place a.q.d a.room a.len
    (line x a.q.b a.q.t a.q.d c.is_budget-budget.ensures (c.in_ok-check_line.ensures.tests x e))
    (place asked x a.layout a.inputs a.q.t a.q.place c.is_place.ensures c.if-not-is_place.false e i u)
    (c.in_ok-check_size.ensures.tests x e) (omega (arith, c.if-len-witness_length.true))

pub returns : goal.returns
returns c =
    let a = c.args in
    λ asked x e i u.
    let l = c.witness_length.ensures ∙ length-is e a.q.b a.q.t in
    all_pass asked x a.q.b a.q.t a.q.place a.q.d a.room a.len
    (line x a.q.b a.q.t a.q.d c.is_budget-budget.ensures (c.in_ok-check_line.ensures.tests x e))
    (place asked x a.layout a.inputs a.q.t a.q.place c.is_place.ensures c.if-not-is_place.false e i u)
    (c.in_ok-check_size.ensures.tests x e) (omega (arith, c.if-len-witness_length.false))
