-- `trail::take_back` meets its contract. Assumes nothing.
use Rattle.memory.proofs.Counted.{told-by}
use Rattle.trail.proofs.Turns.{taken_none, taken-stop, taken_more}
use Rattle.trail.specs.Trail.{taken_back}
use Rattle.memory.specs.Record as M
use Prim.Native.Nat.{ℕ, ◌+◌, ◌-◌, ◌/◌, ◌≤◌, ◌<◌}
use lib.ListN as N
use native.Mathlib.Omega.{arith}
use mathlib.Core.Path.{◌≡◌, refl, sym, ap, ◌∙◌, subst}
use Rattle.trail.proofs.take_back.Goals as goal

pub returns-then-field-to : goal.returns-then-field-to
returns-then-field-to c =
    let l = c.loop-t in
    let s = c.args in
    let low = subst (λ (k : ℕ). k ≤ s.to) (c.field.ensures
    ∙ ap (λ (k : ℕ). M.field l.work s.nodes (k / 2) 6) c.field-v.ensures) c.if-field-to.true in
    let here : l.t - 1 + 1 ≡ l.t = omega arith in
    rw here (told-by (sym (taken-stop l.work s.nodes s.to l.t (omega arith) low) ∙ l.invariant))

pub loop-t-preserved : goal.loop-t-preserved
loop-t-preserved c =
    let l = c.loop-t in
    let s = c.args in
    let deep = subst (λ (k : ℕ). s.to < k) (c.field.ensures
    ∙ ap (λ (k : ℕ). M.field l.work s.nodes (k / 2) 6) c.field-v.ensures) c.if-field-to.false in
    let more = taken_more l.work s.nodes s.to l.t (omega arith) deep in
    let u = c.set_field in
    rw (u.ensures, c.field-v.ensures) (sym more ∙ l.invariant)

pub returns : goal.returns
returns c =
    let l = c.loop-t in
    let s = c.args in
    told-by (sym (taken_none l.work s.nodes s.to l.t (omega arith)) ∙ l.invariant)
