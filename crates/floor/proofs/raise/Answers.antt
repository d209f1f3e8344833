-- `floor::raise` meets its contract. Assumes nothing.
use mathlib.Core.Path.{◌≡◌, sym, ap, ◌∙◌}
use Prim.Native.Nat.{◌+◌, ◌-◌}
use native.Mathlib.Omega.{arith}
use Rattle.floor.specs.declared.Refutation.TheVariants.{Raised}
use Rattle.floor.specs.Place.{Risen, can_rise, lifted}
use Rattle.floor.proofs.Turns.{raised-none, raised-here, raised-more}
use Rattle.floor.proofs.raise.Goals as goal

pub returns-then-can_rise : goal.returns-then-can_rise
returns-then-can_rise c =
    let l = c.loop-k in
    let s = c.args in
    let v : l.k - 1 + 1 ≡ l.k = omega arith in
    let here = sym (ap (can_rise l.work s.nodes s.m) v) ∙ sym c.can_rise.ensures ∙ c.if-can_rise.true in
    let all = sym (raised-here l.work s.nodes s.m l.k (omega arith) here) ∙ l.invariant in
    record {
      words = c.lift.ensures ∙ ap (lifted l.work s.nodes) v ∙ ap (λ (t : Risen). t.words) all;
      says = ap Raised v ∙ ap (λ (t : Risen). t.says) all;
    }

pub loop-k-preserved : goal.loop-k-preserved
loop-k-preserved c =
    let l = c.loop-k in
    let s = c.args in
    let v : l.k - 1 + 1 ≡ l.k = omega arith in
    let on = sym (ap (can_rise l.work s.nodes s.m) v) ∙ sym c.can_rise.ensures ∙ c.if-can_rise.false in
    let more = raised-more l.work s.nodes s.m l.k (omega arith) on in
    rw (c.clear.ensures, v) (sym more ∙ l.invariant)

pub returns : goal.returns
returns c =
    let l = c.loop-k in
    let s = c.args in
    let all = sym (raised-none l.work s.nodes s.m l.k (omega arith)) ∙ l.invariant in
    record { words = ap (λ (t : Risen). t.words) all; says = ap (λ (t : Risen). t.says) all }
