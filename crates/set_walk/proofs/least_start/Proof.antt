-- `set_walk::least_start` meets its contract. Assumes nothing.
use mathlib.Core.Path.{◌≡◌, refl, sym, ap, ◌∙◌}
use Prim.Native.Nat.{ℕ, suc, ◌+◌, ◌≤◌, ◌<◌}
use native.Mathlib.Omega.{arith}
use borrow.Author.Rules.{rules}
use lib.ListN.{length, get_or}
use Rattle.diagrams.specs.States.{state_of, left, Made}
use Rattle.set_walk.specs.Start.{Picked, leaves}
use Rattle.set_walk.proofs.Picks.{seek-full, seek-none, seek-out, seek-least, seek-unknown}
use Rattle.set_walk.proofs.Starts.{seek-legible}
use Rattle.set_walk.proofs.least_start.Statement.{statement}
use Rattle.set_walk.proofs.least_start.Tie as tie

starts-in-requires : tie.Need-starts_in-requires
starts-in-requires c κs = (c.requires.1.1.0, c.requires.1.1.1)

same_length : tie.Need-shape_of-w-in_default
same_length c = c.starts_in.auto.w

returns : tie.Need-returns-in_default
returns c =
    let a = c.args in
    seek-full a.s.vars a.s.rows a.t a.frees.now a.table.now a.bits.now (state_of a.w.now) (state_of c.starts_in.new.w)
    (ap (left c.starts_in.new.w) (sym c.in_default.is) ∙ c.starts_in.ensures)

same-length-2 : tie.Need-shape_of-w-then-e-eq0
same-length-2 c = c.starts_in.auto.w

returns-2 : tie.Need-returns-then-e-eq0
returns-2 c =
    let a = c.args in
    seek-none a.s.vars a.s.rows a.t a.frees.now a.table.now a.bits.now (state_of a.w.now) (state_of c.starts_in.new.w) c.in-Ok.e
    (ap (left c.starts_in.new.w) (sym c.in-Ok.is) ∙ c.starts_in.ensures) c.if-e-eq0.true

same-length-3 : tie.Need-shape_of-w-in_default-pick_all
same-length-3 c = c.pick_all.auto.w ∙ c.starts_in.auto.w

same-length-4 : tie.Need-shape_of-bits-in_default-pick_all
same-length-4 c = c.pick_all.auto.bits

returns-3 : tie.Need-returns-in_default-pick_all
returns-3 c =
    let a = c.args in
    seek-out a.s.vars a.s.rows a.t a.frees.now a.table.now a.bits.now (state_of a.w.now) (state_of c.starts_in.new.w) c.in-Ok.e
    (ap (left c.starts_in.new.w) (sym c.in-Ok.is) ∙ c.starts_in.ensures) c.if-e-eq0.false (state_of c.pick_all.new.w) c.pick_all.new.bits
    (ap (λ (r : Made). leaves c.pick_all.new.w r c.pick_all.new.bits) (sym c.in_default-pick_all.is) ∙ c.pick_all.ensures)

shared-slice-read-value-of : tie.Need-bounds-table-t
shared-slice-read-value-of c = omega (arith, c.requires.1.1)

value-of-requires : tie.Need-value_of-requires
value-of-requires c κs =
    let a = c.args in
    let h =
    seek-legible a.s.vars a.s.rows a.t a.frees.now a.table.now a.bits.now c.requires.0.0 (state_of a.w.now) c.requires.0.1
    c.requires.1.0 (state_of c.starts_in.new.w) c.in-Ok.e (ap (left c.starts_in.new.w) (sym c.in-Ok.is) ∙ c.starts_in.ensures) (state_of c.pick_all.new.w)
    (ap (λ (p : Picked). p.state) c.pick_all.ensures) in
    (h.0, h.1 a.t)

same-length-5 : tie.Need-shape_of-w-then-value_of
same-length-5 c = c.pick_all.auto.w ∙ c.starts_in.auto.w

same-length-6 : tie.Need-shape_of-bits-then-value_of
same-length-6 c = c.pick_all.auto.bits

returns-4 : tie.Need-returns-then-value_of
returns-4 c =
    let a = c.args in
    seek-least a.s.vars a.s.rows a.t a.frees.now a.table.now a.bits.now (state_of a.w.now) (state_of c.starts_in.new.w) c.in-Ok.e
    (ap (left c.starts_in.new.w) (sym c.in-Ok.is) ∙ c.starts_in.ensures) c.if-e-eq0.false (state_of c.pick_all.new.w) c.in-Ok-pick_all.field-0 c.pick_all.new.bits
    (ap (λ (r : Made). leaves c.pick_all.new.w r c.pick_all.new.bits) (sym c.in-Ok-pick_all.is) ∙ c.pick_all.ensures) (sym c.value_of.ensures ∙ c.if-value_of.true)

same-length-7 : tie.Need-shape_of-w
same-length-7 c = c.pick_all.auto.w ∙ c.starts_in.auto.w

same-length-8 : tie.Need-shape_of-bits
same-length-8 c = c.pick_all.auto.bits

returns-5 : tie.Need-returns
returns-5 c =
    let a = c.args in
    seek-unknown a.s.vars a.s.rows a.t a.frees.now a.table.now a.bits.now (state_of a.w.now) (state_of c.starts_in.new.w) c.in-Ok.e
    (ap (left c.starts_in.new.w) (sym c.in-Ok.is) ∙ c.starts_in.ensures) c.if-e-eq0.false (state_of c.pick_all.new.w) c.in-Ok-pick_all.field-0 c.pick_all.new.bits
    (ap (λ (r : Made). leaves c.pick_all.new.w r c.pick_all.new.bits) (sym c.in-Ok-pick_all.is) ∙ c.pick_all.ensures) (sym c.value_of.ensures ∙ c.if-value_of.false)

pub least_start_spec : {M : Type 1} → statement M
least_start_spec =
    tie.close
    (tie.spec starts-in-requires (λ c. search rules) (λ c. search rules) same_length returns same-length-2 returns-2 (λ c κs. search rules) (λ c. search rules) (λ c. search rules) same-length-3 same-length-4 returns-3 (λ c. search rules) shared-slice-read-value-of value-of-requires same-length-5 same-length-6 returns-4 same-length-7 same-length-8 returns-5)
