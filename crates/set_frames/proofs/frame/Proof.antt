-- `set_frames::frame` meets its contract. Assumes nothing.
use Rattle.std.proofs.lemmas.Bool.{not_from_true}
use Rattle.std.proofs.lemmas.Bool.{not_from_false}
use mathlib.Core.Path.{◌≡◌, sym, ap, ◌∙◌}
use native.Mathlib.Omega.{arith}
use borrow.Author.Rules.{rules}
use lib.ListN.{length}
use Rattle.state_sets.specs.Sets.{sets_of, left}
use Rattle.state_sets.proofs.Follow.{refused, granted}
use Rattle.set_walk.specs.declared.Start.{Start}
use Rattle.set_walk.specs.declared.Start.TheVariants as starts
use Rattle.set_frames.specs.Frames.{setup_in, seen}
use Rattle.set_frames.proofs.Follow.{frame-out, frame-never, frame-early, frame-sought, stands-made}
use Rattle.set_frames.proofs.frame.Statement.{statement}
use Rattle.set_frames.proofs.frame.Tie as tie

advance-requires : tie.Need-advance-requires
advance-requires c κs = (c.requires.1.0, c.requires.1.1.1)

same_length : tie.Need-shape_of-w-then-not-advance
same_length c = c.advance.auto.w

same-length-2 : tie.Need-shape_of-table-then-not-advance
same-length-2 c = c.advance.auto.table

returns : tie.Need-returns-then-not-advance
returns c =
    let a = c.args in
    let y = sets_of c.advance.new.w c.advance.new.table in
    frame-out (setup_in a.s a.frees.now a.base.now) a.turn.first a.turn.t a.bits.now (sets_of a.w.now a.table.now) y
    (ap (left c.advance.new.w c.advance.new.table) (sym (refused c.advance.result (not_from_false _ c.if-not-advance.true))) ∙ c.advance.ensures)

slice-read-if2 : tie.Need-bounds-table-t
slice-read-if2 c = omega (arith, c.requires.1.0.room, c.requires.1.1.1, c.advance.auto.table)

same-length-3 : tie.Need-shape_of-w-then-table-t-eq0
same-length-3 c = c.advance.auto.w

same-length-4 : tie.Need-shape_of-table-then-table-t-eq0
same-length-4 c = c.advance.auto.table

returns-2 : tie.Need-returns-then-table-t-eq0
returns-2 c =
    let a = c.args in
    let y = sets_of c.advance.new.w c.advance.new.table in
    frame-never (setup_in a.s a.frees.now a.base.now) a.turn.first a.turn.t a.bits.now (sets_of a.w.now a.table.now) y
    (ap (left c.advance.new.w c.advance.new.table) (sym (granted c.advance.result (not_from_true _ c.if-not-advance.false))) ∙ c.advance.ensures)
    c.if-table-t-eq0.true

same-length-5 : tie.Need-shape_of-w-then-t-turn
same-length-5 c = c.advance.auto.w

same-length-6 : tie.Need-shape_of-table-then-t-turn
same-length-6 c = c.advance.auto.table

returns-3 : tie.Need-returns-then-t-turn
returns-3 c =
    let a = c.args in
    let y = sets_of c.advance.new.w c.advance.new.table in
    frame-early (setup_in a.s a.frees.now a.base.now) a.turn.first a.turn.t a.bits.now (sets_of a.w.now a.table.now) y
    (ap (left c.advance.new.w c.advance.new.table) (sym (granted c.advance.result (not_from_true _ c.if-not-advance.false))) ∙ c.advance.ensures)
    c.if-table-t-eq0.false (omega (arith, c.if-t-turn.true))

start-again-requires : tie.Need-start_again-requires
start-again-requires c κs =
    let a = c.args in
    let y = sets_of c.advance.new.w c.advance.new.table in
    let p = c.requires in
    let e : length c.advance.new.table ≡ length a.table.now = c.advance.auto.table in (
      stands-made a.s a.frees.now a.base.now p.1.0.rows a.turn.t (sets_of a.w.now a.table.now) y p.1.1.1 p.0
          (ap (left c.advance.new.w c.advance.new.table) (sym (granted c.advance.result (not_from_true _ c.if-not-advance.false))) ∙ c.advance.ensures),
      (rw e p.1.0, p.1.1),
    )

same-length-7 : tie.Need-shape_of-w-in-Least
same-length-7 c = c.start_again.auto.w ∙ c.advance.auto.w

same-length-8 : tie.Need-shape_of-table-in-Least
same-length-8 c = c.start_again.auto.table ∙ c.advance.auto.table

same-length-9 : tie.Need-shape_of-bits-in-Least
same-length-9 c = c.start_again.auto.bits

returns-4 : tie.Need-returns-in-Least
returns-4 c =
    let a = c.args in
    let y = sets_of c.advance.new.w c.advance.new.table in
    let x = sets_of c.start_again.new.w c.start_again.new.table in
    let b = c.start_again.new.bits in
    frame-sought (setup_in a.s a.frees.now a.base.now) a.turn.first a.turn.t a.bits.now (sets_of a.w.now a.table.now) y
    (ap (left c.advance.new.w c.advance.new.table) (sym (granted c.advance.result (not_from_true _ c.if-not-advance.false))) ∙ c.advance.ensures)
    c.if-table-t-eq0.false (omega (arith, c.if-t-turn.false)) x starts.Least b
    (ap (λ (r : Start). seen x r b) (sym c.in-Least.is) ∙ c.start_again.ensures)

same-length-10 : tie.Need-shape_of-w-in-Nowhere
same-length-10 c = c.start_again.auto.w ∙ c.advance.auto.w

same-length-11 : tie.Need-shape_of-table-in-Nowhere
same-length-11 c = c.start_again.auto.table ∙ c.advance.auto.table

same-length-12 : tie.Need-shape_of-bits-in-Nowhere
same-length-12 c = c.start_again.auto.bits

returns-5 : tie.Need-returns-in-Nowhere
returns-5 c =
    let a = c.args in
    let y = sets_of c.advance.new.w c.advance.new.table in
    let x = sets_of c.start_again.new.w c.start_again.new.table in
    let b = c.start_again.new.bits in
    frame-sought (setup_in a.s a.frees.now a.base.now) a.turn.first a.turn.t a.bits.now (sets_of a.w.now a.table.now) y
    (ap (left c.advance.new.w c.advance.new.table) (sym (granted c.advance.result (not_from_true _ c.if-not-advance.false))) ∙ c.advance.ensures)
    c.if-table-t-eq0.false (omega (arith, c.if-t-turn.false)) x starts.Nowhere b
    (ap (λ (r : Start). seen x r b) (sym c.in-Nowhere.is) ∙ c.start_again.ensures)

same-length-13 : tie.Need-shape_of-w-in-Full
same-length-13 c = c.start_again.auto.w ∙ c.advance.auto.w

same-length-14 : tie.Need-shape_of-table-in-Full
same-length-14 c = c.start_again.auto.table ∙ c.advance.auto.table

same-length-15 : tie.Need-shape_of-bits-in-Full
same-length-15 c = c.start_again.auto.bits

returns-6 : tie.Need-returns-in-Full
returns-6 c =
    let a = c.args in
    let y = sets_of c.advance.new.w c.advance.new.table in
    let x = sets_of c.start_again.new.w c.start_again.new.table in
    let b = c.start_again.new.bits in
    frame-sought (setup_in a.s a.frees.now a.base.now) a.turn.first a.turn.t a.bits.now (sets_of a.w.now a.table.now) y
    (ap (left c.advance.new.w c.advance.new.table) (sym (granted c.advance.result (not_from_true _ c.if-not-advance.false))) ∙ c.advance.ensures)
    c.if-table-t-eq0.false (omega (arith, c.if-t-turn.false)) x starts.Full b
    (ap (λ (r : Start). seen x r b) (sym c.in-Full.is) ∙ c.start_again.ensures)

pub frame_spec : {M : Type 1} → statement M
frame_spec =
    tie.close
    (tie.spec advance-requires same_length same-length-2 returns (λ c. search rules) slice-read-if2 same-length-3 same-length-4 returns-2 same-length-5 same-length-6 returns-3 start-again-requires (λ c. search rules) (λ c. search rules) (λ c. search rules) same-length-7 same-length-8 same-length-9 returns-4 same-length-10 same-length-11 same-length-12 returns-5 same-length-13 same-length-14 same-length-15 returns-6)
