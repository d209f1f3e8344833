-- `set_frames::start_again` meets its contract. Assumes nothing.
use mathlib.Core.Path.{◌≡◌, refl, sym, ap, ◌∙◌}
use borrow.Author.Rules.{rules}
use lib.ListN.{length}
use Rattle.diagrams.specs.States.{state_of}
use Rattle.collection.specs.Collecting as C
use Rattle.state_sets.specs.Sets.{sets_of}
use Rattle.set_walk.specs.declared.Start.{Start}
use Rattle.set_frames.specs.Frames.{setup_in, seen}
use Rattle.set_frames.proofs.Follow.{again-least, again-nowhere, again-out, again-more, stands-again}
use Rattle.set_frames.proofs.start_again.Statement.{statement}
use Rattle.set_frames.proofs.start_again.Tie as tie

start-requires : tie.Need-start-requires
start-requires c κs = c.requires

start-requires-2 : tie.Need-start-requires-in-Ok
start-requires-2 c κs =
    let a = c.args in
    let p = c.requires in
    let e : length c.collect.new.roots ≡ length a.table.now = c.collect.auto.roots in (
      stands-again a.s a.frees.now a.base.now p.1.0.rows a.t (sets_of a.w.now a.table.now)
          (sets_of c.start.new.w a.table.now) c.start.result c.start.new.bits (state_of c.collect.new.w) c.collect.new.roots p.0
          c.start.ensures
          (ap (λ (r : C.Collected). C.collection (state_of c.collect.new.w) c.collect.new.roots (C.is_kept r)) (sym c.in-Ok.is)
          ∙ c.collect.ensures),
      (rw e p.1.0, (c.start.auto.bits ∙ p.1.1.0, p.1.1.1)),
    )

same_length : tie.Need-shape_of-w-in-Least
same_length c = c.start.auto.w

same-length-2 : tie.Need-shape_of-table-in-Least
same-length-2 c = refl

same-length-3 : tie.Need-shape_of-bits-in-Least
same-length-3 c = c.start.auto.bits

returns : tie.Need-returns-in-Least
returns c =
    let a = c.args in
    let y = sets_of c.start.new.w a.table.now in
    let b = c.start.new.bits in
    again-least (setup_in a.s a.frees.now a.base.now) a.t (sets_of a.w.now a.table.now) y b
    (ap (λ (r : Start). seen y r b) (sym c.in-Least.is) ∙ c.start.ensures)

same-length-4 : tie.Need-shape_of-w-in-Nowhere
same-length-4 c = c.start.auto.w

same-length-5 : tie.Need-shape_of-table-in-Nowhere
same-length-5 c = refl

same-length-6 : tie.Need-shape_of-bits-in-Nowhere
same-length-6 c = c.start.auto.bits

returns-2 : tie.Need-returns-in-Nowhere
returns-2 c =
    let a = c.args in
    let y = sets_of c.start.new.w a.table.now in
    let b = c.start.new.bits in
    again-nowhere (setup_in a.s a.frees.now a.base.now) a.t (sets_of a.w.now a.table.now) y b
    (ap (λ (r : Start). seen y r b) (sym c.in-Nowhere.is) ∙ c.start.ensures)

same-length-7 : tie.Need-shape_of-w-in-Err
same-length-7 c = c.collect.auto.w ∙ c.start.auto.w

same-length-8 : tie.Need-shape_of-table-in-Err
same-length-8 c = c.collect.auto.roots

same-length-9 : tie.Need-shape_of-bits-in-Err
same-length-9 c = c.start.auto.bits

returns-3 : tie.Need-returns-in-Err
returns-3 c =
    let a = c.args in
    let y = sets_of c.start.new.w a.table.now in
    let b = c.start.new.bits in
    again-out (setup_in a.s a.frees.now a.base.now) a.t (sets_of a.w.now a.table.now) y b (state_of c.collect.new.w) c.collect.new.roots
    (ap (λ (r : Start). seen y r b) (sym c.in-Full.is) ∙ c.start.ensures)
    (ap (λ (r : C.Collected). C.collection (state_of c.collect.new.w) c.collect.new.roots (C.is_kept r)) (sym c.in-Err.is)
    ∙ c.collect.ensures)

same-length-10 : tie.Need-shape_of-w-in-Ok
same-length-10 c = c.start-in-Ok.auto.w ∙ c.collect.auto.w ∙ c.start.auto.w

same-length-11 : tie.Need-shape_of-table-in-Ok
same-length-11 c = c.collect.auto.roots

same-length-12 : tie.Need-shape_of-bits-in-Ok
same-length-12 c = c.start-in-Ok.auto.bits ∙ c.start.auto.bits

returns-4 : tie.Need-returns-in-Ok
returns-4 c =
    let a = c.args in
    let y = sets_of c.start.new.w a.table.now in
    let b = c.start.new.bits in
    again-more (setup_in a.s a.frees.now a.base.now) a.t (sets_of a.w.now a.table.now) y b (state_of c.collect.new.w) c.collect.new.roots
    (seen (sets_of c.start-in-Ok.new.w c.collect.new.roots) c.start-in-Ok.result c.start-in-Ok.new.bits)
    (ap (λ (r : Start). seen y r b) (sym c.in-Full.is) ∙ c.start.ensures)
    (ap (λ (r : C.Collected). C.collection (state_of c.collect.new.w) c.collect.new.roots (C.is_kept r)) (sym c.in-Ok.is)
    ∙ c.collect.ensures)
    c.start-in-Ok.ensures

pub start_again_spec : {M : Type 1} → statement M
start_again_spec =
    tie.close
    (tie.spec start-requires (λ c. search rules) (λ c. search rules) (λ c. search rules) (λ c κs. search rules) (λ c. search rules) (λ c. search rules) start-requires-2 same_length same-length-2 same-length-3 returns same-length-4 same-length-5 same-length-6 returns-2 same-length-7 same-length-8 same-length-9 returns-3 same-length-10 same-length-11 same-length-12 returns-4)
