-- `set_frames::start` meets its contract. Assumes nothing.
use mathlib.Core.Path.{◌∙◌}
use Prim.Native.Nat.{suc}
use borrow.Author.Rules.{rules}
use Rattle.diagrams.specs.States.{state_of}
use Rattle.state_sets.specs.Sets.{sets_of}
use Rattle.set_frames.proofs.Follow.{start_is, stands_good, stands-edges}
use Rattle.set_frames.proofs.start.Statement.{statement}
use Rattle.set_frames.proofs.start.Tie as tie

copy-requires : tie.Need-copy_from_slice-requires
copy-requires c κs = (search rules, c.requires.1.1.0)

least-start-requires : tie.Need-least_start-requires
least-start-requires c κs =
    let a = c.args in
    let p = c.requires in
    let z = sets_of a.w.now a.table.now in (
      stands_good a.s a.frees.now a.base.now p.1.0.rows (suc a.t) z p.0,
      (stands-edges a.s a.frees.now a.base.now p.1.0.rows (suc a.t) z p.0, (p.1.0, p.1.1.1)),
    )

same_length : tie.Need-shape_of-w
same_length c = c.least_start.auto.w

same-length-2 : tie.Need-shape_of-bits
same-length-2 c = c.least_start.auto.bits ∙ c.copy_from_slice.auto.self

returns : tie.Need-returns
returns c =
    let a = c.args in
    start_is a.s a.frees.now a.base.now a.t a.table.now (state_of a.w.now) (state_of c.least_start.new.w) c.least_start.result c.copy_from_slice.new.self
    c.least_start.new.bits c.copy_from_slice.ensures.1 c.least_start.ensures

pub start_spec : {M : Type 1} → statement M
start_spec =
    tie.close
    (tie.spec copy-requires least-start-requires same_length same-length-2 returns)
