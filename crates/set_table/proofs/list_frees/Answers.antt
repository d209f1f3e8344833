use mathlib.Core.Logic.{inl, inr, ⊎_elim}
use Rattle.std.proofs.Common.{◌≡◌, ap, ◌∙◌, length, set, arith}
use Rattle.aiger.specs.Frames.{is_free}
use Rattle.layout.specs.Words.{circuit_in}
use Rattle.meaning.specs.Frame.{latch_at}
use Rattle.frames.proofs.Facts.{latches-few, latches-are}
use Rattle.transitions.specs.Transitions.{rank_in}
use Rattle.set_table.proofs.Frees.{ranked-none, ranked-more, frees-are, frees-number, rank-fits}
use Rattle.set_table.proofs.list_frees.Goals as goal

pub loop-j-init : goal.loop-j-init
loop-j-init c =
    let a = c.args in
    ranked-none (rank_in a.latches.now) (λ i. is_free (latch_at (circuit_in a.m.now) i)) a.frees.now

pub overflow_cast-j : goal.overflow_cast-j
overflow_cast-j c = omega (arith, latches-few c.requires.prepared.1, c.loop-j-test.true)

pub overflow_cast-frees : goal.overflow_cast-frees
overflow_cast-frees c =
    let a = c.args in
    omega (arith, c.requires.in_bounds.1, rank-fits a.latches.now _ c.rank_of.result c.rank_of.ensures)

pub bounds-frees-n : goal.bounds-frees-n
bounds-frees-n c =
    omega (
      arith,
      latches-few c.requires.prepared.1,
      c.loop-j-test.true,
      c.loop-j.invariant.few,
      c.loop-j.invariant.size,
      c.requires.in_bounds.0,
    )

pub overflow_add-n : goal.overflow_add-n
overflow_add-n c = omega (arith, latches-few c.requires.prepared.1, c.loop-j-test.true, c.loop-j.invariant.few)

pub loop-j-preserved : goal.loop-j-preserved
loop-j-preserved c =
    let a = c.args in
    ranked-more (rank_in a.latches.now) (λ i. is_free (latch_at (circuit_in a.m.now) i)) c.loop-j.j c.loop-j.n a.frees.now c.loop-j.frees
    c.if-is_free.frees c.if-is_free.n c.is_free.result c.is_free.ensures
    (omega (
      arith,
      latches-few c.requires.prepared.1,
      c.loop-j-test.true,
      c.loop-j.invariant.few,
      c.loop-j.invariant.size,
      c.requires.in_bounds.0,
    ))
    c.loop-j.invariant
    (⊎_elim (λ w. inl (w.if-is_free.true, w.frees-is ∙ ap (set c.loop-j.frees c.loop-j.n) w.rank_of.ensures, w.n-is))
    (λ w. inr (w.if-is_free.false, w.frees-is, w.n-is)) c.if-is_free.branch-raw)

pub returns : goal.returns
returns c =
    let a = c.args in
    let few = latches-few c.requires.prepared.1 in
    let e : c.loop-j.j ≡ length (circuit_in a.m.now).latches = omega (
      arith,
      c.loop-j.auto.j-end,
      c.loop-j-test.false,
      latches-are c.requires.prepared.1,
    ) in (
      frees-are (circuit_in a.m.now) a.latches.now c.loop-j.j c.loop-j.n a.frees.now c.loop-j.frees e c.loop-j.invariant,
      frees-number (circuit_in a.m.now) a.latches.now c.loop-j.j c.loop-j.n a.frees.now c.loop-j.frees e c.loop-j.invariant
          (omega (arith, few, c.loop-j.auto.j-end, c.loop-j.invariant.few, c.loop-j.invariant.size, c.requires.in_bounds.0)),
      omega (arith, few, c.loop-j.auto.j-end, c.loop-j.invariant.few),
    )
