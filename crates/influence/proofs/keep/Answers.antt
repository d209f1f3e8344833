-- Each turn lists a latch, if it is kept. Assumes nothing.
use mathlib.Core.Path.{◌≡◌, sym, ap, ◌∙◌, subst}
use mathlib.Core.Bool.{Bool, ◌||◌}
use mathlib.Core.Logic.{inl, inr, ⊎_elim}
use Prim.Native.Nat.{ℕ, ◌+◌, ◌*◌, ◌<◌}
use native.Mathlib.Omega.{arith}
use lib.ListN.{length}
use Rattle.aiger.specs.Circuit.{Latch}
use Rattle.layout.specs.Words.{word, circuit_in}
use Rattle.meaning.specs.Frame.{latch_at}
use Rattle.frames.proofs.Facts.{latches-inside, latches-few, latches-apart, latch-place}
use Rattle.influence.specs.Cone.{marked}
use Rattle.influence.proofs.Kept.{Listing, list-start, list-step}
use Rattle.influence.proofs.Marks.{var-marked, var-below}
use Rattle.influence.proofs.keep.Goals as goal
use Rattle.influence.proofs.keep.Goals.{then-all-marked, else-all-marked}

pub loop-j-init : goal.loop-j-init
loop-j-init c =
    let a = c.args in
    list-start (λ j. a.all || marked a.marks.now (latch_at (circuit_in a.m.now) j).lit) a.kept.now

pub overflow_mul-j : goal.overflow_mul-j
overflow_mul-j c = omega (arith, latches-few c.requires.ready)

pub overflow_add-latches : goal.overflow_add-latches
overflow_add-latches c = omega (arith, latches-inside c.requires.ready)

pub var_at-requires : goal.var_at-requires
var_at-requires c = omega (arith, latches-inside c.requires.ready)

pub is_marked-marked-requires : goal.is_marked-marked-requires
is_marked-marked-requires c =
    let j = c.loop-j.j in
    let w = word c.args.m.now (c.args.layout.latches + 3 * j) in
    var-below w (length c.args.marks.now) c.var_at.ensures ((latches-apart c.requires.ready).below j (omega arith))

pub overflow_cast-kept : goal.overflow_cast-kept
overflow_cast-kept c = omega (arith, latches-few c.requires.ready)

pub bounds-kept-n : goal.bounds-kept-n
bounds-kept-n c = omega (arith, c.loop-j.invariant.few, c.requires.in_bounds, latches-few c.requires.ready)

pub overflow_add-n : goal.overflow_add-n
overflow_add-n c = omega (arith, c.loop-j.invariant.few, latches-few c.requires.ready)

pub loop-j-preserved : goal.loop-j-preserved
loop-j-preserved c =
    let a = c.args in
    let w = word a.m.now (a.layout.latches + 3 * c.loop-j.j) in
    let own : (latch_at (circuit_in a.m.now) c.loop-j.j).lit ≡ w = ap (λ (x : Latch). x.lit) (latch-place c.requires.ready c.loop-j.j (omega arith)) in
    let t = var-marked a.marks.now w c.var_at.ensures c.is_marked-marked.ensures in
    let room : c.loop-j.n < length c.loop-j.kept = omega (arith, c.loop-j.invariant.few, c.requires.in_bounds, latches-few c.requires.ready) in
    list-step (λ j. a.all || marked a.marks.now (latch_at (circuit_in a.m.now) j).lit) c.loop-j.n c.loop-j.j a.kept.now c.loop-j.kept
    c.if-all-marked.kept c.if-all-marked.n (a.all || c.is_marked-marked.result)
    (ap (λ (q : Bool). a.all || q) (t ∙ ap (marked a.marks.now) (sym own))) room c.loop-j.invariant
    (elim c.if-all-marked.branch [ then-all-marked w ↦ inl (w.if-all-marked.true, w.kept-is, w.n-is) | else-all-marked w ↦ inr (w.if-all-marked.false, w.kept-is, w.n-is) ])

pub returns : goal.returns
returns c =
    let a = c.args in
    let e : c.loop-j.j ≡ a.layout.l = omega arith in
    let p : ℕ → Bool = λ j. a.all || marked a.marks.now (latch_at (circuit_in a.m.now) j).lit in
    let t = subst (λ (j : ℕ). Listing p j a.kept.now c.loop-j.n c.loop-j.kept) e c.loop-j.invariant in
    (t.few, t.front, t.rest)
