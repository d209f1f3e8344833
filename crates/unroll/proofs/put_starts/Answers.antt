-- Each turn gives a latch the edge of its start. Assumes nothing.
use mathlib.Core.Path.{◌≡◌, sym, ap, ap₂, ◌∙◌, subst}
use mathlib.Core.Bool.{cond}
use Prim.Native.Nat.{ℕ, ◌+◌, ◌*◌}
use native.Mathlib.Omega.{arith}
use lib.Dec.{eqb}
use lib.ListN.{length}
use Rattle.layout.specs.Words.{word, circuit_in}
use Rattle.literals.specs.declared.Lit.{Lit}
use Rattle.literals.specs.declared.Var.{Var}
use Rattle.literals.specs.Literal.{word_of}
use Rattle.literals.proofs.Words.{word_read}
use Rattle.nodes.specs.Edges.{edge_word}
use Rattle.nodes.specs.declared.Edge.{Edge}
use Rattle.frames.proofs.Facts.{latches-inside, latches-apart}
use Rattle.frames.proofs.Stores.{stored-start}
use Rattle.frames.proofs.Starts.{free-none, free_part, count-more, count-part, starts-few}
use Rattle.unroll.specs.Map.{start_edge, Written, latch_var, start_word}
use Rattle.unroll.proofs.Edges.{start_small}
use Rattle.unroll.proofs.Stores.{put-more}
use Rattle.unroll.proofs.put_starts.Goals as goal
use Rattle.unroll.proofs.put_starts.Goals.{After-start_edge, After-free_start-next}

-- the latch's words, as the calls had them
edge : (c : After-start_edge)
    → (let at = c.args.layout.latches + 3 * c.loop-j.j in
    c.start_edge.result ≡ start_edge (word c.args.m.now at) (word c.args.m.now (at + 2)) c.loop-j.next)
edge c =
    let at = c.args.layout.latches + 3 * c.loop-j.j in
    c.start_edge.ensures
    ∙ ap₂ (λ (r l : ℕ). start_edge l r c.loop-j.next) (word_read (word c.args.m.now (at + 2)) c.from_word-reset.ensures) (word_read (word c.args.m.now at) c.from_word-lit.ensures)

counted : (c : After-free_start-next)
    → (let at = c.args.layout.latches + 3 * c.loop-j.j in
    c.free_start-next.result ≡ cond (eqb (word c.args.m.now (at + 2)) (word c.args.m.now at)) 1 0)
counted c =
    let at = c.args.layout.latches + 3 * c.loop-j.j in
    c.free_start-next.ensures
    ∙ ap₂ (λ (r l : ℕ). cond (eqb r l) 1 0) (word_read (word c.args.m.now (at + 2)) c.from_word-reset.ensures) (word_read (word c.args.m.now at) c.from_word-lit.ensures)

pub loop-j-init : goal.loop-j-init
loop-j-init c = (sym (free-none (circuit_in c.args.m.now)), stored-start _ _ _)

pub overflow_mul-j : goal.overflow_mul-j
overflow_mul-j c = omega (arith, latches-inside c.requires.1)

pub overflow_add-latches : goal.overflow_add-latches
overflow_add-latches c = omega (arith, latches-inside c.requires.1)

pub bounds-m-latches : goal.bounds-m-latches
bounds-m-latches c = omega (arith, latches-inside c.requires.1)

pub overflow_mul-j-in-loop-j : goal.overflow_mul-j-in-loop-j
overflow_mul-j-in-loop-j c = omega (arith, latches-inside c.requires.1)

pub overflow_add-latches-in-loop-j : goal.overflow_add-latches-in-loop-j
overflow_add-latches-in-loop-j c = omega (arith, latches-inside c.requires.1)

pub overflow_add-latches-in-loop-j-2 : goal.overflow_add-latches-in-loop-j-2
overflow_add-latches-in-loop-j-2 c = omega (arith, latches-inside c.requires.1)

pub bounds-m-latches-in-loop-j : goal.bounds-m-latches-in-loop-j
bounds-m-latches-in-loop-j c = omega (arith, latches-inside c.requires.1)

pub start_edge-requires : goal.start_edge-requires
start_edge-requires c =
    let r = c.requires.1 in
    omega (arith, c.loop-j.invariant.0, free_part (circuit_in c.args.m.now) c.loop-j.j, starts-few r.held r.layout_of)

pub put_edge-requires : goal.put_edge-requires
put_edge-requires c =
    let r = c.requires.1 in
    let m = c.args.m.now in
    let p = c.args.layout.latches + 3 * c.loop-j.j in (
      omega (arith, ap (λ (v : Var). v.0) c.var.ensures, ap (λ (l : Lit). l.0.0) c.from_word-lit.ensures, (latches-apart r).below c.loop-j.j (omega arith)),
      omega (
        arith,
        ap (λ (e : Edge). edge_word e) (edge (goal.at.put_edge-requires c).After-start_edge),
        start_small (word m p) (word m (p + 2)) c.loop-j.next,
        c.loop-j.invariant.0,
        free_part (circuit_in m) c.loop-j.j,
        starts-few r.held r.layout_of,
      ),
    )

pub overflow_add-next : goal.overflow_add-next
overflow_add-next c =
    let r = c.requires.1 in
    omega (arith, c.loop-j.invariant.0, counted (goal.at.overflow_add-next c).After-free_start-next, count-part r.held r.layout_of c.loop-j.j (omega arith), starts-few r.held r.layout_of)

pub loop-j-preserved : goal.loop-j-preserved
loop-j-preserved c =
    let r = c.requires.1 in
    let m = c.args.m.now in
    let p = c.args.layout.latches + 3 * c.loop-j.j in (
      omega (arith, c.loop-j.invariant.0, counted (goal.at.loop-j-preserved c).After-free_start-next, count-more r.held r.layout_of c.loop-j.j (omega arith)),
      put-more (latch_var m c.args.layout.latches) (start_word m c.args.layout.latches) c.loop-j.j c.args.map.now c.loop-j.map
          c.put_edge.new.map (latches-apart r) c.loop-j.auto.map (omega arith) c.loop-j.invariant.1
          (ap (λ (v : Var). v.0) c.var.ensures ∙ ap (λ (l : Lit). l.0.0) c.from_word-lit.ensures)
          (ap (λ (e : Edge). edge_word e) (edge (goal.at.loop-j-preserved c).After-start_edge ∙ ap
          (λ (k : ℕ). start_edge (word m p) (word m (p + 2)) k) c.loop-j.invariant.0)) c.put_edge.ensures,
    )

pub returns : goal.returns
returns c =
    let e : c.loop-j.j ≡ c.args.layout.l = omega arith in
    subst (λ (n : ℕ). Written (latch_var c.args.m.now c.args.layout.latches) (start_word c.args.m.now c.args.layout.latches) n c.args.map.now c.loop-j.map) e c.loop-j.invariant.1
