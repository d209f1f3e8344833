-- `unroll::bar_edge` meets its contract. Assumes nothing.
use mathlib.Core.Path.{◌≡◌, refl, sym, ap, ◌∙◌, subst}
use mathlib.Core.Bool.{Bool}
use Prim.Native.Nat.{ℕ, ◌+◌}
use native.Mathlib.Omega.{arith}
use Rattle.aiger.specs.Fold.{complement}
use Rattle.literals.specs.Literal.{literal, complemented}
use Rattle.literals.specs.declared.Lit.{Lit}
use Rattle.layout.specs.Words.{word, circuit_in}
use Rattle.frames.proofs.Facts.{bad-inside, bad-below, bad-place}
use Rattle.unroll.specs.Map.{LineMapped, BarMapped}
use Rattle.unroll.proofs.Hits.{complement-literal}
use borrow.Author.Rules.{rules}
use Rattle.unroll.proofs.bar_edge.Statement.{statement}
use Rattle.unroll.proofs.bar_edge.Tie as tie

add-from-word : tie.Need-overflow_add-bads
add-from-word c = omega (arith, bad-inside c.requires.0.1 c.args.aim.b c.requires.1.1.1)

mul-from-word : tie.Need-offset_bounds-m-bads
mul-from-word c = omega (arith, bad-inside c.requires.0.1 c.args.aim.b c.requires.1.1.1)

shared-slice-read-from-word : tie.Need-bounds-m-bads
shared-slice-read-from-word c = omega (arith, bad-inside c.requires.0.1 c.args.aim.b c.requires.1.1.1)

line-edge-requires : tie.Need-line_edge-requires
line-edge-requires c κs =
    let a = c.args in
    let w : ℕ = word a.m.now (a.layout.bads + a.aim.b) in
    let f = c.from_word-l.ensures in
    let e = c.complement.ensures ∙ ap complemented f in (
      (
        (complement w, e ∙ complement-literal w),
        omega (arith, ap (λ (l : Lit). l.0.0) e, bad-below c.requires.0.1 a.aim.b c.requires.1.1.1),
      ),
      (c.requires.1.0, c.requires.1.1.0),
    )

same_length : tie.Need-shape_of-work-then-aim
same_length c = c.line_edge.auto.work

returns : tie.Need-returns-then-aim
returns c =
    let a = c.args in
    let C = circuit_in a.m.now in
    let w : ℕ = word a.m.now (a.layout.bads + a.aim.b) in
    let e = c.complement.ensures ∙ ap complemented c.from_word-l.ensures ∙ complement-literal w in
    subst (λ (x : Bool). BarMapped x C a.aim.b a.frames.graph.free a.work.now a.frames a.map.now c.line_edge.new.work c.line_edge.result)
    (sym c.if-aim.true)
    (subst (λ (l : ℕ). LineMapped (complement l) a.frames.graph.free a.work.now a.frames a.map.now c.line_edge.new.work c.line_edge.result)
    (sym (bad-place c.requires.0.1 a.aim.b c.requires.1.1.1))
    (c.line_edge.ensures (complement w) e))

returns-2 : tie.Need-returns
returns-2 c =
    let a = c.args in
    subst (λ (x : Bool).
    BarMapped x (circuit_in a.m.now) a.aim.b a.frames.graph.free a.work.now a.frames a.map.now a.work.now a.frames)
    (sym c.if-aim.false) ((refl, refl))

pub bar_edge_spec : {M : Type 1} → statement M
bar_edge_spec =
    tie.close
    (tie.spec add-from-word mul-from-word shared-slice-read-from-word (λ c κs. search rules) (λ c κs. search rules) line-edge-requires same_length returns returns-2)
