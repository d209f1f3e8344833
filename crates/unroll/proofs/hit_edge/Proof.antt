-- `unroll::hit_edge` meets its contract. Assumes nothing.
use mathlib.Core.Path.{sym, ap, subst}
use Prim.Native.Nat.{ℕ, ◌+◌}
use native.Mathlib.Omega.{arith}
use Rattle.literals.specs.declared.Lit.{Lit}
use Rattle.layout.specs.Words.{word}
use Rattle.frames.proofs.Facts.{bad-inside, bad-below, bad-place}
use Rattle.unroll.specs.Map.{LineMapped}
use borrow.Author.Rules.{rules}
use Rattle.unroll.proofs.hit_edge.Statement.{statement}
use Rattle.unroll.proofs.hit_edge.Tie as tie

add-from-word : tie.Need-overflow_add-bads
add-from-word c = omega (arith, bad-inside c.requires.0.1 c.args.b c.requires.1.1.1)

mul-from-word : tie.Need-offset_bounds-m-bads
mul-from-word c = omega (arith, bad-inside c.requires.0.1 c.args.b c.requires.1.1.1)

shared-slice-read-from-word : tie.Need-bounds-m-bads
shared-slice-read-from-word c = omega (arith, bad-inside c.requires.0.1 c.args.b c.requires.1.1.1)

line-edge-requires : tie.Need-line_edge-requires
line-edge-requires c κs =
    let a = c.args in
    let e = c.from_word-l.ensures in (
      ((word a.m.now (a.layout.bads + a.b), e), omega (arith, ap (λ (l : Lit). l.0.0) e, bad-below c.requires.0.1 a.b c.requires.1.1.1)),
      (c.requires.1.0, c.requires.1.1.0),
    )

same_length : tie.Need-shape_of-work
same_length c = c.line_edge.auto.work

returns : tie.Need-returns
returns c =
    let a = c.args in
    subst (λ (l : ℕ). LineMapped l a.frames.graph.free a.work.now a.frames a.map.now c.line_edge.new.work c.line_edge.result)
    (sym (bad-place c.requires.0.1 a.b c.requires.1.1.1))
    (c.line_edge.ensures (word a.m.now (a.layout.bads + a.b)) c.from_word-l.ensures)

pub hit_edge_spec : {M : Type 1} → statement M
hit_edge_spec =
    tie.close
    (tie.spec add-from-word mul-from-word shared-slice-read-from-word (λ c κs. search rules) line-edge-requires same_length returns)
