-- `unroll::line_edge` meets its contract. Assumes nothing.
use mathlib.Core.Path.{ap, ◌∙◌}
use Rattle.unroll.specs.Map.{literal_edge}
use Rattle.unroll.proofs.Hits.{literal-operands, literal-done}
use borrow.Author.Rules.{rules}
use Rattle.unroll.proofs.line_edge.Statement.{statement}
use Rattle.unroll.proofs.line_edge.Tie as tie

edge-of-requires : tie.Need-edge_of-e-requires
edge-of-requires c κs = c.requires.0.1

make-requires : tie.Need-make-requires
make-requires c κs =
    let a = c.args in
    literal-operands c.requires.0.0.0 a.work.now a.frames a.map.now c.requires.1.0 c.requires.1.1 c.edge_of-e.result
    (c.edge_of-e.ensures.0 ∙ ap (literal_edge a.map.now) c.requires.0.0.1)

same_length : tie.Need-shape_of-work
same_length c = c.make.auto.work

returns : tie.Need-returns
returns c =
    λ w e.
    let a = c.args in
    literal-done w a.work.now a.frames a.map.now c.requires.1.0 c.requires.1.1 c.edge_of-e.result
    (c.edge_of-e.ensures.0 ∙ ap (literal_edge a.map.now) e) c.make.new.work c.make.result c.make.ensures

pub line_edge_spec : {M : Type 1} → statement M
line_edge_spec =
    tie.close
    (tie.spec edge-of-requires make-requires same_length returns)
