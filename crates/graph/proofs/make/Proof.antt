-- `graph::make` meets its contract: the larger operand goes first, and conjunction is commutative. Assumes nothing.
use native.Mathlib.Omega.{arith}
use Rattle.nodes.specs.Edges.{edge_word}
use Rattle.graph.proofs.Operands.{operands-bound, operands-swapped, made-swapped}
use borrow.Author.Rules.{rules}
use Rattle.graph.proofs.make.Statement.{statement}
use Rattle.graph.proofs.make.Tie as tie

cast-p : tie.Need-overflow_cast-p
cast-p c =
    omega (arith, (operands-bound c.requires).0, c.word-p.ensures)

cast-q : tie.Need-overflow_cast-q
cast-q c =
    omega (arith, (operands-bound c.requires).1, c.word-q.ensures)

make-packed-requires : tie.Need-make_packed-requires
make-packed-requires c κs =
    rw (c.word-p.ensures, c.word-q.ensures)
    (operands-swapped c.requires, omega (arith, c.if-p-q.true, c.word-p.ensures, c.word-q.ensures))

returns : tie.Need-returns-then-p-q
returns c =
    let p = c.word-p.ensures in
    let q = c.word-q.ensures in
    made-swapped c.args.work.now c.make_packed.new.work c.args.g c.make_packed.result (edge_word c.args.a) (edge_word c.args.b) (rw (p, q) at c.make_packed.ensures)

make-packed-requires-2 : tie.Need-make_packed-requires-2
make-packed-requires-2 c κs =
    rw (c.word-p.ensures, c.word-q.ensures)
    (c.requires, omega (arith, c.if-p-q.false, c.word-p.ensures, c.word-q.ensures))

returns-2 : tie.Need-returns
returns-2 c =
    rw (c.word-p.ensures, c.word-q.ensures) at c.make_packed-2.ensures

pub make_spec : {M : Type 1} → statement M
make_spec =
    tie.close
    (tie.spec (λ c κs. search rules) cast-p (λ c κs. search rules) cast-q make-packed-requires (λ c. search rules) returns make-packed-requires-2 (λ c. search rules) returns-2)
