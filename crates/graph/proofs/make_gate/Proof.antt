-- `graph::make_gate` meets its contract: a gate that is found has the operands, and where none is found the pair is new.
-- Assumes nothing.
use mathlib.Core.Path.{sym, ap}
use native.Mathlib.Omega.{arith}
use Rattle.nodes.specs.Edges.{edge_word}
use Rattle.pairs.specs.Answers.{place_of}
use Rattle.graph.proofs.Operands.{word_bound}
use Rattle.graph.proofs.Outcomes.{found-made, found-new}
use borrow.Author.Rules.{rules}
use Rattle.graph.proofs.make_gate.Statement.{statement}
use Rattle.graph.proofs.make_gate.Tie as tie

find-pair-requires : tie.Need-find_pair-requires
find-pair-requires c κs =
    let w = c.requires in
    (record { sized = w.stored.sized; store = w.stored.pairs }, word_bound w)

append-plain-requires : tie.Need-append_plain-requires
append-plain-requires c κs = (
  found-new c.args.work.now c.args.g (edge_word c.args.left) (edge_word c.args.right) c.requires (place_of c.find_pair.result) c.find_pair.ensures
      (ap place_of c.in-None.is),
  omega (arith, c.if-g-gt12.true),
)

returns : tie.Need-returns-then-g-gt12
returns c = c.append_plain.ensures

merge-requires : tie.Need-merge-requires
merge-requires c κs = (
  found-new c.args.work.now c.args.g (edge_word c.args.left) (edge_word c.args.right) c.requires (place_of c.find_pair.result) c.find_pair.ensures
      (ap place_of c.in-None.is),
  omega (arith, c.if-g-gt12.false),
)

returns-2 : tie.Need-returns-in-Some
returns-2 c =
    found-made c.args.work.now c.args.g (edge_word c.args.left) (edge_word c.args.right) c.requires (place_of c.find_pair.result) c.find_pair.ensures _
    (sym (ap place_of c.in-Some.is))

returns-3 : tie.Need-returns-else-g-gt12
returns-3 c = c.merge.ensures

pub make_gate_spec : {M : Type 1} → statement M
make_gate_spec =
    tie.close
    (tie.spec find-pair-requires (λ c. search rules) (λ c. search rules) append-plain-requires (λ c. search rules) returns merge-requires (λ c. search rules) returns-2 (λ c. search rules) returns-3)
