-- `graph::merge` meets its contract: an edge that is equal in function is the answer, and where there is none the new gate has no twin.
-- Assumes nothing.
use mathlib.Core.Path.{ap}
use Rattle.nodes.specs.Edges.{edge_word}
use Rattle.signatures.specs.Answers.{place_of}
use Rattle.graph.proofs.Outcomes.{new-same, conjoined-same}
use Rattle.graph.proofs.Signed.{twin-ready, twin-pairs, twin-stored, twin-made, twin-none}
use borrow.Author.Rules.{rules}
use Rattle.graph.proofs.merge.Statement.{statement}
use Rattle.graph.proofs.merge.Tie as tie

find-twin-requires : tie.Need-find_twin-requires
find-twin-requires c κs =
    twin-ready c.args.work.now c.args.g (edge_word c.args.left) (edge_word c.args.right) c.requires.1 c.requires.0

append-signed-requires : tie.Need-append_signed-requires
append-signed-requires c κs =
    let a = c.args in
    let r = place_of c.find_twin.result in (
      new-same a.work.now c.find_twin.new.work a.g (edge_word a.left) (edge_word a.right)
          (twin-stored a.work.now c.find_twin.new.work a.g (edge_word a.left) (edge_word a.right) r c.requires.0 c.find_twin.auto.work c.find_twin.ensures)
          (twin-pairs a.work.now c.find_twin.new.work a.g (edge_word a.left) (edge_word a.right) r c.requires.0 c.find_twin.auto.work c.find_twin.ensures) c.requires.0,
      (
        c.requires.1,
        twin-none a.work.now c.find_twin.new.work a.g (edge_word a.left) (edge_word a.right) r c.requires.0 c.find_twin.auto.work c.find_twin.ensures
            (ap place_of c.in-None.is),
      ),
    )

returns : tie.Need-returns-in-Some
returns c =
    let a = c.args in
    twin-made a.work.now c.find_twin.new.work a.g (edge_word a.left) (edge_word a.right) (place_of c.find_twin.result) c.requires.0 c.find_twin.auto.work c.find_twin.ensures c.requires.1
    c.in-Some.e (ap place_of c.in-Some.is)

returns-2 : tie.Need-returns-in-None
returns-2 c =
    let a = c.args in
    conjoined-same a.work.now c.find_twin.new.work c.append_signed.new.work a.g (edge_word a.left) (edge_word a.right) c.append_signed.result
    (twin-pairs a.work.now c.find_twin.new.work a.g (edge_word a.left) (edge_word a.right) (place_of c.find_twin.result) c.requires.0 c.find_twin.auto.work c.find_twin.ensures) c.append_signed.ensures

pub merge_spec : {M : Type 1} → statement M
merge_spec =
    tie.close
    (tie.spec find-twin-requires (λ c. search rules) (λ c. search rules) append-signed-requires (λ c. search rules) returns (λ c. search rules) returns-2)
