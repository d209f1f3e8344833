-- The rule one gate down is that of the operands that the memory has of the gate. Assumes nothing.
use native.Mathlib.Omega.{arith}
use Rattle.nodes.specs.Edges.{edge_word}
use Rattle.rules.proofs.Rules.{lower_of}
use Rattle.rules.proofs.rule_below.Goals as goal

pub returns : goal.returns
returns c =
    lower_of c.args.work.now c.args.g c.args.left (edge_word c.args.right) c.requires
    (omega arith) c.from_word-first.ensures c.from_word-second.ensures c.lower_rule.ensures
