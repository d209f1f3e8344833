-- The slots that are linked so far. Assumes nothing.
use Rattle.gate_order.proofs.Links.{Linked}
use Rattle.gate_order.proofs.link_users.Given as goal

abbrev pub invariant-loop-s : goal.invariant-loop-s
invariant-loop-s l = Linked l.ops l.fn.links l.links l.s
