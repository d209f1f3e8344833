-- `gate_order::link_users` meets its contract: each turn of its loop links one slot. Assumes nothing.
use mathlib.Core.Path.{refl}
use native.Mathlib.Omega.{arith}
use lib.ListN.{length-set}
use Rattle.gate_order.proofs.Links.{Linked, start, more, end}
use Rattle.gate_order.proofs.link_users.Goals as goal

pub loop-s-init : goal.loop-s-init
loop-s-init c = start _ _ c.requires.below.2

pub loop-s-preserved : goal.loop-s-preserved
loop-s-preserved c =
    more c.loop-s.invariant c.loop-s-test.true c.requires.below.1 (c.requires.below.0 c.loop-s.s c.loop-s-test.true) _ refl

pub returns : goal.returns
returns c = end c.loop-s.invariant c.loop-s-test.false
