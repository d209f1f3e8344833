use Rattle.std.proofs.Common.{◌≡◌, ◌+◌, ◌-◌, cond, map, get_or}
use Rattle.std.proofs.lemmas.List.Edits.{sets}
use Rattle.aiger.specs.Lists.{upto}
use Rattle.aiger.specs.Bits.{odd}
use Rattle.row_plans.proofs.put_list.Given as goal

-- the first k words are written
abbrev pub invariant-loop-k : goal.invariant-loop-k
invariant-loop-k l =
    l.plan ≡ sets l.initial.plan l.at (map (λ i. get_or l.list (cond (odd l.which) (l.n - (i + 1)) i) 0) (upto l.k))
