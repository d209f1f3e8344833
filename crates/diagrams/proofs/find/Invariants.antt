use Rattle.std.proofs.Common.{◌≡◌, length, ◌-◌}
use Rattle.diagrams.specs.States as S
use Rattle.diagrams.proofs.find.Given as goal

-- what is left of the walk ends as the whole walk does
abbrev pub invariant-loop : goal.invariant-loop
invariant-loop l =
    S.found (S.state_of l.w).nodes l.v l.lo l.hi (l.end - l.counter) l.at
    ≡ S.found (S.state_of l.w).nodes l.v l.lo l.hi (length (S.state_of l.w).nodes) l.from
