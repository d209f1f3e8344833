use Rattle.std.proofs.Common.{◌≡◌, drop}
use Rattle.diagrams.specs.States.{state_of}
use Rattle.set_walk.specs.Start.{pick_all}
use Rattle.set_walk.proofs.pick_all.Given as goal

-- what is left of the latches ends as all of them do
abbrev pub invariant-loop-v : goal.invariant-loop-v
invariant-loop-v l =
    pick_all (drop l.v-index l.frees) (state_of l.w) l.from l.bits ≡ pick_all l.frees (state_of l.initial.w) l.e l.initial.bits
