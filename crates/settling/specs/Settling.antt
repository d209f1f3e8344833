-- Propagation to the end of the trail, and the literals of level 0, as functions of the words. Assumes nothing.
use Rattle.std.specs.Prelude.{Bool, cond, List, ℕ, zero, suc, ◌+◌, ◌-◌, ◌/◌, eqb, leb}
use Rattle.memory.specs.Record.{undef, successor, field, first_fan, opposite}
use Rattle.memory.specs.declared.Netlist.{Netlist}
use Rattle.memory.specs.declared.Arena.{Arena}
use Rattle.resolve.specs.Draft.{started}
use Rattle.kept.specs.Kept.{settled}
use Rattle.trail.specs.declared.State.{State}
use Rattle.trail.specs.Trail.{Stood, stood}
use Rattle.propagation.specs.Gates.{looked, looked_up}
use Rattle.watches.specs.Watch.{visited}

-- the fan-outs of node v, after the node itself
abbrev pub fanned : Stood → Netlist → ℕ → Stood
fanned s net v = looked_up s.words net s.state (first_fan (field s.words net.nodes v 2)) net.nodes

unfoldable pub through_gates : List ℕ → Netlist → State → ℕ → Stood
through_gates w net s l = fanned (looked w net s (l / 2)) net (l / 2)

-- kept clauses, unless a gate is violated
abbrev pub clauses_too : Stood → Netlist → Arena → ℕ → Stood
clauses_too s net arena l = cond (eqb s.state.clash undef) (visited s.words net arena s.state (opposite l)) s

unfoldable pub through : List ℕ → Netlist → Arena → State → ℕ → Stood
through w net arena s l = clauses_too (through_gates w net s l) net arena l

-- past the first entry whose consequences are not known
abbrev pub beyond : State → State
beyond s =
    record {
      length = s.length;
      next = successor s.next;
      level = s.level;
      ticks = s.ticks;
      clash = s.clash;
      clause = s.clause;
      link = s.link;
    }

unfoldable pub followed : List ℕ → Netlist → Arena → State → Stood
followed w net arena s = through w net arena (beyond s) (field w net.nodes s.next 9)

unfoldable pub propagated : List ℕ → Netlist → Arena → State → ℕ → Stood
propagated w net arena s zero = stood w s
propagated w net arena s (suc n) =
    cond (leb s.length s.next) (stood w s)
    (cond (eqb s.clash undef) (propagated (followed w net arena s).words net arena (followed w net arena s).state n) (stood w s))

-- the reason of the entry at place t
abbrev pub reason_at : List ℕ → ℕ → ℕ → ℕ
reason_at w nodes t = field w nodes (field w nodes t 9 / 2) 4

unfoldable pub settled_one : List ℕ → Netlist → Arena → ℕ → List ℕ
settled_one w net arena t =
    settled (started w net arena (reason_at w net.nodes t)).words net arena (started w net arena (reason_at w net.nodes t)).draft

-- k entries from place t on
unfoldable pub settled_from : List ℕ → Netlist → Arena → ℕ → ℕ → List ℕ
settled_from w net arena t zero = w
settled_from w net arena t (suc k) = settled_from (settled_one w net arena t) net arena (t + 1) k
