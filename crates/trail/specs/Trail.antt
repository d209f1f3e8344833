-- The trail, as functions of the words. Assumes nothing.
use Rattle.std.specs.Prelude.{◌≡◌, Bool, cond, List, ℕ, zero, suc, min, ◌+◌, ◌-◌, ◌/◌, ◌%◌, eqb, leb, ltb}
use Rattle.memory.specs.Record.{Counted, counted, undef, field, stored}
use Rattle.memory.specs.declared.Netlist.{Netlist}
use Rattle.trail.specs.declared.State.{State}

-- what a step leaves: the words and where the search stands
pub record Stood : Type 0 where
  pub words : List ℕ
  pub state : State

pub record Left (w : List ℕ) (s : State) (to : Stood) : Type 0 where
  pub words : w ≡ to.words
  pub state : s ≡ to.state

abbrev pub stood : List ℕ → State → Stood
stood w s = record { words = w; state = s }

unfoldable pub value : List ℕ → ℕ → ℕ → ℕ
value w nodes l = cond (ltb 1 (field w nodes (l / 2) 5)) 2 (cond (eqb (l % 2) 0) (field w nodes (l / 2) 5) (1 - field w nodes (l / 2) 5))

unfoldable pub noted : List ℕ → ℕ → ℕ → ℕ → ℕ → List ℕ
noted w nodes l level why = stored (stored (stored w nodes (l / 2) 5 (1 - l % 2)) nodes (l / 2) 6 level) nodes (l / 2) 4 why

-- one entry more
abbrev pub longer : State → State
longer s =
    record {
      length = s.length + 1;
      next = s.next;
      level = s.level;
      ticks = s.ticks;
      clash = s.clash;
      clause = s.clause;
      link = s.link;
    }

-- the next level
abbrev pub deeper : State → State
deeper s =
    record {
      length = s.length;
      next = s.next;
      level = s.level + 1;
      ticks = s.ticks;
      clash = s.clash;
      clause = s.clause;
      link = s.link;
    }

unfoldable pub assigned : List ℕ → Netlist → State → ℕ → ℕ → Stood
assigned w net s l why =
    cond (leb net.nodes s.length) (stood w s)
    (stood (stored (noted w net.nodes l s.level why) net.nodes s.length 9 l) (longer s))

unfoldable pub decided : List ℕ → Netlist → State → ℕ → Stood
decided w net s l = cond (leb net.nodes s.level) (stood w s) (assigned w net (deeper s) l undef)

-- the node of the entry at place t
abbrev pub entry : List ℕ → ℕ → ℕ → ℕ
entry w nodes t = field w nodes t 9 / 2

unfoldable pub taken_back : List ℕ → ℕ → ℕ → ℕ → Counted
taken_back w nodes to zero = counted w 0
taken_back w nodes to (suc t) =
    cond (leb (field w nodes (entry w nodes t) 6) to) (counted w (suc t)) (taken_back (stored w nodes (entry w nodes t) 5 2) nodes to t)

-- at n entries and level `to`
abbrev pub cut : State → ℕ → ℕ → State
cut s n to =
    record {
      length = n;
      next = min s.next n;
      level = min s.level to;
      ticks = s.ticks;
      clash = undef;
      clause = s.clause;
      link = s.link;
    }

unfoldable pub backtracked : List ℕ → Netlist → State → ℕ → Stood
backtracked w net s to = stood (taken_back w net.nodes to s.length).words (cut s (taken_back w net.nodes to s.length).count to)
