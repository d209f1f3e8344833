-- What is claimed of the words of a search, and the words that are claimed. Assumes nothing.
use Rattle.std.specs.Prelude.{◌≡◌, Bool, List, ℕ, ◌+◌, ◌*◌, ◌/◌, ◌%◌, ◌≤◌, ◌<◌, length, get_or}
use Rattle.memory.specs.Record.{field, fixed, head}
use Rattle.memory.specs.declared.Netlist.{Netlist}
use Rattle.memory.specs.declared.Arena.{Arena}
use Rattle.clauses.specs.Clause.{Among, Valid, Always, GateOf}
use Rattle.reasons.specs.Reason.{kept_length, kept_literal}

-- the words that the netlist, what is fixed, the literals of kept clauses and the first two words of their heads take are the same in u as
-- in w; all others only guide the search
pub record Same (net : Netlist) (arena : Arena) (w u : List ℕ) : Type 0 where
  pub long : length u ≡ length w
  pub node : (v f : ℕ) → f < 3 → field u net.nodes v f ≡ field w net.nodes v f
  pub clause : (p : ℕ) → p < arena.used → get_or u (14 * net.nodes + p) 0 ≡ get_or w (14 * net.nodes + p) 0
  pub head : (c f : ℕ) → c < arena.count → f < 2 → head u net.words c f ≡ head w net.words c f

-- the same, but of word 2 only what is fixed: the bits of the floor may differ
pub record Alike (net : Netlist) (arena : Arena) (w u : List ℕ) : Type 0 where
  pub long : length u ≡ length w
  pub node : (v f : ℕ) → f < 2 → field u net.nodes v f ≡ field w net.nodes v f
  pub fixed : (v : ℕ) → fixed (field u net.nodes v 2) ≡ fixed (field w net.nodes v 2)
  pub clause : (p : ℕ) → p < arena.used → get_or u (14 * net.nodes + p) 0 ≡ get_or w (14 * net.nodes + p) 0
  pub head : (c f : ℕ) → c < arena.count → f < 2 → head u net.words c f ≡ head w net.words c f

-- gates and what is fixed hold in every hit, and so does each kept clause
pub record Sound (hit : (ℕ → Bool) → Type 0) (net : Netlist) (arena : Arena) (w : List ℕ) : Type 0 where
  pub room : 14 * net.nodes + arena.used + 6 * arena.count ≤ net.words
  pub within : net.words ≤ length w
  pub gate : (a : ℕ → Bool) → hit a → (v : ℕ) → v < net.nodes → GateOf a v (field w net.nodes v 0) (field w net.nodes v 1)
  pub zero : Always hit 1
  pub fixed : (l : ℕ) → fixed (field w net.nodes (l / 2) 2) ≡ 1 + l % 2 → Always hit l
  pub inside : (c : ℕ) → c < arena.count → head w net.words c 0 + kept_length w net c ≤ arena.used
  pub valid : (c : ℕ) → c < arena.count → Valid hit (Among (kept_length w net c) (kept_literal w net c))
