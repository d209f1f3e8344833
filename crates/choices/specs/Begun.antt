-- What is given of a netlist and its words before a search. A place is a number below 2 to the power of the number of free bits; `val
-- x` are the values of all nodes at place x; `hits x` says that place x is looked for; `hit a` is what each such place's values obey,
-- and what clauses are about. Assumes nothing.
use Rattle.std.specs.Prelude.{◌≡◌, Bool, true, false, List, ℕ, suc, ◌-◌, ◌*◌, ◌/◌, ◌^◌, ◌≤◌, ◌<◌, T, length}
use Rattle.aiger.specs.Frames.{value, free_bit}
use Rattle.memory.specs.Record.{field, fixed}
use Rattle.memory.specs.declared.Netlist.{Netlist}
use Rattle.clauses.specs.Clause.{Always, GateOf}
use Rattle.clauses.specs.Floor.{Free, Floor, prefix}
use Rattle.floor.specs.Place.{bit_of, floor_bit, is_idle}

pub record Begun (hit : (ℕ → Bool) → Type 0) (hits : ℕ → Type 0) (val : ℕ → ℕ → Bool) (net : Netlist) (w : List ℕ) : Type 0 where
  -- sizes
  pub small : net.free < net.nodes
  pub room : 14 * net.nodes ≤ net.words
  pub within : net.words ≤ length w
  -- places and their values
  pub free : Free net.free val
  pub bound : (x : ℕ) → hits x → x < 2 ^ net.free
  pub obeys : (x : ℕ) → hits x → hit (val x)
  pub top : (x : ℕ) → hits x → T (value (val x) net.root)
  -- the gates, operands before them
  pub gate : (a : ℕ → Bool) → hit a → (v : ℕ) → v < net.nodes → GateOf a v (field w net.nodes v 0) (field w net.nodes v 1)
  pub never : Always hit 1
  pub none : (x : ℕ) → val x 0 ≡ false
  pub obeyed : (x v : ℕ) → net.free < v → v < net.nodes → GateOf (val x) v (field w net.nodes v 0) (field w net.nodes v 1)
  pub left : (v : ℕ) → net.free < v → v < net.nodes → field w net.nodes v 0 / 2 < v
  pub right : (v : ℕ) → net.free < v → v < net.nodes → field w net.nodes v 1 / 2 < v
  pub root : net.root / 2 < net.nodes
  -- nothing is fixed, no place before the floor is looked for, and a place that is looked for is 0 where a bit does not count
  pub unfixed : (v : ℕ) → fixed (field w net.nodes v 2) ≡ 0
  pub low : Floor hits (prefix (floor_bit w net.nodes) net.free)
  pub clean : (v : ℕ) → v < net.free → (bit_of w net.nodes (suc v) ≡ 0 → ⊥) → (bit_of w net.nodes (suc v) ≡ 1 → ⊥) → (x : ℕ) → hits x
      → free_bit net.free x v ≡ false
  -- its bit of an idle node is 0 where a place from the floor on that is 0 from this bit on is no greater: else the place without that bit
  -- would have been looked for
  pub spare : (v : ℕ) → v < net.free → is_idle w net.nodes (suc v) ≡ true → (x q : ℕ) → hits x
      → prefix (floor_bit w net.nodes) net.free ≤ q * 2 ^ (net.free - v) → q * 2 ^ (net.free - v) ≤ x
      → free_bit net.free x v ≡ false
