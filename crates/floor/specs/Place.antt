-- The floor in memory: the test that a clause is false there, the raise, and evaluation, as functions of the words. Assumes nothing.
use Rattle.std.specs.Prelude.{◌≡◌, Bool, true, false, not, cond, ◌&&◌, Option, Some, None, List, ℕ, zero, suc, ◌+◌, ◌-◌, ◌*◌, ◌/◌, ◌%◌, eqb, leb, ltb}
use Rattle.memory.specs.Record.{field, stored, bit_at, opposite}
use Rattle.memory.specs.declared.Netlist.{Netlist}
use Rattle.memory.specs.declared.Arena.{Arena}
use Rattle.memory.specs.declared.Draft.{Draft}
use Rattle.resolve.specs.Draft.{draft_at}
use Rattle.floor.specs.declared.Refutation.{Refutation}
use Rattle.floor.specs.declared.Refutation.TheVariants.{Raised, NoHit, Unlearnt}

-- what a raise leaves: the words, and what becomes of the floor
pub record Risen : Type 0 where
  pub words : List ℕ
  pub says : Refutation

pub record RiseLeft (w : List ℕ) (r : Refutation) (to : Risen) : Type 0 where
  pub words : w ≡ to.words
  pub says : r ≡ to.says

abbrev pub risen : List ℕ → Refutation → Risen
risen w r = record { words = w; says = r }

-- the bit of node v: 0, 1, or 2 where the hit does not depend on it
unfoldable pub bit_of : List ℕ → ℕ → ℕ → ℕ
bit_of w nodes v = bit_at (field w nodes v 2)

-- the floor's bit at node v
abbrev pub floor_bit : List ℕ → ℕ → ℕ → ℕ
floor_bit w nodes v = cond (eqb (bit_of w nodes v) 1) 1 0

-- literal l is no free bit's, or true at the floor; the complement of the hit counts as false
unfoldable pub is_wrong : List ℕ → Netlist → ℕ → Bool
is_wrong w net l =
    cond (eqb l (opposite net.root)) false
    (cond (eqb (l / 2) 0) true
    (cond (ltb net.free (l / 2)) true (cond (eqb (bit_of w net.nodes (l / 2)) 1) (eqb (l % 2) 0) (eqb (l % 2) 1))))

unfoldable pub later : Netlist → ℕ → ℕ → ℕ
later net l top = cond (eqb l (opposite net.root)) top (cond (ltb top (l / 2)) (l / 2) top)

-- what the first k literals of the working clause are, where those after them name free bits up to `top`
unfoldable pub judged : List ℕ → Netlist → Arena → ℕ → ℕ → Option ℕ
judged w net arena zero top = Some top
judged w net arena (suc k) top =
    cond (is_wrong w net (draft_at w net arena k)) None (judged w net arena k (later net (draft_at w net arena k) top))

-- node v is idle: its operands differ. A free bit that does not lead to the hit is so where the floor begins at a place other than 0: it
-- is the conjunction of itself and true, and its bit of the floor may be 1 until a bit before it rises
unfoldable pub is_idle : List ℕ → ℕ → ℕ → Bool
is_idle w nodes v = not (eqb (field w nodes v 0) (field w nodes v 1))

-- the same word with a bit that does not count
abbrev pub uncounted : ℕ → ℕ
uncounted fact = fact / 16 * 16 + 8 + fact % 4

-- a bit that is 1 becomes 0; that of an idle node no longer counts
unfoldable pub cleared : List ℕ → ℕ → ℕ → List ℕ
cleared w nodes v =
    cond (is_idle w nodes v) (stored w nodes v 2 (uncounted (field w nodes v 2)))
    (cond (eqb (bit_at (field w nodes v 2)) 1) (stored w nodes v 2 (field w nodes v 2 - 4)) w)

unfoldable pub lifted : List ℕ → ℕ → ℕ → List ℕ
lifted w nodes v = cond (eqb (bit_at (field w nodes v 2)) 0) (stored w nodes v 2 (field w nodes v 2 + 4)) w

unfoldable pub can_rise : List ℕ → ℕ → ℕ → ℕ → Bool
can_rise w nodes m v = leb v m && eqb (bit_of w nodes v) 0

-- from node v downward: the last bit up to node m that counts and is 0 becomes 1, those after it 0, of idle nodes uncounted; no hit is left
-- where there is none
unfoldable pub raised : List ℕ → ℕ → ℕ → ℕ → Risen
raised w nodes m zero = risen w NoHit
raised w nodes m (suc v) =
    cond (can_rise w nodes m (suc v)) (risen (lifted w nodes (suc v)) (Raised (suc v))) (raised (cleared w nodes (suc v)) nodes m v)

-- by a clause
unfoldable pub raised_by : List ℕ → Netlist → Option ℕ → Risen
raised_by w net (Some m) = raised w net.nodes m net.free
raised_by w net None = risen w Unlearnt

unfoldable pub refuted : List ℕ → Netlist → Arena → Draft → Risen
refuted w net arena d = cond d.whole (raised_by w net (judged w net arena d.length 0)) (risen w Unlearnt)

-- the value of edge e, where word 3 of a record has the value of its node
unfoldable pub edge : List ℕ → ℕ → ℕ → ℕ
edge w nodes e = cond (eqb (e % 2) 0) (field w nodes (e / 2) 3) (cond (eqb (field w nodes (e / 2) 3) 0) 1 0)

-- the value of node v at the floor, from those of the nodes before it
unfoldable pub node_value : List ℕ → Netlist → ℕ → ℕ
node_value w net v =
    cond (eqb v 0) 0
    (cond (leb v net.free) (floor_bit w net.nodes v)
    (cond (eqb (edge w net.nodes (field w net.nodes v 0)) 0) 0 (edge w net.nodes (field w net.nodes v 1))))

-- k nodes from v on
unfoldable pub evaluated : List ℕ → Netlist → ℕ → ℕ → List ℕ
evaluated w net v zero = w
evaluated w net v (suc k) = evaluated (stored w net.nodes v 3 (node_value w net v)) net (v + 1) k

-- the words after evaluation of all nodes, and whether the hit is true
pub record Shown (u : List ℕ) (b : Bool) (w : List ℕ) (net : Netlist) : Type 0 where
  pub words : u ≡ evaluated w net 0 net.nodes
  pub true : b ≡ eqb (edge (evaluated w net 0 net.nodes) net.nodes net.root) 1
