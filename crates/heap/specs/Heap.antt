-- The heap of nodes by activity, as functions of the words. Assumes nothing.
use Rattle.std.specs.Prelude.{◌≡◌, Bool, true, false, cond, List, ℕ, zero, suc, ◌+◌, ◌-◌, ◌*◌, ◌/◌, ◌%◌, eqb, leb, ltb}
use Rattle.memory.specs.Record.{largest, field, stored}
use Rattle.memory.specs.declared.Netlist.{Netlist}
use Rattle.memory.specs.declared.Heap.{Heap}

-- what a step leaves: the words and the heap
pub record Heaped : Type 0 where
  pub words : List ℕ
  pub heap : Heap

pub record Left (w : List ℕ) (h : Heap) (to : Heaped) : Type 0 where
  pub words : w ≡ to.words
  pub heap : h ≡ to.heap

abbrev pub heap_of : ℕ → ℕ → Heap
heap_of size step = record { size = size; step = step }

abbrev pub heaped : List ℕ → Heap → Heaped
heaped w h = record { words = w; heap = h }

unfoldable pub node_at : List ℕ → ℕ → ℕ → ℕ
node_at w nodes i = field w nodes i 10 % 65536

unfoldable pub place_of : List ℕ → ℕ → ℕ → ℕ
place_of w nodes v = field w nodes v 10 / 65536

-- the activity of node v
abbrev pub active : List ℕ → ℕ → ℕ → ℕ
active w nodes v = field w nodes v 11

abbrev pub with_node : List ℕ → ℕ → ℕ → ℕ → List ℕ
with_node w nodes i v = stored w nodes i 10 (field w nodes i 10 - field w nodes i 10 % 65536 + v % 65536)

unfoldable pub seated : List ℕ → ℕ → ℕ → ℕ → List ℕ
seated w nodes i v = stored (with_node w nodes i v) nodes v 10 (field (with_node w nodes i v) nodes v 10 % 65536 + 65536 * (i % 65536))

unfoldable pub is_seated : List ℕ → ℕ → ℕ → ℕ → Bool
is_seated w nodes size v = cond (leb size (place_of w nodes v)) false (eqb (node_at w nodes (place_of w nodes v)) v)

unfoldable pub parent : ℕ → ℕ
parent i = cond (eqb i 0) 0 ((i - 1) / 2)

unfoldable pub is_above : List ℕ → ℕ → ℕ → ℕ → Bool
is_above w nodes i v = cond (eqb i 0) false (ltb (active w nodes (node_at w nodes (parent i))) (active w nodes v))

unfoldable pub lowered : List ℕ → ℕ → ℕ → List ℕ
lowered w nodes i = seated w nodes i (node_at w nodes (parent i))

-- node v rises from place i, n places at most
unfoldable pub upped : List ℕ → ℕ → ℕ → ℕ → ℕ → List ℕ
upped w nodes v i zero = seated w nodes i v
upped w nodes v i (suc n) = cond (is_above w nodes i v) (upped (lowered w nodes i) nodes v (parent i) n) (seated w nodes i v)

unfoldable pub child : ℕ → ℕ
child i = cond (leb 1073741824 i) largest (2 * i + 1)

unfoldable pub larger : List ℕ → ℕ → ℕ → ℕ → ℕ
larger w nodes size i =
    cond (leb size i) i
    (cond (leb size (i + 1)) i (cond (ltb (active w nodes (node_at w nodes i)) (active w nodes (node_at w nodes (i + 1)))) (i + 1) i))

unfoldable pub is_below : List ℕ → ℕ → ℕ → ℕ → ℕ → Bool
is_below w nodes size i v = cond (leb size i) false (ltb (active w nodes v) (active w nodes (node_at w nodes i)))

unfoldable pub lifted : List ℕ → ℕ → ℕ → ℕ → List ℕ
lifted w nodes i from = seated w nodes i (node_at w nodes from)

-- node v sinks from place i, n places at most
unfoldable pub downed : List ℕ → ℕ → ℕ → ℕ → ℕ → ℕ → List ℕ
downed w nodes size v i zero = seated w nodes i v
downed w nodes size v i (suc n) =
    cond (is_below w nodes size (larger w nodes size (child i)) v)
    (downed (lifted w nodes i (larger w nodes size (child i))) nodes size v (larger w nodes size (child i)) n) (seated w nodes i v)

-- node v, which stands at place i, has no need to rise
unfoldable pub stays : List ℕ → ℕ → ℕ → ℕ → Bool
stays w nodes i v = cond (leb 65536 i) false (cond (is_above w nodes i v) false true)

unfoldable pub risen : List ℕ → ℕ → Heap → ℕ → Heaped
risen w nodes h v =
    cond (is_seated w nodes h.size v) (heaped (upped w nodes v (place_of w nodes v) 32) h)
    (cond (leb nodes h.size) (heaped w h) (heaped (upped w nodes v h.size 32) (heap_of (h.size + 1) h.step)))

unfoldable pub dropped : List ℕ → ℕ → Heap → Heaped
dropped w nodes h =
    cond (leb h.size 1) (heaped w (heap_of 0 h.step))
    (heaped (downed w nodes (h.size - 1) (node_at w nodes (h.size - 1)) 0 32) (heap_of (h.size - 1) h.step))

-- the most active nodes, n of them at most, leave while they have values
unfoldable pub skimmed : List ℕ → ℕ → Heap → ℕ → Heaped
skimmed w nodes h zero = heaped w h
skimmed w nodes h (suc n) =
    cond (eqb (field w nodes (node_at w nodes 0) 5) 2) (heaped w h) (skimmed (dropped w nodes h).words nodes (dropped w nodes h).heap n)

unfoldable pub scaled : List ℕ → ℕ → ℕ → List ℕ
scaled w nodes zero = w
scaled w nodes (suc n) = scaled (stored w nodes n 11 (active w nodes n / 1048576)) nodes n

unfoldable pub cooled : List ℕ → ℕ → Heap → Heaped
cooled w nodes h =
    cond (ltb h.step 268435456) (heaped w (heap_of h.size (h.step + h.step / 10 + 1)))
    (heaped (scaled w nodes nodes) (heap_of h.size (h.step / 1048576 + 1)))

unfoldable pub is_wanted : List ℕ → Netlist → ℕ → Bool
is_wanted w net v = cond (ltb net.free v) (ltb 0 (active w net.nodes v)) (ltb (field w net.nodes v 2 / 4 % 4) 2)

unfoldable pub admitted : List ℕ → Netlist → Heap → ℕ → Heaped
admitted w net h v = cond (is_wanted w net v) (risen w net.nodes h v) (heaped w h)

-- the node of the entry at place t of the trail
abbrev pub entry : List ℕ → ℕ → ℕ → ℕ
entry w nodes t = field w nodes t 9 / 2

-- those of the first n entries of the trail that stand at place `from` or later
unfoldable pub restored : List ℕ → Netlist → Heap → ℕ → ℕ → Heaped
restored w net h from zero = heaped w h
restored w net h from (suc n) =
    cond (leb (suc n) from) (heaped w h)
    (restored (admitted w net h (entry w net.nodes n)).words net (admitted w net h (entry w net.nodes n)).heap from n)
