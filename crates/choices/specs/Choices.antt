-- Choice of decisions, as functions of the words and of where the search stands. Assumes nothing.
use Rattle.std.specs.Prelude.{Bool, true, false, not, cond, List, ℕ, zero, suc, min, ◌+◌, ◌-◌, ◌*◌, ◌/◌, ◌%◌, eqb, leb, ltb}
use Rattle.memory.specs.Record.{field, opposite, written, bit_at}
use Rattle.memory.specs.declared.Netlist.{Netlist}
use Rattle.memory.specs.declared.Arena.{Arena}
use Rattle.reasons.specs.Reason.{is_false}
use Rattle.resolve.specs.Draft.{Drafted, draft_of, drafted, started}
use Rattle.analysis.specs.Analysis.{expanded_all}
use Rattle.floor.specs.declared.Refutation.{Refutation}
use Rattle.floor.specs.declared.Refutation.TheVariants.{Raised, NoHit, Unlearnt}
use Rattle.floor.specs.Place.{refuted, edge, evaluated}
use Rattle.trail.specs.Trail.{Stood, value, decided}
use Rattle.heap.specs.Heap.{Heaped, node_at, skimmed}
use Rattle.learning.specs.declared.Order.{Order}
use Rattle.learning.specs.declared.Search.{Search}
use Rattle.learning.specs.Learning.{Searched, searched, with_trail, with_heap, with_order, retreated}

unfoldable pub differs : List ℕ → ℕ → ℕ → Bool
differs w nodes v = cond (leb 2 (bit_at (field w nodes v 2))) false (not (eqb (field w nodes v 5) (bit_at (field w nodes v 2))))

-- of k free bits after node v
unfoldable pub agreed : List ℕ → ℕ → ℕ → ℕ → ℕ
agreed w nodes v zero = v
agreed w nodes v (suc k) = cond (differs w nodes (v + 1)) v (agreed w nodes (v + 1) k)

unfoldable pub wish : List ℕ → ℕ → ℕ → ℕ
wish w nodes v = cond (leb 1073741824 v) 1 (cond (eqb (bit_at (field w nodes v 2)) 1) (2 * v) (2 * v + 1))

abbrev pub with_verdict : Order → ℕ → Order
with_verdict o x =
    record {
      sweep = o.sweep;
      goal = o.goal;
      agreed = o.agreed;
      settled = o.settled;
      verdict = x;
      ticks = o.ticks;
      slice = o.slice;
      span = o.span;
    }

abbrev pub with_agreed : Order → ℕ → Order
with_agreed o v =
    record {
      sweep = o.sweep;
      goal = o.goal;
      agreed = v;
      settled = o.settled;
      verdict = o.verdict;
      ticks = o.ticks;
      slice = o.slice;
      span = o.span;
    }

abbrev pub ended : Search → ℕ → Search
ended s x = with_order s (with_verdict s.order x)

unfoldable pub started_literal : List ℕ → Netlist → Arena → ℕ → Drafted
started_literal w net arena l =
    cond (leb net.words (14 * net.nodes + arena.used + 6 * arena.count)) (drafted w (draft_of 0 false))
    (drafted (written w net.nodes arena.used 0 l) (draft_of 1 true))

unfoldable pub explained : List ℕ → Netlist → Search → ℕ → Drafted
explained w net s l =
    cond (is_false w net.nodes (opposite l)) (started_literal w net s.arena l)
    (cond (eqb l net.root) (started w net s.arena (4 * (l / 2 % 1073741824)))
    (expanded_all w net s.arena (field w net.nodes (l / 2) 4) s.trail.length))

abbrev pub less : ℕ → ℕ
less a = a - 1

abbrev pub smaller : ℕ → ℕ → ℕ
smaller a b = min a b

unfoldable pub released : List ℕ → Netlist → Search → ℕ → Searched
released w net s i =
    cond (eqb (field w net.nodes i 5) 0) (retreated w net s (less (field w net.nodes i 6)))
    (searched w (with_order s (with_agreed s.order (smaller s.order.agreed (less i)))))

unfoldable pub concluded : List ℕ → Netlist → Search → Refutation → Searched
concluded w net s (Raised i) = released w net s i
concluded w net s NoHit = searched w (ended s 2)
concluded w net s Unlearnt = searched w (ended s 3)

-- by the working clause d
abbrev pub contradicted_by : Drafted → Netlist → Search → Searched
contradicted_by d net s =
    concluded (refuted d.words net s.arena d.draft).words net s (refuted d.words net s.arena d.draft).says

unfoldable pub contradicted : List ℕ → Netlist → Search → ℕ → Searched
contradicted w net s l = contradicted_by (explained w net s l) net s

-- by the clause of decisions that the violated clause r gives, which at level 0 has no literal
unfoldable pub contradicted_at_zero : List ℕ → Netlist → Search → ℕ → Searched
contradicted_at_zero w net s r = contradicted_by (expanded_all w net s.arena r s.trail.length) net s

unfoldable pub taken : List ℕ → Netlist → Search → ℕ → Searched
taken w net s l = searched (decided w net s.trail l).words (with_trail s (decided w net s.trail l).state)

-- the literal l of a free bit that is true at the floor
abbrev pub assumed_by : List ℕ → Netlist → Search → ℕ → Searched
assumed_by w net s l = cond (eqb (value w net.nodes l) 0) (contradicted w net s (opposite l)) (taken w net s l)

unfoldable pub assumed : List ℕ → Netlist → Search → ℕ → Searched
assumed w net s v = assumed_by w net s (wish w net.nodes v)

unfoldable pub sum : ℕ → ℕ → ℕ
sum a b = cond (ltb (18446744073709551615 - a) b) 18446744073709551615 (a + b)

abbrev pub ordered : Order → Bool → ℕ → ℕ → Order
ordered o sweep goal more =
    record {
      sweep = sweep;
      goal = goal;
      agreed = o.agreed;
      settled = o.settled;
      verdict = o.verdict;
      ticks = o.ticks;
      slice = sum o.ticks more;
      span = o.span;
    }

unfoldable pub changed : List ℕ → Netlist → Search → Bool → ℕ → ℕ → Searched
changed w net s sweep goal more = retreated w net (with_order s (ordered s.order sweep goal more)) 0

-- the values of all nodes at the floor
abbrev pub shown_words : List ℕ → Netlist → List ℕ
shown_words w net = evaluated w net 0 net.nodes

abbrev pub is_shown : List ℕ → Netlist → Bool
is_shown w net = eqb (edge (shown_words w net) net.nodes net.root) 1

unfoldable pub confirmed : List ℕ → Netlist → Search → Searched
confirmed w net s = cond (is_shown w net) (searched (shown_words w net) (ended s 1)) (searched (shown_words w net) (ended s 3))

-- free bits up to node a have the floor's values
abbrev pub modelled_to : List ℕ → Netlist → Search → ℕ → Searched
modelled_to w net s a = cond (ltb a net.free) (changed w net s true (a + 1) 30000) (confirmed w net s)

unfoldable pub modelled : List ℕ → Netlist → Search → Searched
modelled w net s = modelled_to w net s (agreed w net.nodes s.order.agreed (net.free - s.order.agreed))

-- by the heap without nodes that have values at its top
abbrev pub active_by : Heaped → Netlist → Search → Searched
active_by h net s =
    cond (eqb h.heap.size 0) (modelled h.words net (with_heap s h.heap))
    (taken h.words net (with_heap s h.heap) (2 * (node_at h.words net.nodes 0 % 65536) + 1))

unfoldable pub decided_active : List ℕ → Netlist → Search → Searched
decided_active w net s = active_by (skimmed w net.nodes s.heap s.heap.size) net s

abbrev pub decided_from : List ℕ → Netlist → Search → ℕ → ℕ → Searched
decided_from w net s end a =
    cond (ltb a end) (assumed w net (with_order s (with_agreed s.order a)) (a + 1))
    (decided_active w net (with_order s (with_agreed s.order a)))

unfoldable pub decided_next : List ℕ → Netlist → Search → ℕ → Searched
decided_next w net s end = decided_from w net s end (agreed w net.nodes s.order.agreed (end - s.order.agreed))

abbrev pub chosen_by : List ℕ → Netlist → Search → ℕ → Searched
chosen_by w net s x =
    cond (eqb x 2) (taken w net s net.root)
    (cond (eqb x 0) (contradicted w net s (opposite net.root))
    (cond s.order.sweep (decided_next w net s net.free) (decided_next w net s s.order.goal)))

unfoldable pub chosen : List ℕ → Netlist → Search → Searched
chosen w net s = chosen_by w net s (value w net.nodes net.root)
