-- The conflict search, as functions of the words and of where the search stands. Assumes nothing.
use Rattle.std.specs.Prelude.{◌≡◌, Bool, true, false, cond, List, ℕ, zero, suc, ◌+◌, ◌-◌, ◌*◌, ◌/◌, eqb, leb, ltb, set}
use Rattle.memory.specs.Record.{undef, successor, stored}
use Rattle.memory.specs.declared.Netlist.{Netlist}
use Rattle.memory.specs.declared.Arena.{Arena}
use Rattle.memory.specs.declared.Heap.{Heap}
use Rattle.kept.specs.Kept.{arena_of}
use Rattle.trail.specs.declared.State.{State}
use Rattle.trail.specs.Trail.{Stood}
use Rattle.heap.specs.Heap.{Heaped, heap_of, heaped, admitted}
use Rattle.settling.specs.Settling.{propagated}
use Rattle.learning.specs.declared.Order.{Order}
use Rattle.learning.specs.declared.Search.{Search}
use Rattle.learning.specs.Learning.{Searched, searched, with_order, settled_level, forgotten, learnt}
use Rattle.choices.specs.Choices.{changed, chosen, contradicted_at_zero}
use Rattle.conflicts.specs.declared.Verdict.{Verdict}

-- ---- before the first decision

unfoldable pub reset : List ℕ → ℕ → ℕ → ℕ → List ℕ
reset w nodes v value =
    stored (stored (stored (stored (stored w nodes v 3 0) nodes v 4 undef) nodes v 5 value) nodes v 6 0) nodes v 7 undef

unfoldable pub reset_rest : List ℕ → ℕ → ℕ → List ℕ
reset_rest w nodes v = stored (stored (stored (stored w nodes v 8 undef) nodes v 9 0) nodes v 10 0) nodes v 11 0

unfoldable pub reset_all : List ℕ → ℕ → ℕ → List ℕ
reset_all w nodes zero = w
reset_all w nodes (suc n) = reset_all (reset_rest (reset w nodes n 2) nodes n) nodes n

-- k words from word i on
unfoldable pub wiped : List ℕ → ℕ → ℕ → List ℕ
wiped w i zero = w
wiped w i (suc k) = wiped (set w i 0) (i + 1) k

unfoldable pub prepared : List ℕ → Netlist → List ℕ
prepared w net =
    wiped (stored (reset_all w net.nodes net.nodes) net.nodes 0 5 0) (14 * net.nodes) (net.words - 14 * net.nodes)

-- k nodes from node v on
unfoldable pub filled : List ℕ → Netlist → Heap → ℕ → ℕ → Heaped
filled w net h v zero = heaped w h
filled w net h v (suc k) = filled (admitted w net h v).words net (admitted w net h v).heap (successor v) k

abbrev pub first_order : Order
first_order = record { sweep = true; goal = 0; agreed = 0; settled = 0; verdict = 0; ticks = 0; slice = 2000; span = 75000 }

abbrev pub first_trail : State
first_trail = record { length = 0; next = 0; level = 0; ticks = 0; clash = undef; clause = undef; link = undef }

abbrev pub initial : Heap → Search
initial h = record { trail = first_trail; arena = arena_of 0 0; heap = h; order = first_order }

-- ---- a step

unfoldable pub sum : ℕ → ℕ → ℕ
sum a b = cond (ltb (18446744073709551615 - a) b) 18446744073709551615 (a + b)

abbrev pub work_of : ℕ → ℕ → ℕ
work_of from to = to - from + 1

abbrev pub counted : Order → ℕ → Order
counted o n =
    record {
      sweep = o.sweep;
      goal = o.goal;
      agreed = o.agreed;
      settled = o.settled;
      verdict = o.verdict;
      ticks = sum o.ticks n;
      slice = o.slice;
      span = o.span;
    }

abbrev pub followed_by : Stood → Search → Searched
followed_by t s =
    searched t.words
    (record { trail = t.state; arena = s.arena; heap = s.heap; order = counted s.order (work_of s.trail.next t.state.next) })

unfoldable pub followed : List ℕ → Netlist → Search → Searched
followed w net s = followed_by (propagated w net s.arena s.trail net.nodes) s

unfoldable pub is_full : Netlist → Arena → Bool
is_full net a = ltb net.words (14 * net.nodes + a.used + 6 * a.count + (net.words / 16 + 16))

unfoldable pub relieved : List ℕ → Netlist → Search → Searched
relieved w net s = cond (is_full net s.arena) (forgotten w net s) (searched w s)

abbrev pub doubled : Order → Order
doubled o =
    record {
      sweep = o.sweep;
      goal = o.goal;
      agreed = o.agreed;
      settled = o.settled;
      verdict = o.verdict;
      ticks = o.ticks;
      slice = o.slice;
      span = sum o.span o.span;
    }

unfoldable pub alternated : List ℕ → Netlist → Search → Searched
alternated w net s =
    cond (leb s.order.ticks s.order.slice) (searched w s)
    (cond s.order.sweep
    (changed w net (with_order s (doubled s.order)) false s.order.goal (sum s.order.span s.order.span))
    (changed w net s true s.order.goal (sum (sum s.order.span s.order.span) (sum s.order.span s.order.span))))

abbrev pub alternated_after : Searched → Netlist → Searched
alternated_after s net = alternated s.words net s.search

abbrev pub relieved_after : Searched → Netlist → Searched
relieved_after s net = relieved s.words net s.search

unfoldable pub repaired : List ℕ → Netlist → Search → Searched
repaired w net s =
    cond (eqb s.trail.level 0) (contradicted_at_zero w net s s.trail.clash)
    (alternated_after (relieved_after (learnt w net s s.trail.clash) net) net)

abbrev pub chosen_after : Searched → Netlist → Searched
chosen_after s net = chosen s.words net s.search

unfoldable pub extended : List ℕ → Netlist → Search → Searched
extended w net s = chosen_after (settled_level w net s) net

abbrev pub stepped_by : Searched → Netlist → Searched
stepped_by s net =
    cond (eqb s.search.trail.clash undef) (extended s.words net s.search) (repaired s.words net s.search)

unfoldable pub stepped : List ℕ → Netlist → Search → Searched
stepped w net s = stepped_by (followed w net s) net

-- at most so many steps, while there is no verdict and the work is below the effort
unfoldable pub steps : List ℕ → Netlist → Search → ℕ → ℕ → Searched
steps w net s effort zero = searched w s
steps w net s effort (suc k) =
    cond (eqb s.order.verdict 0)
    (cond (leb effort s.order.ticks) (searched w s) (steps (stepped w net s).words net (stepped w net s).search effort k))
    (searched w s)

-- ---- the search

-- the verdict's number as a verdict, after so much work
unfoldable pub verdict_of : ℕ → ℕ → Verdict
verdict_of x ticks = cond (eqb x 1) Verdict.Found (cond (eqb x 2) (Verdict.Clear ticks) Verdict.Out)

-- what the search leaves: the words and the verdict
pub record Result : Type 0 where
  pub words : List ℕ
  pub verdict : Verdict

pub record Ran (w : List ℕ) (v : Verdict) (to : Result) : Type 0 where
  pub words : w ≡ to.words
  pub verdict : v ≡ to.verdict

abbrev pub begun : List ℕ → Netlist → Heaped
begun w net = filled (prepared w net) net (heap_of 0 1024) 1 net.free

abbrev pub run : List ℕ → Netlist → ℕ → Searched
run w net effort = steps (begun w net).words net (initial (begun w net).heap) effort effort

unfoldable pub ran : List ℕ → Netlist → ℕ → Result
ran w net effort =
    record {
      words = (run w net effort).words;
      verdict = verdict_of (run w net effort).search.order.verdict (run w net effort).search.order.ticks;
    }
