-- Learning from a conflict, as functions of the words and of where the search stands. Assumes nothing.
use Rattle.std.specs.Prelude.{◌≡◌, Bool, cond, List, ℕ, zero, suc, ◌+◌, ◌-◌, ◌*◌, ◌/◌, eqb, leb, ltb}
use Rattle.memory.specs.Record.{undef, field}
use Rattle.memory.specs.declared.Netlist.{Netlist}
use Rattle.memory.specs.declared.Arena.{Arena}
use Rattle.memory.specs.declared.Draft.{Draft}
use Rattle.memory.specs.declared.Trail.{Trail}
use Rattle.memory.specs.declared.Heap.{Heap}
use Rattle.resolve.specs.Draft.{Drafted, draft_at}
use Rattle.analysis.specs.Analysis.{analysed}
use Rattle.kept.specs.Kept.{Arenaed, arena_of, settled, kept, attached, detached}
use Rattle.trail.specs.declared.State.{State}
use Rattle.trail.specs.Trail.{Stood, assigned, backtracked}
use Rattle.heap.specs.Heap.{Heaped, restored, cooled}
use Rattle.settling.specs.Settling.{settled_from}
use Rattle.learning.specs.declared.Order.{Order}
use Rattle.learning.specs.declared.Search.{Search}
use Rattle.learning.specs.declared.TopTwo.{TopTwo}

-- what a step leaves: the words and where the search stands
pub record Searched : Type 0 where
  pub words : List ℕ
  pub search : Search

pub record Left (w : List ℕ) (s : Search) (to : Searched) : Type 0 where
  pub words : w ≡ to.words
  pub search : s ≡ to.search

abbrev pub searched : List ℕ → Search → Searched
searched w s = record { words = w; search = s }

abbrev pub with_trail : Search → State → Search
with_trail s t = record { trail = t; arena = s.arena; heap = s.heap; order = s.order }

abbrev pub with_arena : Search → Arena → Search
with_arena s a = record { trail = s.trail; arena = a; heap = s.heap; order = s.order }

abbrev pub with_heap : Search → Heap → Search
with_heap s h = record { trail = s.trail; arena = s.arena; heap = h; order = s.order }

abbrev pub with_order : Search → Order → Search
with_order s o = record { trail = s.trail; arena = s.arena; heap = s.heap; order = o }

abbrev pub none_agreed : Order → Order
none_agreed o =
    record {
      sweep = o.sweep;
      goal = o.goal;
      agreed = 0;
      settled = o.settled;
      verdict = o.verdict;
      ticks = o.ticks;
      slice = o.slice;
      span = o.span;
    }

-- the nodes whose values were taken back are in the heap again: the trail had n entries
abbrev pub restored_after : Stood → Netlist → Search → ℕ → Searched
restored_after b net s n =
    searched (restored b.words net s.heap b.state.length n).words
    (with_order (with_heap (with_trail s b.state) (restored b.words net s.heap b.state.length n).heap) (none_agreed s.order))

unfoldable pub retreated : List ℕ → Netlist → Search → ℕ → Searched
retreated w net s to = restored_after (backtracked w net s.trail to) net s s.trail.length

abbrev pub all_settled : Order → ℕ → Order
all_settled o n =
    record {
      sweep = o.sweep;
      goal = o.goal;
      agreed = o.agreed;
      settled = n;
      verdict = o.verdict;
      ticks = o.ticks;
      slice = o.slice;
      span = o.span;
    }

unfoldable pub settled_level : List ℕ → Netlist → Search → Searched
settled_level w net s =
    cond (eqb s.trail.level 0)
    (searched (settled_from w net s.arena s.order.settled (s.trail.length - s.order.settled))
    (with_order s (all_settled s.order s.trail.length))) (searched w s)

abbrev pub dropped : Searched → Netlist → Searched
dropped s net = searched (detached s.words net net.nodes) (with_arena s.search (arena_of 0 0))

abbrev pub settled_then : Searched → Netlist → Searched
settled_then s net = settled_level s.words net s.search

unfoldable pub forgotten : List ℕ → Netlist → Search → Searched
forgotten w net s = dropped (settled_then (retreated w net s 0) net) net

unfoldable pub asserted : List ℕ → Netlist → Search → ℕ → ℕ → Searched
asserted w net s l why =
    searched (assigned w net s.trail l why).words (with_trail s (assigned w net s.trail l why).state)

abbrev pub pair_of : ℕ → ℕ → TopTwo
pair_of a b = record { first = a; second = b }

-- two literals by their levels
unfoldable pub ranked_two : List ℕ → ℕ → ℕ → ℕ → TopTwo
ranked_two w nodes a b = cond (ltb (field w nodes (a / 2) 6) (field w nodes (b / 2) 6)) (pair_of b a) (pair_of a b)

-- and a third
unfoldable pub ranked : List ℕ → ℕ → TopTwo → ℕ → TopTwo
ranked w nodes h l =
    cond (ltb (field w nodes (h.first / 2) 6) (field w nodes (l / 2) 6)) (pair_of l h.first)
    (cond (ltb (field w nodes (h.second / 2) 6) (field w nodes (l / 2) 6)) (pair_of h.first l) h)

-- and the first n of the working clause
unfoldable pub ranked_all : List ℕ → Netlist → Arena → ℕ → TopTwo → TopTwo
ranked_all w net arena zero h = h
ranked_all w net arena (suc n) h = ranked_all w net arena n (ranked w net.nodes h (draft_at w net arena n))

-- of the first n of the working clause, from the last on; of literals of one level those that come last in the clause
abbrev pub highest : List ℕ → Netlist → Arena → ℕ → TopTwo
highest w net arena n =
    ranked_all w net arena (n - 2) (ranked_two w net.nodes (draft_at w net arena (n - 1)) (draft_at w net arena (n - 2)))

unfoldable pub target : List ℕ → ℕ → ℕ → ℕ → ℕ
target w nodes o level = cond (ltb (field w nodes (o / 2) 6) level) (field w nodes (o / 2) 6) (level - 1)

unfoldable pub watched : List ℕ → Netlist → Search → ℕ → ℕ → Searched
watched w net s l o =
    cond (eqb s.arena.count 0) (searched w s)
    (cond (leb 1073741823 s.arena.count) (searched w s)
    (asserted (attached (attached w net (s.arena.count - 1) 0 l) net (s.arena.count - 1) 1 o) net s l (4 * (s.arena.count - 1) + 3)))

unfoldable pub installed : List ℕ → Netlist → Search → ℕ → ℕ → ℕ → Searched
installed w net s l o old = cond (eqb s.arena.count old) (forgotten w net s) (watched w net s l o)

abbrev pub installed_after : Searched → Netlist → ℕ → ℕ → ℕ → Searched
installed_after s net l o old = installed s.words net s.search l o old

-- the words and the arena with the working clause, back to level `to`
abbrev pub retreated_after : Arenaed → Netlist → Search → ℕ → Searched
retreated_after a net s to = retreated a.words net (with_arena s a.arena) to

-- by the two literals of the highest levels
unfoldable pub kept_by : List ℕ → Netlist → Search → Draft → ℕ → ℕ → Searched
kept_by w net s d l o =
    installed_after (retreated_after (kept w net s.arena d 0) net s (target w net.nodes o s.trail.level)) net l o s.arena.count

abbrev pub kept_by_two : List ℕ → Netlist → Search → Draft → TopTwo → Searched
kept_by_two w net s d h = kept_by w net s d h.first h.second

unfoldable pub kept_clause : List ℕ → Netlist → Search → Draft → Searched
kept_clause w net s d = kept_by_two w net s d (highest w net s.arena d.length)

abbrev pub asserted_after : Searched → Netlist → ℕ → ℕ → Searched
asserted_after s net l why = asserted s.words net s.search l why

unfoldable pub kept_literal : List ℕ → Netlist → Search → Draft → Searched
kept_literal w net s d =
    asserted_after (retreated (settled w net s.arena d) net s 0) net (draft_at w net s.arena 0) undef

unfoldable pub stored_clause : List ℕ → Netlist → Search → Draft → Searched
stored_clause w net s d =
    cond d.whole
    (cond (eqb d.length 1) (kept_literal w net s d) (cond (ltb 1 d.length) (kept_clause w net s d) (forgotten w net s)))
    (forgotten w net s)

abbrev pub trail_of : State → Trail
trail_of t = record { length = t.length; next = t.next; level = t.level; ticks = 0 }

abbrev pub stored_after : Drafted → Netlist → Search → Searched
stored_after d net s = stored_clause d.words net s d.draft

abbrev pub learnt_after : Heaped → Netlist → Search → ℕ → Searched
learnt_after h net s r =
    stored_after (analysed h.words net s.arena (trail_of s.trail) r h.heap.step) net (with_heap s h.heap)

unfoldable pub learnt : List ℕ → Netlist → Search → ℕ → Searched
learnt w net s r = learnt_after (cooled w net.nodes s.heap) net s r
