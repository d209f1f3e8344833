-- Analysis of a conflict, as functions of the words. Assumes nothing.
use Rattle.std.specs.Prelude.{◌≡◌, Bool, true, false, cond, List, ℕ, zero, suc, ◌+◌, ◌-◌, ◌/◌, eqb, leb, ltb}
use Rattle.memory.specs.Record.{Counted, counted, largest, field, stored, opposite}
use Rattle.memory.specs.declared.Netlist.{Netlist}
use Rattle.memory.specs.declared.Arena.{Arena}
use Rattle.memory.specs.declared.Draft.{Draft}
use Rattle.memory.specs.declared.Trail.{Trail}
use Rattle.reasons.specs.Reason.{is_reason}
use Rattle.resolve.specs.Draft.{Drafted, draft_of, drafted, draft_at, is_member, started, resolved}
use Rattle.analysis.specs.declared.Analysis.{Analysis}

-- what a step leaves: the words and an analysis
pub record Analysed : Type 0 where
  pub words : List ℕ
  pub now : Analysis

pub record Left (w : List ℕ) (a : Analysis) (to : Analysed) : Type 0 where
  pub words : w ≡ to.words
  pub now : a ≡ to.now

abbrev pub reached : List ℕ → Analysis → Analysed
reached w a = record { words = w; now = a }

abbrev pub analysis_of : Draft → ℕ → Analysis
analysis_of d n = record { length = d.length; whole = d.whole; current = n }

-- the working clause of an analysis
abbrev pub draft : Analysis → Draft
draft a = draft_of a.length a.whole

unfoldable pub sum : ℕ → ℕ → ℕ
sum a b = cond (ltb (largest - a) b) largest (a + b)

abbrev pub less : ℕ → ℕ
less a = a - 1

-- the activity of node v rises
unfoldable pub touched : List ℕ → ℕ → ℕ → ℕ → List ℕ
touched w nodes v step = stored w nodes v 11 (sum (field w nodes v 11) step)

unfoldable pub tallied : List ℕ → ℕ → ℕ → ℕ → ℕ → ℕ
tallied w nodes v level n = cond (eqb (field w nodes v 6) level) (sum n 1) n

-- those of the first k literals of the working clause that stand at place `from` or later
unfoldable pub touched_all : List ℕ → Netlist → Arena → ℕ → ℕ → ℕ → ℕ → ℕ → Counted
touched_all w net arena from level step zero n = counted w n
touched_all w net arena from level step (suc k) n =
    cond (leb (suc k) from) (counted w n)
    (touched_all (touched w net.nodes (draft_at w net arena k / 2) step) net arena from level step k
    (tallied w net.nodes (draft_at w net arena k / 2) level n))

-- the working clause d after resolution, its literals from place `from` on touched
unfoldable pub recounted : List ℕ → Netlist → Arena → Draft → ℕ → ℕ → ℕ → ℕ → Analysed
recounted w net arena d from current level step =
    reached (touched_all w net arena from level step d.length 0).words
    (analysis_of d (sum (less current) (touched_all w net arena from level step d.length 0).count))

unfoldable pub replaced : List ℕ → Netlist → Arena → Analysis → ℕ → ℕ → ℕ → Analysed
replaced w net arena a l level step =
    recounted (resolved w net arena (draft a) (field w net.nodes (l / 2) 4) l).words net arena
    (resolved w net arena (draft a) (field w net.nodes (l / 2) 4) l).draft (less a.length) a.current level step

unfoldable pub visited : List ℕ → Netlist → Arena → Analysis → ℕ → ℕ → ℕ → Analysed
visited w net arena a t level step =
    cond (is_member w net arena (draft a) (opposite (field w net.nodes t 9)))
    (replaced w net arena a (field w net.nodes t 9) level step) (reached w a)

unfoldable pub descended : List ℕ → Netlist → Arena → Analysis → ℕ → ℕ → ℕ → Analysed
descended w net arena a level step zero = reached w a
descended w net arena a level step (suc t) =
    cond (leb a.current 1) (reached w a)
    (descended (visited w net arena a t level step).words net arena (visited w net arena a t level step).now level step t)

-- from the working clause d
unfoldable pub followed : List ℕ → Netlist → Arena → Draft → Trail → ℕ → Drafted
followed w net arena d trail step =
    drafted
    (descended (touched_all w net arena 0 trail.level step d.length 0).words net arena
    (analysis_of d (touched_all w net arena 0 trail.level step d.length 0).count) trail.level step trail.length).words
    (draft
    (descended (touched_all w net arena 0 trail.level step d.length 0).words net arena
    (analysis_of d (touched_all w net arena 0 trail.level step d.length 0).count) trail.level step trail.length).now)

unfoldable pub analysed : List ℕ → Netlist → Arena → Trail → ℕ → ℕ → Drafted
analysed w net arena trail r step = followed (started w net arena r).words net arena (started w net arena r).draft trail step

-- literal l, with this reason
unfoldable pub unfolded : List ℕ → Netlist → Arena → Draft → ℕ → ℕ → Drafted
unfolded w net arena d l why =
    cond (is_reason net arena why) (cond (is_member w net arena d (opposite l)) (resolved w net arena d why l) (drafted w d)) (drafted w d)

unfoldable pub expanded : List ℕ → Netlist → Arena → Draft → ℕ → Drafted
expanded w net arena d t = unfolded w net arena d (field w net.nodes t 9) (field w net.nodes (field w net.nodes t 9 / 2) 4)

unfoldable pub expanded_from : List ℕ → Netlist → Arena → Draft → ℕ → Drafted
expanded_from w net arena d zero = drafted w d
expanded_from w net arena d (suc t) = expanded_from (expanded w net arena d t).words net arena (expanded w net arena d t).draft t

unfoldable pub expanded_all : List ℕ → Netlist → Arena → ℕ → ℕ → Drafted
expanded_all w net arena r n = expanded_from (started w net arena r).words net arena (started w net arena r).draft n
