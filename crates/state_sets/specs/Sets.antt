-- The sets of states that are made one after the other, as functions of the diagram and the table of edges. Assumes nothing.
use Rattle.std.specs.Prelude.{◌≡◌, Bool, true, false, cond, List, ℕ, zero, suc, ◌+◌, ◌*◌, ltb, length, get_or, set, take, drop}
use Rattle.std.proofs.Math.Option.{Option, none, some}
use Rattle.diagrams.specs.Words.{flip}
use Rattle.diagrams.specs.States.{State, state_of, Outcome, outcome, and_then}
use Rattle.conjunction.specs.Conjunction.{both, either}
use Rattle.substitution.specs.Substitution.{substituted}
use Rattle.collection.specs.Collecting.{Collection, collected}
use Rattle.state_sets.specs.Shape.{row_at}

-- a diagram, and a table of edges
pub record Sets : Type 0 where
  pub state : State
  pub table : List ℕ

abbrev pub sets_of : List ℕ → List ℕ → Sets
sets_of w table = record { state = state_of w; table = table }

-- the same after a step, and whether the step was done
pub record Tried : Type 0 where
  pub sets : Sets
  pub done : Bool

abbrev pub tried : State → List ℕ → Bool → Tried
tried s table done = record { sets = record { state = s; table = table }; done = done }

-- what words, table and answer stand for after a step
abbrev pub left : List ℕ → List ℕ → Bool → Tried
left w table done = tried (state_of w) table done

-- what follows where a step was done
abbrev pub on_done : Bool → Sets → (Sets → Tried) → Tried
on_done true z next = next z
on_done false z next = record { sets = z; done = false }

abbrev pub where_done : Tried → (Sets → Tried) → Tried
where_done t next = on_done t.done t.sets next

-- the edges of the next values of the variables in row r
unfoldable pub next_of : ℕ → ℕ → List ℕ → List ℕ
next_of vars r table = take vars (drop (row_at vars r) table)

-- the states that row r leads into set `last`, and that are in no set
unfoldable pub before : ℕ → ℕ → ℕ → List ℕ → State → Outcome
before vars last r table s =
    and_then (substituted (next_of vars r table) r s (get_or table last 0))
    (λ t x. and_then (both t (get_or table (row_at vars r + vars) 0) x) (λ u y. both u (flip (get_or table 256 0) 1) y))

-- what row r adds to set `next`: to set 0 the states that it hits in
abbrev pub row_part : ℕ → ℕ → ℕ → List ℕ → State → Outcome
row_part vars zero r table s = outcome s (some (get_or table (row_at vars r + vars + 1) 0))
row_part vars (suc last) r table s = before vars last r table s

-- the part of set `next` that is made, with that of row r
unfoldable pub with_row : ℕ → ℕ → ℕ → List ℕ → State → Outcome
with_row vars next r table s = and_then (row_part vars next r table s) (λ t x. either t (get_or table 257 0) x)

-- the part that is made stands in word 257
abbrev pub part_stored : List ℕ → State → Option ℕ → Tried
part_stored table s none = tried s table false
part_stored table s (some e) = tried s (set table 257 e) true

abbrev pub part_in : List ℕ → Outcome → Tried
part_in table o = part_stored table o.state o.edge

unfoldable pub added_row : ℕ → ℕ → ℕ → Sets → Tried
added_row vars next r z = part_in z.table (with_row vars next r z.table z.state)

-- the part becomes set `next`, and e the union
abbrev pub set_stored : ℕ → List ℕ → State → Option ℕ → Tried
set_stored next table s none = tried s table false
set_stored next table s (some e) = tried s (set (set (set table 256 e) 257 0) next (get_or table 257 0)) true

abbrev pub set_in : ℕ → List ℕ → Outcome → Tried
set_in next table o = set_stored next table o.state o.edge

unfoldable pub closed : ℕ → Sets → Tried
closed next z = set_in next z.table (either z.state (get_or z.table 256 0) (get_or z.table 257 0))

-- step r to set `next`: what row r adds; after the last row the set is closed
unfoldable pub step_of : ℕ → ℕ → ℕ → ℕ → Sets → Tried
step_of vars rows next r z = cond (ltb r rows) (added_row vars next r z) (closed next z)

-- a step once more after a collection
abbrev pub on_kept : Bool → State → List ℕ → (Sets → Tried) → Tried
on_kept true s table step = step (record { state = s; table = table })
on_kept false s table step = tried s table false

abbrev pub after_collection : Collection → (Sets → Tried) → Tried
after_collection g step = on_kept g.kept g.state g.roots step

-- where a step was not done, it once more after a collection
abbrev pub or_again : Bool → Sets → (Sets → Tried) → Tried
or_again true z step = record { sets = z; done = true }
or_again false z step = after_collection (collected z.state z.table) step

abbrev pub again : (Sets → Tried) → Sets → Tried
again step z = or_again (step z).done (step z).sets step

-- n steps from step r on, each once more after a collection where it is not done
unfoldable pub turns : (ℕ → Sets → Tried) → ℕ → ℕ → Sets → Tried
turns step zero r z = record { sets = z; done = true }
turns step (suc n) r z = where_done (again (step r) z) (turns step n (suc r))

-- set `next` is made
unfoldable pub advanced : ℕ → ℕ → ℕ → Sets → Tried
advanced vars rows next z = turns (step_of vars rows next) (suc rows) 0 z

-- the states of set t that are start states, whose edge stands after the rows
unfoldable pub starts_in : ℕ → ℕ → ℕ → List ℕ → State → Outcome
starts_in vars rows t table s = both s (get_or table t 0) (get_or table (row_at vars rows) 0)
