-- Worked examples: the conjunction of two variables, quantified from each level on. Assumes nothing.
use mathlib.Core.Path.{◌≡◌, refl}
use mathlib.Core.List.{List, [], ◌∷◌}
use mathlib.Core.Option.{Option, some}
use Prim.Native.Nat.{ℕ}
use lib.ListN.{replicate}
use Rattle.diagrams.specs.Words.{false_vertex, bucket_of, flip, edge_to, is_node}
use Rattle.diagrams.specs.States.{State, Outcome, and_then, found, is_above, added, appended, found_or_appended, made}
use Rattle.diagrams.specs.States.{paid, is_paid, entry_at, entry_of, looked_up, stored, keeping, remembered, finished}
use Rattle.quantification.specs.Quantification.{or_plain, from_halves, turn, exists_within, exists}

-- node 0 alone, with room for 20 nodes, 50 looks, 4 hash lists and 8 entries
start : State
start = record { room = 20; looks = 50; nodes = false_vertex ∷ []; heads = replicate 4 0; cache = replicate 32 0 }

-- variable 0, edge 2; variable 1, edge 4; their conjunction, edge 6; and what is quantified of it or of its complement
abbrev from : ℕ → ℕ → Option ℕ
from level c =
    (and_then (made start 0 0 1) (λ s x. and_then (made s 1 0 1) (λ t y. and_then (made t 0 0 y) (λ u e. exists level u (flip e c))))).edge

-- no variable, the later variable, both variables
examples : (from 2 0 ≡ some 6) × (from 1 0 ≡ some 2) × (from 0 0 ≡ some 1) × (from 2 1 ≡ some 7) × (from 1 1 ≡ some 1)
unfolding start bucket_of flip edge_to is_node found is_above added appended found_or_appended made paid is_paid entry_at entry_of looked_up
    stored keeping remembered finished or_plain from_halves turn exists_within exists
examples = (refl, refl, refl, refl, refl)
