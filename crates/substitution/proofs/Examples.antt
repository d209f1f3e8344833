-- Worked examples: two variables and their conjunction, substituted and evaluated. Assumes nothing.
use mathlib.Core.Path.{◌≡◌, refl}
use mathlib.Core.List.{List, [], ◌∷◌}
use mathlib.Core.Option.{Option, none, some}
use Prim.Native.Nat.{ℕ}
use lib.ListN.{length, replicate}
use Rattle.diagrams.specs.Words.{false_vertex, bucket_of, flip, edge_to, is_node}
use Rattle.diagrams.specs.States.{State, Outcome, and_then, found, is_above, added, appended, found_or_appended, made}
use Rattle.diagrams.specs.States.{paid, is_paid, entry_at, entry_of, looked_up, stored, keeping, remembered, finished}
use Rattle.conjunction.specs.Conjunction.{smaller, larger, low, high, split_of, known, from_cofactors, or_known, in_order}
use Rattle.conjunction.specs.Conjunction.{both_within, both, either}
use Rattle.conjunction.specs.Conjunction as conjunction
use Rattle.substitution.specs.Substitution.{arm, whole, of_arms, choice, half, finished_choice, from_halves, at_node, turn, or_constant}
use Rattle.substitution.specs.Substitution.{substituted_within, substituted}

-- node 0 alone, with room for 20 nodes, 50 looks, 4 hash lists and 8 entries
start : State
start = record { room = 20; looks = 50; nodes = false_vertex ∷ []; heads = replicate 4 0; cache = replicate 32 0 }

-- the variables 1 and 0, edges 2 and 4, then their conjunction, edge 6
abbrev with-both : (State → ℕ → Outcome) → Outcome
with-both k = and_then (made start 1 0 1) (λ t x. and_then (made t 0 0 1) (λ u y. and_then (both u x y) k))

-- the conjunction with the edges of a vector in place of the variables
abbrev put : List ℕ → Option ℕ
put by = (with-both (substituted by 0)).edge

-- each variable in its own place, or both exchanged: the same edge. 1 in place of one variable: the other. Constants: the value, and a
-- vector that is too short ends in zeros. The complement of the edge: the complement. No node is made where the result is there
examples : (put (4 ∷ 2 ∷ []) ≡ some 6) × (put (2 ∷ 4 ∷ []) ≡ some 6) × (put (4 ∷ 1 ∷ []) ≡ some 4) × (put (1 ∷ 1 ∷ []) ≡ some 1)
    × (put (1 ∷ []) ≡ some 0) × ((with-both (λ s e. substituted (1 ∷ 5 ∷ []) 0 s (flip e 1))).edge ≡ some 4)
    × ((with-both (substituted (2 ∷ 4 ∷ []) 0)).state.nodes ≡ (with-both (λ s e. substituted [] 0 s 0)).state.nodes)
unfolding start bucket_of flip edge_to is_node found is_above added appended found_or_appended made paid is_paid entry_at entry_of looked_up
    stored keeping remembered finished smaller larger low high split_of known from_cofactors or_known in_order both_within both either
    conjunction.turn arm whole of_arms choice half finished_choice from_halves at_node turn or_constant substituted_within substituted
examples = (refl, refl, refl, refl, refl, refl, refl)
