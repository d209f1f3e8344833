-- Clause 12.1: the order in which the second writer numbers gates: the next is the first in the list that waits for no operand. A table
-- has the number of each variable, 0 where it has none; the constant, variable 0, has number 0 and counts as numbered. Gates are given by
-- their variables, and by the variables of their operands, two for each gate. Assumes nothing.
use Rattle.std.specs.Prelude.{Bool, cond, ◌&&◌, ◌||◌, List, [], ◌∷◌, ℕ, zero, suc, ◌+◌, ◌*◌, eqb, ltb, length, get_or, set}
use Rattle.std.proofs.Math.Option.{Option, none, some}
use Rattle.aiger.specs.Search.{least_below}

-- variable v has a number
abbrev pub has : List ℕ → ℕ → Bool
has table v = eqb v 0 || ltb 0 (get_or table v 0)

-- gate i has no number, and both operands have one
abbrev pub is_ready : List ℕ → List ℕ → List ℕ → ℕ → Bool
is_ready vars ops table i =
    eqb (get_or table (get_or vars i 0) 0) 0 && (has table (get_or ops (2 * i) 0) && has table (get_or ops (2 * i + 1) 0))

-- the table after numbers from k on for these variables
unfoldable pub given : ℕ → List ℕ → List ℕ → List ℕ
given k [] table = table
given k (v ∷ vs) table = given (suc k) vs (set table v k)

-- what follows the next gate, and what is left where there is none
abbrev pub on_next : {A : Type 0} → Option ℕ → A → (ℕ → A) → A
on_next none stop go = stop
on_next (some i) stop go = go i

-- gate i before what follows
abbrev pub before : ℕ → List ℕ × List ℕ → List ℕ × List ℕ
before i r = (i ∷ r.0, r.1)

-- at most n gates in their order, numbered from k on, and the table after them
unfoldable pub taken : ℕ → List ℕ → List ℕ → ℕ → List ℕ → List ℕ × List ℕ
taken zero vars ops k table = ([], table)
taken (suc n) vars ops k table =
    on_next (least_below (length vars) (is_ready vars ops table)) ([], table)
    (λ i. before i (taken n vars ops (suc k) (set table (get_or vars i 0) k)))
