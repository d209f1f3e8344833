-- Stores that leave the claimed words as they are: to the words of a record that guide the search, to words after the literals of the kept
-- clauses, and to the words of a head that guide it. Assumes nothing.
use mathlib.Core.Path.{◌≡◌, refl, sym, ap, ◌∙◌}
use mathlib.Core.Bool.{Bool, true, false, cond}
use mathlib.Core.List.{List}
use Prim.Native.Nat.{ℕ, ◌+◌, ◌-◌, ◌*◌, ◌/◌, ◌%◌, ◌≤◌, ◌<◌}
use native.Mathlib.Omega.{arith}
use borrow.Author.Tests.{le-leb, lt-leb, leb-true, leb-false}
use lib.Dec.{leb}
use lib.ListN.{length, get_or, set, length-set}
use lib.Seq.{get_or-set_same, get_or-set_other}
use Rattle.memory.specs.Record.{field, place, stored, head, headed, head_place, literal, written}
use Rattle.memory.specs.declared.Netlist.{Netlist}
use Rattle.memory.specs.declared.Arena.{Arena}
use Rattle.reasons.specs.Claims.{Same}
use Rattle.reasons.proofs.Valid.{same_refl}

-- a word of a record, after a store elsewhere
pub field-other : (w : List ℕ) (nodes v f i x : ℕ) → (v < nodes → place v f ≡ i → ⊥) → field (set w i x) nodes v f ≡ field w nodes v f
unfolding field
field-other w nodes v f i x other = go (leb nodes v) refl
  where
    go : (b : Bool) → leb nodes v ≡ b → cond b 0 (get_or (set w i x) (place v f) 0) ≡ cond b 0 (get_or w (place v f) 0)
    go true e = refl
    go false e = get_or-set_other w i (place v f) x 0 (other (leb-false nodes v e))

pub length-stored : (w : List ℕ) (nodes v f x : ℕ) → length (stored w nodes v f x) ≡ length w
unfolding stored
length-stored w nodes v f x = go (leb nodes v)
  where
    go : (b : Bool) → length (cond b w (set w (place v f) x)) ≡ length w
    go true = refl
    go false = length-set w (place v f) x

-- the word that was stored
pub stored_at : (w : List ℕ) (nodes v f x : ℕ) → 14 * nodes ≤ length w → f < 14 → v < nodes → field (stored w nodes v f x) nodes v f ≡ x
unfolding stored field
stored_at w nodes v f x long small l = rw (lt-leb nodes v l) (get_or-set_same w (place v f) x 0 (omega arith))

-- there is no such node
pub stored-none : (w : List ℕ) (nodes v f x : ℕ) → nodes ≤ v → stored w nodes v f x ≡ w
unfolding stored
stored-none w nodes v f x l = rw (le-leb nodes v l)

-- a word that is in no record
pub stored-after : (w : List ℕ) (nodes v f x i : ℕ) → f < 14 → 14 * nodes ≤ i → get_or (stored w nodes v f x) i 0 ≡ get_or w i 0
unfolding stored
stored-after w nodes v f x i small after = go (leb nodes v) refl
  where
    go : (b : Bool) → leb nodes v ≡ b → get_or (cond b w (set w (place v f) x)) i 0 ≡ get_or w i 0
    go true e = refl
    go false e = let l = leb-false nodes v e in get_or-set_other w (place v f) i x 0 (λ z. omega arith)

-- another word of a record
pub stored-field : (w : List ℕ) (nodes v f x u h : ℕ) → f < 14 → h < 14 → (u ≡ v → h ≡ f → ⊥) → field (stored w nodes v f x) nodes u h ≡ field w nodes u h
unfolding stored
stored-field w nodes v f x u h small few other = go (leb nodes v) refl
  where
    go : (b : Bool) → leb nodes v ≡ b → field (cond b w (set w (place v f) x)) nodes u h ≡ field w nodes u h
    go true e = refl
    go false e = field-other w nodes u h (place v f) x (λ l z. other (omega arith) (omega arith))

module _ (net : Netlist) (arena : Arena) (w : List ℕ) (room : 14 * net.nodes + arena.used + 6 * arena.count ≤ net.words) where
  pub stored_same : (v f x : ℕ) → 3 ≤ f → f < 14 → Same net arena w (stored w net.nodes v f x)
  unfolding head_place
  stored_same v f x low high =
      record {
        long = length-stored w net.nodes v f x;
        node = λ u h l. stored-field w net.nodes v f x u h high (omega arith) (λ e z. omega arith);
        clause = λ p l. stored-after w net.nodes v f x (14 * net.nodes + p) high (omega arith);
        head = λ c h l k. stored-after w net.nodes v f x (head_place net.words c h) high (omega arith);
      }

  pub written_same : (i x : ℕ) → 14 * net.nodes + arena.used + 6 * arena.count + i < net.words → Same net arena w (written w net.nodes arena.used i x)
  unfolding head_place
  written_same i x free =
      let at = 14 * net.nodes + arena.used + i in
      record {
        long = length-set w at x;
        node = λ u h l. field-other w net.nodes u h at x (λ s z. omega arith);
        clause = λ p l. get_or-set_other w at (14 * net.nodes + p) x 0 (λ z. omega arith);
        head = λ c h l k. get_or-set_other w at (head_place net.words c h) x 0 (λ z. omega arith);
      }

  pub headed-same : (c f x : ℕ) → c < arena.count → 2 ≤ f → f < 6 → Same net arena w (headed w net.words c f x)
  unfolding head_place
  headed-same c f x small low high =
      let at = head_place net.words c f in
      record {
        long = length-set w at x;
        node = λ u h l. field-other w net.nodes u h at x (λ s z. omega arith);
        clause = λ p l. get_or-set_other w at (14 * net.nodes + p) x 0 (λ z. omega arith);
        head = λ d h l k. get_or-set_other w at (head_place net.words d h) x 0 (λ z. omega arith);
      }
