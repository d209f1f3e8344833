-- The values of the free latches, one after the other. Assumes nothing.
use mathlib.Core.Path.{◌≡◌, refl, sym, ap, ◌∙◌}
use mathlib.Core.Bool.{Bool, true, false, cond, false≢true}
use mathlib.Core.List.{List, [], ◌∷◌}
use mathlib.Core.Option.{Option, none, some}
use Prim.Native.Nat.{ℕ, zero, suc, ◌+◌, ◌≤◌, ◌<◌}
use native.Mathlib.Numerals.{add-one}
use native.Mathlib.Omega.{arith}
use borrow.Author.Tests.{lt-ltb, le-ltb, eq-eqb, ne_eqb}
use lib.Dec.{ltb, eqb}
use lib.ListN.{length, get_or, set, drop, drop_of_length-le}
use lib.Seq.{drop-cons}
use Rattle.diagrams.specs.Words.{flip}
use Rattle.std.specs.Prelude.{Ok, Err, IsErr}
use Rattle.diagrams.specs.States.{State, state_of, Outcome, outcome, Made, made}
use Rattle.diagrams.specs.Meaning.{value}
use Rattle.diagrams.proofs.Follow.{then-full, then-edge}
use Rattle.conjunction.specs.Conjunction.{both}
use Rattle.state_sets.specs.Sets.{starts_in}
use Rattle.set_walk.specs.declared.Start.{Start}
use Rattle.set_walk.specs.declared.Start.TheVariants as variants
use Rattle.set_walk.specs.Walk.{bits_of}
use Rattle.set_walk.specs.Start.{Picked, picked, leaves, without, pick_from, pick_one, pick_then, pick_all, Sought, sought, test_picked, seek_from, seek}

-- ---- the steps of the code

-- the answer that `?` hands on
pub full-leaves : (w : List ℕ) (r : Made) (bits : List ℕ) (p : Picked) → IsErr r → picked (state_of w) none bits ≡ p → leaves w r bits ≡ p
full-leaves w (Ok e) bits p h q = absurd (false≢true h)
full-leaves w (Err full) bits p h q = q

module _ (e v : ℕ) (s : State) where
  pub without-none : (t : State) → outcome t none ≡ made s v 0 1 → outcome t none ≡ without e v s
  unfolding without
  without-none t h = then-full (made s v 0 1) (λ t x. both t e (flip x 1)) t h

  pub without-edge : (t : State) (x y : ℕ) (o : Outcome) → y ≡ flip x 1 → outcome t (some x) ≡ made s v 0 1 → o ≡ both t e y → o ≡ without e v s
  unfolding without
  without-edge t x y o p h q = then-edge (made s v 0 1) (λ t x. both t e (flip x 1)) t x o h (q ∙ ap (both t e) p)

module _ (e v : ℕ) (bits : List ℕ) (s : State) where
  pub pick-past : length bits ≤ v → picked s (some e) bits ≡ pick_one e v bits s
  unfolding pick_one
  pick-past l = sym (rw (le-ltb v (length bits) l))

  module _ (l : v < length bits) where
    pick-in : (p : Picked) (o : Outcome) → o ≡ without e v s → p ≡ pick_from e v bits o → p ≡ pick_one e v bits s
    unfolding pick_one
    pick-in p o h q = q ∙ ap (pick_from e v bits) h ∙ sym (rw (lt-ltb v (length bits) l))

    pub pick-none : (t : State) → outcome t none ≡ without e v s → picked t none bits ≡ pick_one e v bits s
    pick-none t h = pick-in (picked t none bits) (outcome t none) h refl

    pub pick_true : (t : State) (d : ℕ) → outcome t (some d) ≡ without e v s → d ≡ 0 → picked t (some e) (set bits v 1) ≡ pick_one e v bits s
    pick_true t d h z = pick-in (picked t (some e) (set bits v 1)) (outcome t (some d)) h (sym (rw (eq-eqb d 0 z)))

    pub pick-false : (t : State) (d : ℕ) → outcome t (some d) ≡ without e v s → (d ≡ 0 → ⊥) → picked t (some d) bits ≡ pick_one e v bits s
    pick-false t d h z = pick-in (picked t (some d) bits) (outcome t (some d)) h (sym (rw (ne_eqb d 0 z)))

module _ (frees : List ℕ) (u : ℕ) (s : State) (e : ℕ) (bits : List ℕ) where
  pub all_none : length frees ≤ u → picked s (some e) bits ≡ pick_all (drop u frees) s e bits
  unfolding pick_all
  all_none l = sym (ap (λ (vs : List ℕ). pick_all vs s e bits) (drop_of_length-le frees {i = u} l))

  all-step : u < length frees → pick_then (pick_one e (get_or frees u 0) bits s) (pick_all (drop (u + 1) frees)) ≡ pick_all (drop u frees) s e bits
  unfolding pick_all
  all-step l =
      sym
      (ap (λ (vs : List ℕ). pick_all vs s e bits) (drop-cons frees u 0 l)
      ∙ ap (λ (k : ℕ). pick_then (pick_one e (get_or frees u 0) bits s) (pick_all (drop k frees))) (sym (add-one u)))

  pub all-full : (t : State) (bs : List ℕ) → u < length frees → picked t none bs ≡ pick_one e (get_or frees u 0) bits s
      → picked t none bs ≡ pick_all (drop u frees) s e bits
  all-full t bs l h = ap (λ (p : Picked). pick_then p (pick_all (drop (u + 1) frees))) h ∙ all-step l

  pub all_more : (t : State) (d : ℕ) (bs : List ℕ) → u < length frees → picked t (some d) bs ≡ pick_one e (get_or frees u 0) bits s
      → pick_all (drop (u + 1) frees) t d bs ≡ pick_all (drop u frees) s e bits
  all_more t d bs l h = ap (λ (p : Picked). pick_then p (pick_all (drop (u + 1) frees))) h ∙ all-step l

-- ---- a set and its start states

module _ (vars rows t : ℕ) (frees table bits : List ℕ) (s : State) where
  seek-from : (x : Sought) (o : Outcome) → o ≡ starts_in vars rows t table s → x ≡ seek_from t frees table bits o → x ≡ seek vars rows t frees table bits s
  unfolding seek
  seek-from x o h q = q ∙ ap (seek_from t frees table bits) h

  pub seek-full : (u : State) → outcome u none ≡ starts_in vars rows t table s → sought u variants.Full bits ≡ seek vars rows t frees table bits s
  seek-full u h = seek-from (sought u variants.Full bits) (outcome u none) h refl

  pub seek-none : (u : State) (e : ℕ) → outcome u (some e) ≡ starts_in vars rows t table s → e ≡ 0
      → sought u variants.Nowhere bits ≡ seek vars rows t frees table bits s
  seek-none u e h z = seek-from (sought u variants.Nowhere bits) (outcome u (some e)) h (sym (rw (eq-eqb e 0 z)))

  module _ (u : State) (e : ℕ) (h : outcome u (some e) ≡ starts_in vars rows t table s) (z : e ≡ 0 → ⊥) where
    seek-picked : (x : Sought) (p : Picked) → p ≡ pick_all frees u e bits → x ≡ test_picked t table p → x ≡ seek vars rows t frees table bits s
    seek-picked x p q k = seek-from x (outcome u (some e)) h (k ∙ ap (test_picked t table) q ∙ sym (rw (ne_eqb e 0 z)))

    pub seek-out : (y : State) (bs : List ℕ) → picked y none bs ≡ pick_all frees u e bits → sought y variants.Full bs ≡ seek vars rows t frees table bits s
    seek-out y bs q = seek-picked (sought y variants.Full bs) (picked y none bs) q refl

    pub seek-least : (y : State) (d : ℕ) (bs : List ℕ) → picked y (some d) bs ≡ pick_all frees u e bits
        → value y.nodes (bits_of bs) (get_or table t 0) ≡ true → sought y variants.Least bs ≡ seek vars rows t frees table bits s
    seek-least y d bs q v = seek-picked (sought y variants.Least bs) (picked y (some d) bs) q (ap (λ (b : Bool). sought y (cond b variants.Least variants.Full) bs) (sym v))

    pub seek-unknown : (y : State) (d : ℕ) (bs : List ℕ) → picked y (some d) bs ≡ pick_all frees u e bits
        → value y.nodes (bits_of bs) (get_or table t 0) ≡ false → sought y variants.Full bs ≡ seek vars rows t frees table bits s
    seek-unknown y d bs q v = seek-picked (sought y variants.Full bs) (picked y (some d) bs) q (ap (λ (b : Bool). sought y (cond b variants.Least variants.Full) bs) (sym v))
