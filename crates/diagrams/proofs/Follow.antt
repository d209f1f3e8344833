-- The steps of the code against the definitions: one law for each way through a function. Assumes nothing.
use mathlib.Core.Path.{◌≡◌, refl, sym, ap, ap₂, ◌∙◌}
use mathlib.Core.Bool.{Bool, true, false, cond, false≢true}
use mathlib.Core.List.{List, [], ◌∷◌, ◌++◌}
use mathlib.Core.Option.{Option, none, some}
use Prim.Native.Nat.{ℕ, zero, suc, ◌+◌, ◌*◌, ◌/◌, ◌≤◌, ◌<◌}
use native.Mathlib.Omega.{arith}
use borrow.Author.Tests.{lt-ltb, le-ltb, eq-eqb, ne_eqb}
use lib.Dec.{ltb, eqb}
use lib.ListN.{length, get_or}
use Rattle.diagrams.specs.declared.Vertex.{Vertex}
use Rattle.std.specs.Prelude as code
use Rattle.std.specs.Prelude.{Ok, Err, IsErr}
use Rattle.diagrams.specs.Words.{node_at, bucket_of, flip, edge_to, is_node}
use Rattle.diagrams.specs.States.{State, state_of, Outcome, outcome, edge_of, Made, left, and_then, found, is_above, added, appended, or_appended, list_of, found_or_appended, made, keeping, remembered, Seen, or_else}

-- ---- one call after the other: what a match on the answer of a call asks

-- the answer that `?` hands on
pub full-left : (w : List ℕ) (r : Made) (o : Outcome) → IsErr r → outcome (state_of w) none ≡ o → left w r ≡ o
full-left w (Ok e) o h q = absurd (false≢true h)
full-left w (Err full) o h q = q

pub then-full : (o : Outcome) (k : State → ℕ → Outcome) (t : State) → outcome t none ≡ o → outcome t none ≡ and_then o k
then-full o k t h = ap (λ (x : Outcome). and_then x k) h

pub then-edge : (o : Outcome) (k : State → ℕ → Outcome) (t : State) (e : ℕ) (x : Outcome) → outcome t (some e) ≡ o → x ≡ k t e
    → x ≡ and_then o k
then-edge o k t e x h q = q ∙ ap (λ (y : Outcome). and_then y k) h

-- the same after a look
pub else-edge : (x : Seen) (k : State → Outcome) (t : State) (e : ℕ) → record { state = t; hint = Ok (code.Some e) } ≡ x
    → outcome t (some e) ≡ or_else x k
else-edge x k t e h = ap (λ (y : Seen). or_else y k) h

pub else-full : (x : Seen) (k : State → Outcome) (t : State) → record { state = t; hint = Err (record {}) } ≡ x
    → outcome t none ≡ or_else x k
else-full x k t h = ap (λ (y : Seen). or_else y k) h

pub else-nothing : (x : Seen) (k : State → Outcome) (t : State) (o : Outcome) → record { state = t; hint = Ok code.None } ≡ x
    → o ≡ k t
    → o ≡ or_else x k
else-nothing x k t o h q = q ∙ ap (λ (y : Seen). or_else y k) h

-- a result is kept
pub remembered-edge : (o : Outcome) (a b c : ℕ) (t u : State) (e : ℕ) → outcome t (some e) ≡ o → u ≡ keeping t a b c e
    → outcome u (some e) ≡ remembered o a b c
unfolding remembered
remembered-edge o a b c t u e h k = then-edge o (λ t e. outcome (keeping t a b c e) (some e)) t e (outcome u (some e)) h
    (ap (λ (s : State). outcome s (some e)) k)

pub remembered-full : (o : Outcome) (a b c : ℕ) (t : State) → outcome t none ≡ o → outcome t none ≡ remembered o a b c
unfolding remembered
remembered-full o a b c t h = then-full o (λ t e. outcome (keeping t a b c e) (some e)) t h

-- ---- the walk of a hash list

module _ (ns : List Vertex) (v lo hi : ℕ) where
  pub found-spent : (n at : ℕ) → n ≤ 0 → found ns v lo hi n at ≡ 0
  unfolding found
  found-spent zero at h = refl
  found-spent (suc n) at h = absurd (omega arith)

  pub found-end : (n m at : ℕ) → n ≡ suc m → at ≡ 0 → found ns v lo hi n at ≡ 0
  unfolding found
  found-end n m at e z = ap (λ (k : ℕ). found ns v lo hi k at) e ∙ rw (eq-eqb at 0 z)

  pub found-yes : (n m at : ℕ) → n ≡ suc m → (at ≡ 0 → ⊥) → is_node (node_at ns at) v lo hi ≡ true → found ns v lo hi n at ≡ at
  unfolding found
  found-yes n m at e z t = ap (λ (k : ℕ). found ns v lo hi k at) e ∙ rw (ne_eqb at 0 z, t)

  pub found-more : (n m at : ℕ) → n ≡ suc m → (at ≡ 0 → ⊥) → is_node (node_at ns at) v lo hi ≡ false
      → found ns v lo hi n at ≡ found ns v lo hi m (node_at ns at).next
  unfolding found
  found-more n m at e z t = ap (λ (k : ℕ). found ns v lo hi k at) e ∙ rw (ne_eqb at 0 z, t)

-- ---- a new node

module _ (s : State) (h v lo hi : ℕ) where
  pub appended-no-room : s.room ≤ length s.nodes → outcome s none ≡ appended s h v lo hi
  unfolding appended
  appended-no-room l = sym (rw (le-ltb (length s.nodes) s.room l))

  module _ (l : length s.nodes < s.room) where
    pub appended-low : is_above s.nodes v lo ≡ false → outcome s none ≡ appended s h v lo hi
    unfolding appended
    appended-low p = sym (rw (lt-ltb (length s.nodes) s.room l, p))

    pub appended-high : is_above s.nodes v lo ≡ true → is_above s.nodes v hi ≡ false → outcome s none ≡ appended s h v lo hi
    unfolding appended
    appended-high p q = sym (rw (lt-ltb (length s.nodes) s.room l, p, q))

    pub appended-new : (t : State) (e : ℕ) → is_above s.nodes v lo ≡ true → is_above s.nodes v hi ≡ true → t ≡ added s h v lo hi
        → e ≡ edge_to (length s.nodes) → outcome t (some e) ≡ appended s h v lo hi
    unfolding appended
    appended-new t e p q a b =
        ap₂ (λ (u : State) (x : ℕ). outcome u (some x)) a b ∙ sym (rw (lt-ltb (length s.nodes) s.room l, p, q))

-- ---- a node that is found, or a new one

module _ (s : State) (v lo hi b g k : ℕ) (pb : b ≡ list_of s v lo hi) (pg : g ≡ get_or s.heads b 0)
    (pk : k ≡ found s.nodes v lo hi (length s.nodes) g) where
  whole : or_appended s b v lo hi k ≡ found_or_appended s v lo hi
  unfolding found_or_appended
  whole =
      ap₂ (λ (x y : ℕ). or_appended s x v lo hi y) pb
      (pk ∙ ap (found s.nodes v lo hi (length s.nodes)) (pg ∙ ap (λ (x : ℕ). get_or s.heads x 0) pb))

  pub found_here : (e : ℕ) → 0 < k → e ≡ edge_to k → outcome s (some e) ≡ found_or_appended s v lo hi
  found_here e l pe =
      let first : outcome s (some (edge_to k)) ≡ or_appended s b v lo hi k = sym (rw (lt-ltb 0 k l)) in
      ap (λ (x : ℕ). outcome s (some x)) pe ∙ first ∙ whole

  pub found_nowhere : (o : Outcome) → k ≤ 0 → o ≡ appended s b v lo hi → o ≡ found_or_appended s v lo hi
  found_nowhere o l po = let next : appended s b v lo hi ≡ or_appended s b v lo hi k = sym (rw (le-ltb 0 k l)) in po ∙ next ∙ whole

module _ (s : State) (v lo hi : ℕ) where
  pub made-same : lo ≡ hi → outcome s (some lo) ≡ made s v lo hi
  unfolding made
  made-same e = sym (rw (eq-eqb lo hi e))

  module _ (p q : ℕ) (differ : lo ≡ hi → ⊥) (ep : p ≡ flip lo lo) (eq : q ≡ flip hi lo) where
    -- the complement of the result is taken where lo is a complement
    made_of : and_then (found_or_appended s v p q) (λ u d. outcome u (some (flip d lo))) ≡ made s v lo hi
    unfolding made
    made_of =
        ap₂ (λ (x y : ℕ). and_then (found_or_appended s v x y) (λ u d. outcome u (some (flip d lo)))) ep eq ∙ sym (rw (ne_eqb lo hi differ))

    pub made-edge : (t : State) (e r : ℕ) → outcome t (some e) ≡ found_or_appended s v p q → r ≡ flip e lo → outcome t
        (some r) ≡ made s v lo hi
    made-edge t e r h er =
        then-edge (found_or_appended s v p q) (λ u d. outcome u (some (flip d lo))) t e (outcome t (some r)) h
        (ap (λ (x : ℕ). outcome t (some x)) er) ∙ made_of

    pub made-full : (t : State) → outcome t none ≡ found_or_appended s v p q → outcome t none ≡ made s v lo hi
    made-full t h = then-full (found_or_appended s v p q) (λ u d. outcome u (some (flip d lo))) t h ∙ made_of
