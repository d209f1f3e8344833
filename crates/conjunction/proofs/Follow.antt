-- The steps of the code against the definitions. Assumes nothing.
use mathlib.Core.Path.{◌≡◌, refl, sym, ap, ap₂, ◌∙◌}
use mathlib.Core.Bool.{Bool, true, false, cond}
use mathlib.Core.List.{List}
use mathlib.Core.Option.{Option, none, some}
use Prim.Native.Nat.{ℕ, zero, suc, ◌/◌}
use native.Mathlib.Omega.{arith}
use borrow.Author.Tests.{eq-eqb, ne_eqb}
use lib.Dec.{eqb}
use Rattle.diagrams.specs.declared.Vertex.{Vertex}
use Rattle.std.specs.Prelude as code
use Rattle.std.specs.Prelude.{Ok, Err}
use Rattle.diagrams.specs.Words.{node_at, flip}
use Rattle.diagrams.specs.States.{State, Outcome, outcome, and_then, Seen, paid, is_paid, entry_of, looked_up, or_else, made, keeping, finished, Hint}
use Rattle.diagrams.proofs.Follow.{then-full, then-edge, else-edge, else-full, else-nothing, remembered-edge, remembered-full}
use Rattle.diagrams.proofs.Sound.{paid-cache}
use Rattle.conjunction.specs.declared.Split.{Split}
use Rattle.conjunction.specs.Conjunction.{smaller, larger, low, high, split_at, split_of, known, Way, from_cofactors, turn, or_known, in_order, no_turn, both_within}
use Rattle.conjunction.specs.Conjunction as C

-- ---- a look

abbrev pub seen_as : State → Hint → Seen
seen_as s h = record { state = s; hint = h }

module _ (s t : State) (f g h : ℕ) (e : t ≡ paid s 1) where
  pub looked-some : (r : code.Option ℕ) → is_paid s 1 ≡ true → r ≡ entry_of t.cache f g h → seen_as t (Ok r) ≡ looked_up s f g h
  unfolding looked_up
  looked-some r p q =
      ap₂ (λ (u : State) (x : code.Option ℕ). seen_as u (Ok x)) e (q ∙ ap (λ (u : State). entry_of u.cache f g h) e ∙ ap (λ (c : List ℕ). entry_of c f g h) (paid-cache s 1))
      ∙ ap (λ (b : Bool). seen_as (paid s 1) (cond b (Ok (entry_of s.cache f g h)) (Err (record {})))) (sym p)

  pub looked-none : is_paid s 1 ≡ false → seen_as t (Err (record {})) ≡ looked_up s f g h
  unfolding looked_up
  looked-none p =
      ap (λ (u : State). seen_as u (Err (record {}))) e
      ∙ ap (λ (b : Bool). seen_as (paid s 1) (cond b (Ok (entry_of s.cache f g h)) (Err (record {})))) (sym p)

-- ---- a node that is kept

module _ (s : State) (v lo hi f g h : ℕ) where
  pub finished-edge : (t u : State) (e : ℕ) → outcome t (some e) ≡ made s v lo hi → u ≡ keeping t f g h e → outcome u
      (some e) ≡ finished s v lo hi f g h
  unfolding finished
  finished-edge t u e p q = remembered-edge (made s v lo hi) f g h t u e p q

  pub finished-full : (t : State) → outcome t none ≡ made s v lo hi → outcome t none ≡ finished s v lo hi f g h
  unfolding finished
  finished-full t p = remembered-full (made s v lo hi) f g h t p

-- ---- cofactors

pub split_by : (ns : List Vertex) (f g : ℕ) (p q : Vertex) (v f0 g0 f1 g1 : ℕ) → p ≡ node_at ns (f / 2) → q ≡ node_at ns (g / 2)
    → v ≡ smaller p.var q.var → f0 ≡ low p v f → g0 ≡ low q v g → f1 ≡ high p v f → g1 ≡ high q v g
    → ◌≡◌ {A = Split} (record { var = v; f0 = f0; g0 = g0; f1 = f1; g1 = g1 }) (split_of ns f g)
unfolding split_of
split_by ns f g p q v f0 g0 f1 g1 ep eq ev a b c d =
    (λ i. record { var = v; f0 = a i; g0 = b i; f1 = c i; g1 = d i }) ∙ ap (λ (u : ℕ). split_at u p q f g) ev
    ∙ (λ i. split_at (smaller (ep i).var (eq i).var) (ep i) (eq i) f g)

-- ---- what is known

module _ (s : State) (f g : ℕ) where
  pub known-one : f ≡ 1 → seen_as s (Ok (code.Some g)) ≡ known s f g
  unfolding known
  known-one e = sym (rw (eq-eqb f 1 e))

  module _ (n : f ≡ 1 → ⊥) where
    pub known-zero : f ≡ 0 → seen_as s (Ok (code.Some 0)) ≡ known s f g
    unfolding known
    known-zero e = sym (rw (ne_eqb f 1 n, eq-eqb f 0 e))

    module _ (m : f ≡ 0 → ⊥) where
      pub known-opposite : f / 2 ≡ g / 2 → seen_as s (Ok (code.Some 0)) ≡ known s f g
      unfolding known
      known-opposite e = sym (rw (ne_eqb f 1 n, ne_eqb f 0 m, eq-eqb (f / 2) (g / 2) e))

      pub known-looked : (x : Seen) → (f / 2 ≡ g / 2 → ⊥) → x ≡ looked_up s f g 0 → x ≡ known s f g
      unfolding known
      known-looked x d e = e ∙ sym (rw (ne_eqb f 1 n, ne_eqb f 0 m, ne_eqb (f / 2) (g / 2) d))

-- ---- a turn

pub within_same : (n : ℕ) (s : State) (a b : ℕ) → a ≡ b → outcome s (some a) ≡ both_within n s a b
unfolding both_within in_order
within_same zero s a b e = sym (rw (eq-eqb a b e))
within_same (suc n) s a b e = sym (rw (eq-eqb a b e))

module _ (s : State) (a b f g : ℕ) (differ : a ≡ b → ⊥) (ef : f ≡ smaller a b) (eg : g ≡ larger a b) where
  ordered : (way : Way) (o : Outcome) → o ≡ way s f g → o ≡ in_order way s a b
  unfolding in_order
  ordered way o h = h ∙ ap₂ (way s) ef eg ∙ sym (rw (ne_eqb a b differ))

  -- for any number of turns
  within-any : (n : ℕ) (o : Outcome) → ((way : Way) → o ≡ or_known way s f g) → o ≡ both_within n s a b
  unfolding both_within
  within-any zero o h = ordered (or_known no_turn) o (h no_turn)
  within-any (suc n) o h = ordered (or_known (turn (both_within n))) o (h (turn (both_within n)))

  pub within-known : (n : ℕ) (t : State) (e : ℕ) → seen_as t (Ok (code.Some e)) ≡ known s f g → outcome t (some e) ≡ both_within n s a b
  unfolding or_known
  within-known n t e k = within-any n (outcome t (some e)) (λ way. else-edge (known s f g) (λ u. way u f g) t e k)

  pub within-full : (n : ℕ) (t : State) → seen_as t (Err (record {})) ≡ known s f g → outcome t none ≡ both_within n s a b
  unfolding or_known
  within-full n t k = within-any n (outcome t none) (λ way. else-full (known s f g) (λ u. way u f g) t k)

  module _ (t : State) (k : seen_as t (Ok code.None) ≡ known s f g) where
    pub within-spent : (n : ℕ) → n ≡ 0 → outcome t none ≡ both_within n s a b
    unfolding or_known both_within
    within-spent n z =
        ordered (or_known no_turn) (outcome t none) (else-nothing (known s f g) (λ u. no_turn u f g) t (outcome t none) k refl)
        ∙ sym (ap (λ (m : ℕ). both_within m s a b) z)

    module _ (n m : ℕ) (z : n ≡ suc m) (x : Split) (ex : x ≡ split_of t.nodes f g) where
      from-turn : (o : Outcome) → o ≡ from_cofactors (both_within m) t f g x → o ≡ both_within n s a b
      unfolding or_known both_within turn
      from-turn o h =
          ordered (or_known (turn (both_within m))) o
          (else-nothing (known s f g) (λ u. turn (both_within m) u f g) t o k (h ∙ ap (from_cofactors (both_within m) t f g) ex))
          ∙ sym (ap (λ (i : ℕ). both_within i s a b) z)

      abbrev after_low : State → ℕ → Outcome
      after_low u lo = and_then (both_within m u x.f1 x.g1) (λ w hi. finished w x.var lo hi f g 0)

      pub within_low : (u : State) → outcome u none ≡ both_within m t x.f0 x.g0 → outcome u none ≡ both_within n s a b
      unfolding from_cofactors
      within_low u h = from-turn (outcome u none) (then-full (both_within m t x.f0 x.g0) after_low u h)

      module _ (u : State) (lo : ℕ) (h : outcome u (some lo) ≡ both_within m t x.f0 x.g0) where
        after-low : (o : Outcome) → o ≡ after_low u lo → o ≡ both_within n s a b
        unfolding from_cofactors
        after-low o q = from-turn o (then-edge (both_within m t x.f0 x.g0) after_low u lo o h q)

        pub within-high : (w : State) → outcome w none ≡ both_within m u x.f1 x.g1 → outcome w none ≡ both_within n s a b
        within-high w i =
            after-low (outcome w none) (then-full (both_within m u x.f1 x.g1) (λ y hi. finished y x.var lo hi f g 0) w i)

        pub within_both : (w : State) (hi : ℕ) (o : Outcome) → outcome w (some hi) ≡ both_within m u x.f1 x.g1
            → o ≡ finished w x.var lo hi f g 0 → o ≡ both_within n s a b
        within_both w hi o i q =
            after-low o (then-edge (both_within m u x.f1 x.g1) (λ y hi. finished y x.var lo hi f g 0) w hi o i q)

-- ---- the disjunction

module _ (s : State) (f g p q : ℕ) (ep : p ≡ flip f 1) (eq : q ≡ flip g 1) where
  either-of : and_then (C.both s p q) (λ t e. outcome t (some (flip e 1))) ≡ C.either s f g
  unfolding C.either
  either-of = ap₂ (λ (x y : ℕ). and_then (C.both s x y) (λ t e. outcome t (some (flip e 1)))) ep eq

  pub either_edge : (t : State) (e r : ℕ) → outcome t (some e) ≡ C.both s p q → r ≡ flip e 1 → outcome t (some r) ≡ C.either s f g
  either_edge t e r h er =
      then-edge (C.both s p q) (λ t e. outcome t (some (flip e 1))) t e (outcome t (some r)) h (ap (λ (x : ℕ). outcome t (some x)) er)
      ∙ either-of

  pub either-full : (t : State) → outcome t none ≡ C.both s p q → outcome t none ≡ C.either s f g
  either-full t h = then-full (C.both s p q) (λ t e. outcome t (some (flip e 1))) t h ∙ either-of
