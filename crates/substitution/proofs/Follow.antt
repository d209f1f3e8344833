-- The steps of the code, each taken by the definitions. Assumes nothing.
use mathlib.Core.Path.{◌≡◌, refl, sym, ap, ap₂, ◌∙◌}
use mathlib.Core.List.{List}
use mathlib.Core.Option.{none, some}
use Prim.Native.Nat.{ℕ, zero, suc, ◌/◌, ◌≤◌, ◌<◌}
use borrow.Author.Tests.{lt-ltb, le-ltb}
use lib.ListN.{get_or}
use Rattle.diagrams.specs.declared.Vertex.{Vertex}
use Rattle.std.specs.Prelude as code
use Rattle.std.specs.Prelude.{Ok, Err}
use Rattle.diagrams.specs.Words.{node_at, flip}
use Rattle.diagrams.specs.States.{State, Outcome, outcome, and_then, Seen, looked_up, or_else, keeping, Hint}
use Rattle.diagrams.proofs.Follow.{then-full, then-edge, remembered-full, remembered-edge}
use Rattle.conjunction.specs.Conjunction.{both, either}
use Rattle.substitution.specs.Substitution.{whole, choice, half, mark_of, complement_if, finished_choice}
use Rattle.substitution.specs.Substitution.{Way, from_halves, at_node, turn, or_constant, no_turn, substituted_within}

-- ---- three conjunctions

module _ (s : State) (f g h : ℕ) where
  abbrev second : State → ℕ → Outcome
  second t p = and_then (both t (flip f 1) h) (λ u q. either u p q)

  pub whole-first : (t : State) → outcome t none ≡ both s f g → outcome t none ≡ whole s f g h
  unfolding whole
  whole-first t i = then-full (both s f g) second t i

  module _ (c : ℕ) (ec : c ≡ flip f 1) (t : State) (p : ℕ) (i : outcome t (some p) ≡ both s f g) where
    pub whole-second : (u : State) → outcome u none ≡ both t c h → outcome u none ≡ whole s f g h
    unfolding whole
    whole-second u j =
        then-edge (both s f g) second t p (outcome u none) i
        (then-full (both t (flip f 1) h) (λ u q. either u p q) u (j ∙ ap (λ (x : ℕ). both t x h) ec))

    pub whole-third : (u : State) (q : ℕ) → outcome u (some q) ≡ both t c h → (o : Outcome) → o ≡ either u p q → o ≡ whole s f g h
    unfolding whole
    whole-third u q j o k =
        then-edge (both s f g) second t p o i
        (then-edge (both t (flip f 1) h) (λ u q. either u p q) u q o (j ∙ ap (λ (x : ℕ). both t x h) ec) k)

-- ---- a choice that is kept

module _ (s : State) (x hi lo e tag : ℕ) where
  pub choice-full : (t : State) → outcome t none ≡ choice s x hi lo
      → outcome t none ≡ complement_if e (finished_choice s x hi lo (flip e e) tag)
  unfolding finished_choice
  choice-full t h = ap (complement_if e) (remembered-full (choice s x hi lo) (flip e e) (mark_of tag) 1 t h)

  pub choice-kept : (t u : State) (r f m d : ℕ) → outcome t (some r) ≡ choice s x hi lo → f ≡ flip e e → m ≡ mark_of tag
      → u ≡ keeping t f m 1 r → d ≡ flip r e → outcome u (some d) ≡ complement_if e (finished_choice s x hi lo (flip e e) tag)
  unfolding finished_choice
  choice-kept t u r f m d h ef em eu ed =
      ap (λ (z : ℕ). outcome u (some z)) ed
      ∙ ap (complement_if e)
      (remembered-edge (choice s x hi lo) (flip e e) (mark_of tag) 1 t u r h (eu ∙ ap₂ (λ (y z : ℕ). keeping t y z 1 r) ef em))

-- ---- a turn of the substitution

module _ (by : List ℕ) (tag : ℕ) (s : State) (e : ℕ) where
  constant : (way : Way) → e < 2 → outcome s (some e) ≡ or_constant way s e
  unfolding or_constant
  constant way l = sym (rw (lt-ltb e 2 l))

  no-constant : (way : Way) (o : Outcome) → 2 ≤ e → o ≡ way s e → o ≡ or_constant way s e
  unfolding or_constant
  no-constant way o l h = h ∙ sym (rw (le-ltb e 2 l))

  pub within-constant : (n : ℕ) → e < 2 → outcome s (some e) ≡ substituted_within by tag n s e
  unfolding substituted_within
  within-constant zero l = constant no_turn l
  within-constant (suc n) l = constant (turn by tag (substituted_within by tag n)) l

  pub within-spent : (n : ℕ) → n ≡ 0 → 2 ≤ e → outcome s none ≡ substituted_within by tag n s e
  unfolding substituted_within
  within-spent n z l = no-constant no_turn (outcome s none) l refl ∙ sym (ap (λ (y : ℕ). substituted_within by tag y s e) z)

  module _ (n m : ℕ) (q : n ≡ suc m) (two : 2 ≤ e) (v : Vertex) (ev : v ≡ node_at s.nodes (e / 2)) (x : ℕ)
      (ex : x ≡ get_or by v.var 0) where
    abbrev rec : Way
    rec = substituted_within by tag m

    at-node : (o : Outcome) → o ≡ at_node rec tag s e v x → o ≡ substituted_within by tag n s e
    unfolding substituted_within turn
    at-node o h =
        no-constant (turn by tag rec) o two
        (h ∙ ap (at_node rec tag s e v) ex ∙ ap (λ (y : Vertex). at_node rec tag s e y (get_or by y.var 0)) ev)
        ∙ sym (ap (λ (y : ℕ). substituted_within by tag y s e) q)

    -- one half, where the edge for the variable is constant
    pub within-half : x < 2 → (d : ℕ) → d ≡ half v x e → (o : Outcome) → o ≡ rec s d → o ≡ substituted_within by tag n s e
    unfolding at_node
    within-half l d ed o h = at-node o (h ∙ ap (rec s) ed ∙ sym (rw (lt-ltb x 2 l)))

    module _ (l : 2 ≤ x) (f k : ℕ) (ef : f ≡ flip e e) (ek : k ≡ mark_of tag) (t : State) where
      looked : (h : Hint) → record { state = t; hint = h } ≡ looked_up s f k 1 → (o : Outcome)
          → o ≡ complement_if e (or_else (record { state = t; hint = h }) (from_halves rec tag v x (flip e e)))
          → o ≡ substituted_within by tag n s e
      unfolding at_node
      looked h i o j =
          at-node o
          (j
          ∙ ap (λ (y : Seen). complement_if e (or_else y (from_halves rec tag v x (flip e e)))) (i ∙ ap₂ (λ (y z : ℕ). looked_up s y z 1) ef ek)
          ∙ sym (rw (le-ltb x 2 l)))

      pub within-full : record { state = t; hint = Err (record {}) } ≡ looked_up s f k 1 → outcome t none ≡ substituted_within by tag n s e
      within-full i = looked (Err (record {})) i (outcome t none) refl

      pub within-known : (r d : ℕ) → record { state = t; hint = Ok (code.Some r) } ≡ looked_up s f k 1 → d ≡ flip r e
          → outcome t (some d) ≡ substituted_within by tag n s e
      within-known r d i ed = looked (Ok (code.Some r)) i (outcome t (some d)) (ap (λ (y : ℕ). outcome t (some y)) ed)

      module _ (i : record { state = t; hint = Ok code.None } ≡ looked_up s f k 1) where
        abbrev low : State → ℕ → Outcome
        low u hi = and_then (rec u v.lo) (λ y lo. finished_choice y x hi lo (flip e e) tag)

        halves : (o p : Outcome) → o ≡ complement_if e p → p ≡ and_then (rec t v.hi) low → o ≡ substituted_within by tag n s e
        unfolding from_halves
        halves o p j h = looked (Ok code.None) i o (j ∙ ap (complement_if e) h)

        pub within_first : (u : State) → outcome u none ≡ rec t v.hi → outcome u none ≡ substituted_within by tag n s e
        within_first u h = halves (outcome u none) (outcome u none) refl (then-full (rec t v.hi) low u h)

        module _ (u : State) (hi : ℕ) (h : outcome u (some hi) ≡ rec t v.hi) where
          pub within-second : (y : State) → outcome y none ≡ rec u v.lo → outcome y none ≡ substituted_within by tag n s e
          within-second y j =
              halves (outcome y none) (outcome y none) refl
              (then-edge (rec t v.hi) low u hi (outcome y none) h
              (then-full (rec u v.lo) (λ y lo. finished_choice y x hi lo (flip e e) tag) y j))

          pub within_both : (y : State) (lo : ℕ) → outcome y (some lo) ≡ rec u v.lo → (o : Outcome)
              → o ≡ complement_if e (finished_choice y x hi lo (flip e e) tag) → o ≡ substituted_within by tag n s e
          within_both y lo j o p =
              let last = finished_choice y x hi lo (flip e e) tag in
              halves o last p
              (then-edge (rec t v.hi) low u hi last h
              (then-edge (rec u v.lo) (λ y lo. finished_choice y x hi lo (flip e e) tag) y lo last j refl))
