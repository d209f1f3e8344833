-- The steps of the code, each taken by the definitions. Assumes nothing.
use mathlib.Core.Path.{◌≡◌, refl, sym, ap, ◌∙◌}
use mathlib.Core.Option.{none, some}
use Prim.Native.Nat.{ℕ, zero, suc, ◌/◌, ◌≤◌, ◌<◌}
use borrow.Author.Tests.{lt-ltb, le-ltb, le-leb, lt-leb}
use Rattle.diagrams.specs.declared.Vertex.{Vertex}
use Rattle.std.specs.Prelude as code
use Rattle.std.specs.Prelude.{Ok, Err}
use Rattle.diagrams.specs.Words.{node_at, flip}
use Rattle.diagrams.specs.States.{State, Outcome, outcome, and_then, Seen, looked_up, or_else, finished, Hint}
use Rattle.diagrams.proofs.Follow.{then-full, then-edge}
use Rattle.quantification.specs.Quantification.{Way, or_plain, from_halves, turn, no_turn, exists_within}

module _ (level : ℕ) (s : State) (e : ℕ) where
  constant : (way : Way) → e < 2 → outcome s (some e) ≡ or_plain level way s e
  unfolding or_plain
  constant way l = sym (rw (lt-ltb e 2 l))

  -- whatever the number of turns
  of_turns : (n : ℕ) (o : Outcome) → ((way : Way) → o ≡ or_plain level way s e) → o ≡ exists_within level n s e
  unfolding exists_within
  of_turns zero o h = h no_turn
  of_turns (suc n) o h = h (turn (exists_within level n))

  pub within-constant : (n : ℕ) → e < 2 → outcome s (some e) ≡ exists_within level n s e
  within-constant n l = of_turns n (outcome s (some e)) (λ way. constant way l)

  module _ (two : 2 ≤ e) (v : Vertex) (ev : v ≡ node_at s.nodes (e / 2)) where
    past : (way : Way) → level ≤ v.var → outcome s (some 1) ≡ or_plain level way s e
    unfolding or_plain
    past way l =
        sym (rw (le-ltb e 2 two, ← ev, le-leb level v.var l))

    before : (way : Way) (o : Outcome) → v.var < level → o ≡ way s e → o ≡ or_plain level way s e
    unfolding or_plain
    before way o l h = h ∙ sym (rw (le-ltb e 2 two, ← ev, lt-leb level v.var l))

    pub within-past : (n : ℕ) → level ≤ v.var → outcome s (some 1) ≡ exists_within level n s e
    within-past n l = of_turns n (outcome s (some 1)) (λ way. past way l)

    module _ (early : v.var < level) where
      pub within-spent : (n : ℕ) → n ≡ 0 → outcome s none ≡ exists_within level n s e
      unfolding exists_within
      within-spent n z = before no_turn (outcome s none) early refl ∙ sym (ap (λ (y : ℕ). exists_within level y s e) z)

      module _ (n m : ℕ) (q : n ≡ suc m) (t : State) where
        abbrev rec : Way
        rec = exists_within level m

        looked : (h : Hint) → record { state = t; hint = h } ≡ looked_up s e 0 1 → (o : Outcome)
            → o ≡ or_else (record { state = t; hint = h }) (from_halves rec v e) → o ≡ exists_within level n s e
        unfolding exists_within turn
        looked h i o j =
            before (turn rec) o early
            (j ∙ ap (λ (y : Seen). or_else y (from_halves rec v e)) i
            ∙ ap (λ (y : Vertex). or_else (looked_up s e 0 1) (from_halves rec y e)) ev)
            ∙ sym (ap (λ (y : ℕ). exists_within level y s e) q)

        pub within-full : record { state = t; hint = Err (record {}) } ≡ looked_up s e 0 1 → outcome t none ≡ exists_within level n s e
        within-full i = looked (Err (record {})) i (outcome t none) refl

        pub within-known : (r : ℕ) → record { state = t; hint = Ok (code.Some r) } ≡ looked_up s e 0 1
            → outcome t (some r) ≡ exists_within level n s e
        within-known r i = looked (Ok (code.Some r)) i (outcome t (some r)) refl

        module _ (i : record { state = t; hint = Ok code.None } ≡ looked_up s e 0 1) (p : ℕ) (ep : p ≡ flip v.lo e) where
          abbrev rest : State → ℕ → Outcome
          rest u lo = and_then (rec u (flip v.hi e)) (λ y hi. finished y v.var lo hi e 0 1)

          halves : (o : Outcome) → o ≡ and_then (rec t p) rest → o ≡ exists_within level n s e
          unfolding from_halves
          halves o h = looked (Ok code.None) i o (h ∙ ap (λ (x : ℕ). and_then (rec t x) rest) ep)

          pub within_first : (u : State) → outcome u none ≡ rec t p → outcome u none ≡ exists_within level n s e
          within_first u h = halves (outcome u none) (then-full (rec t p) rest u h)

          module _ (u : State) (lo : ℕ) (h : outcome u (some lo) ≡ rec t p) (d : ℕ) (ed : d ≡ flip v.hi e) where
            pub within-second : (y : State) → outcome y none ≡ rec u d → outcome y none ≡ exists_within level n s e
            within-second y j =
                halves (outcome y none)
                (then-edge (rec t p) rest u lo (outcome y none) h
                (then-full (rec u (flip v.hi e)) (λ y hi. finished y v.var lo hi e 0 1) y (j ∙ ap (rec u) ed)))

            pub within_both : (y : State) (hi : ℕ) → outcome y (some hi) ≡ rec u d → (o : Outcome)
                → o ≡ finished y v.var lo hi e 0 1 → o ≡ exists_within level n s e
            within_both y hi j o k =
                halves o
                (then-edge (rec t p) rest u lo o h
                (then-edge (rec u (flip v.hi e)) (λ y hi. finished y v.var lo hi e 0 1) y hi o (j ∙ ap (rec u) ed) k))
