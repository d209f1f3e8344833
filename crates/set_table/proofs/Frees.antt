-- The list of the variables of the free latches. Assumes nothing.
use mathlib.Core.Path.{◌≡◌, refl, sym, ap, ap₂, ◌∙◌}
use mathlib.Core.Bool.{Bool, true, false, cond}
use mathlib.Core.List.{List, [], ◌∷◌, ◌++◌, map, map-append}
use mathlib.Core.Logic.{◌⊎◌, inl, inr}
use Prim.Native.Nat.{ℕ, suc, ◌+◌, ◌≤◌, ◌<◌}
use native.Mathlib.Numerals.{add-one}
use native.Mathlib.Omega.{arith}
use lib.Dec.{eqb}
use lib.ListN.{length, set, take, length-set, length-take}
use lib.Seq.{take-suc-set}
use Rattle.aiger.specs.Circuit.{Circuit}
use Rattle.aiger.specs.Frames.{is_free}
use Rattle.meaning.specs.Frame.{latch_at}
use Rattle.influence.specs.Cone.{kept_below}
use Rattle.influence.proofs.Kept.{kept_in, kept_out}
use Rattle.transitions.specs.Transitions.{rank_in}
use Rattle.set_stage.specs.Plans.{free_places, frees_of}

-- the first n words are those of the numbers below j that pass
pub record Ranked (f : ℕ → ℕ) (p : ℕ → Bool) (j n : ℕ) (old ws : List ℕ) : Type 0 where
  pub few : n ≤ j
  pub size : length ws ≡ length old
  pub front : take n ws ≡ map f (kept_below p j)

module _ (f : ℕ → ℕ) (p : ℕ → Bool) where
  pub ranked-none : (old : List ℕ) → Ranked f p 0 0 old old
  unfolding kept_below
  ranked-none old = record { few = omega arith; size = refl; front = refl }

  pub ranked-more : (j n : ℕ) (old ws ws' : List ℕ) (n' : ℕ) (t : Bool) → t ≡ p j → n < length ws → Ranked f p j n old ws
      → ((t ≡ true) × (ws' ≡ set ws n (f j)) × (n' ≡ n + 1)) ⊎ ((t ≡ false) × (ws' ≡ ws) × (n' ≡ n)) → Ranked f p (j + 1) n' old ws'
  ranked-more j n old ws ws' n' t e h k (inl (a, b, d)) =
      record {
        few = omega (arith, k.few);
        size = ap length b ∙ length-set ws n (f j) ∙ k.size;
        front = ap₂ take (d ∙ add-one n) b ∙ take-suc-set ws n (f j) h ∙ ap (λ (xs : List ℕ). xs ++ (f j ∷ [])) k.front
            ∙ sym (map-append f (kept_below p j) (j ∷ [])) ∙ ap (map f) (kept_in p j (sym e ∙ a) ∙ ap (kept_below p) (sym (add-one j)));
      }
  ranked-more j n old ws ws' n' t e h k (inr (a, b, d)) =
      record {
        few = omega (arith, k.few);
        size = ap length b ∙ k.size;
        front = ap₂ take d b ∙ k.front ∙ ap (map f) (kept_out p j (sym e ∙ a) ∙ ap (kept_below p) (sym (add-one j)));
      }

-- after the last latch
module _ (c : Circuit) (latches : List ℕ) (j n : ℕ) (old ws : List ℕ) (e : j ≡ length c.latches)
    (h : Ranked (rank_in latches) (λ i. is_free (latch_at c i)) j n old ws) where
  pub frees-are : take n ws ≡ frees_of c latches
  unfolding frees_of free_places
  frees-are = h.front ∙ ap (λ (i : ℕ). map (rank_in latches) (kept_below (λ i. is_free (latch_at c i)) i)) e

  pub frees-number : n ≤ length ws → n ≡ length (frees_of c latches)
  frees-number l = let k : length (take n ws) ≡ n = simp length-take (omega arith) in sym k ∙ ap length frees-are

-- a place in a list is no larger than its length
rank-small : (xs : List ℕ) (x : ℕ) → rank_in xs x ≤ length xs
unfolding rank_in
rank-small [] x = omega arith
rank-small (y ∷ xs) x = go (eqb y x) (rank-small xs x)
  where
    go : (b : Bool) → rank_in xs x ≤ length xs → cond b 0 (suc (rank_in xs x)) ≤ suc (length xs)
    go true h = omega arith
    go false h = omega arith

pub rank-fits : (xs : List ℕ) (x r : ℕ) → r ≡ rank_in xs x → r ≤ length xs
rank-fits xs x r e = omega (arith, rank-small xs x)
