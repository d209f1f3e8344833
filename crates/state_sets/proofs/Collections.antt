-- A collection keeps the values of all words of a table. Assumes nothing.
use mathlib.Core.Path.{◌≡◌, refl, sym, ap, ◌∙◌, subst}
use mathlib.Core.Bool.{true}
use mathlib.Core.List.{List, []}
use Prim.Native.Nat.{ℕ, ◌≤◌, ◌<◌}
use native.Mathlib.Decide.{dec_lt}
use native.Mathlib.Omega.{arith}
use lib.ListN.{length, get_or, get_or-eq_default}
use Rattle.diagrams.specs.States.{State}
use Rattle.diagrams.specs.Meaning.{Assignment, value, In, VectorsIn, Terms, Good}
use Rattle.diagrams.proofs.Values.{value-false}
use Rattle.collection.specs.Collecting.{collected}
use Rattle.collection.specs.Meaning.{Keeps}
use Rattle.collection.proofs.Sound.{collected-right}

-- words that stand for the same as before, in a diagram that is good for any terms
pub record Collects (s : State) (roots : List ℕ) (t : State) (to : List ℕ) : Type 0 where
  pub lengths : length to ≡ length roots
  pub roots-in : (i : ℕ) → In t.nodes (get_or to i 0)
  pub same : (x : Assignment) (i : ℕ) → value t.nodes x (get_or to i 0) ≡ value s.nodes x (get_or roots i 0)
  pub good : (terms : Terms) → VectorsIn terms t.nodes → Good terms t

pub collects : (terms : Terms) (s : State) → Good terms s → (roots : List ℕ) → 0 < length roots → ((i : ℕ) → In s.nodes (get_or roots i 0))
    → (collected s roots).kept ≡ true → Collects s roots (collected s roots).state (collected s roots).roots
collects terms s g roots some-root h e =
    let k = collected-right terms s roots g e in
    let t = (collected s roots).state in
    let to = (collected s roots).roots in
    let zero_in : In t.nodes 0 = omega (arith, k.inside 0 some-root (h 0)) in
    let bare : Terms = record { level = 0; vectors = [] } in
    let fine : Good bare t = k.good bare (λ tag v. zero_in) in
    record {
      lengths = k.long;
      roots-in = λ i. elim (dec_lt i (length roots)) [
        | yes l ↦ k.inside i l (h i)
        | no l ↦ subst (λ (d : ℕ). In t.nodes d) (sym (get_or-eq_default to 0 (omega (arith, k.long)))) zero_in
      ];
      same = λ x i. elim (dec_lt i (length roots)) [
        | yes l ↦ k.same i l (h i) x
        | no l ↦
            ap (value t.nodes x) (get_or-eq_default to 0 (omega (arith, k.long))) ∙ value-false t.nodes fine.built x
            ∙ sym (ap (value s.nodes x) (get_or-eq_default roots 0 (omega arith)) ∙ value-false s.nodes g.built x)
      ];
      good = k.good;
    }
