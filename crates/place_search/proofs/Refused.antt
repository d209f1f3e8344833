-- Clause 12.11: the order of the tests of a search from a place. Assumes nothing.
use mathlib.Core.Path.{◌≡◌, refl, ap, ◌∙◌}
use mathlib.Core.Bool.{Bool, true, false, cond, ◌&&◌}
use mathlib.Core.List.{List, [], ◌∷◌}
use Prim.Native.Nat.{ℕ}
use lib.Dec.{leb, ltb}
use lib.ListN.{length}
use Rattle.aiger.specs.Circuit.{Circuit}
use Rattle.aiger.specs.Frames.{free_bits}
use Rattle.aiger.specs.Load.{Answer, refused}
use Rattle.aiger.specs.Operations.{Test, need, judge, budget_right}
use Rattle.place_search.specs.Operation.{place_right, place_tests}

-- a test that passes leaves the others, one that fails refuses
pub judge-pass : (n : ℕ) (p : Bool) (ts : List Test) → p ≡ true → judge (need n p ∷ ts) ≡ judge ts
unfolding judge
judge-pass n p ts e = ap (λ (b : Bool). cond b (judge ts) (refused n)) e

pub judge-fail : (n : ℕ) (p : Bool) (ts : List Test) → p ≡ false → judge (need n p ∷ ts) ≡ refused n
unfolding judge
judge-fail n p ts e = ap (λ (b : Bool). cond b (judge ts) (refused n)) e

module _ (asked c : Circuit) (b t place D room len : ℕ) where
  -- with b, frame and budget right, a place that is not right is 19, whatever the size and the memories
  pub place-refused : ltb b (length c.bads) ≡ true → (leb t 255 && budget_right D) ≡ true → place_right (free_bits asked t) place ≡ false
      → judge (place_tests asked c b t place D room len) ≡ refused 19
  place-refused e₁ e₂ e₃ =
      judge-pass 10 (ltb b (length c.bads)) _ e₁ ∙ judge-pass 11 (leb t 255 && budget_right D) _ e₂
      ∙ judge-fail 19 (place_right (free_bits asked t) place) _ e₃

  -- a frame or a budget that is not right is 11, whatever the place
  pub budget-refused : ltb b (length c.bads) ≡ true → (leb t 255 && budget_right D) ≡ false
      → judge (place_tests asked c b t place D room len) ≡ refused 11
  budget-refused e₁ e₂ = judge-pass 10 (ltb b (length c.bads)) _ e₁ ∙ judge-fail 11 (leb t 255 && budget_right D) _ e₂
