-- Gates evaluated in 64 runs at a time. Assumes nothing.
use mathlib.Core.Path.{◌≡◌, refl, sym, ap, ap₂, ◌∙◌}
use mathlib.Core.Bool.{Bool, ◌&&◌}
use mathlib.Core.List.{List}
use Prim.Native.Nat.{ℕ, ◌+◌, ◌<◌}
use lib.Dec.{T}
use lib.Bits.{bit_and}
use lib.ListN.{length, get_or, set}
use lib.Seq.{get_or-set_same, get_or-set_other}
use Rattle.aiger.specs.Bits.{bit}
use Rattle.aiger.specs.Circuit.{Circuit, Gate, var, literals_right}
use Rattle.aiger.specs.Frames.{value}
use Rattle.words.proofs.Bits.{bit-and}
use Rattle.layout.specs.Order.{Ordered}
use Rattle.frames.specs.Lanes.{lane, Evaluated, Gated}
use Rattle.frames.proofs.Evaluation as evaluation
use Rattle.frames.proofs.Evaluation.{gate_on}

-- the store that evaluates a gate
pub gated : (g : Gate) (l : List ℕ) (x y : ℕ) → var g.lit < length l → ((p : ℕ) → p < 64 → bit x p ≡ value (lane l p) g.left)
    → ((p : ℕ) → p < 64 → bit y p ≡ value (lane l p) g.right) → Gated g l (set l (var g.lit) (bit_and x y))
gated g l x y h ex ey p b =
    let v : ℕ = var g.lit in
    record {
      result = ap (λ (w : ℕ). bit w p) (get_or-set_same l v (bit_and x y) 0 h) ∙ bit-and x y p ∙ ap₂ (λ (a b : Bool). a && b) (ex p b) (ey p b);
      others = λ u n. ap (λ (w : ℕ). bit w p) (get_or-set_other l v u (bit_and x y) 0 (λ e. n (sym e)));
    }

-- the first k gates of the order are evaluated in each run
pub record Upto (c : Circuit) (order : List ℕ) (k : ℕ) (before after : List ℕ) : Type 0 where
  pub size : length after ≡ length before
  pub lanes : (p : ℕ) → p < 64 → evaluation.Upto c order k (lane before p) (lane after p)

pub upto-start : (c : Circuit) (order values : List ℕ) → Upto c order 0 values values
upto-start c order values = record { size = refl; lanes = λ p b. evaluation.upto-start c order (lane values p) }

module _ {c : Circuit} (right : T (literals_right c)) {order : List ℕ} (o : Ordered c order) where
  -- one gate more
  pub upto-more : (k : ℕ) → k < length c.gates → (before mid after : List ℕ) → length after ≡ length mid → Upto c order k before mid
      → Gated (gate_on c order k) mid after → Upto c order (k + 1) before after
  upto-more k h before mid after size u g = record { size = size ∙ u.size; lanes = λ p b. evaluation.upto-more right o k h (u.lanes p b) (g p b) }

  -- all gates
  pub upto-end : {before after : List ℕ} → Upto c order (length c.gates) before after → Evaluated c before after
  upto-end u =
      record {
        size = u.size;
        values = λ p b. evaluation.upto-end right o (u.lanes p b);
        others = λ p b v n. (u.lanes p b).others v (λ j l e. n (get_or order j 0) (o.gate j l) e);
      }
