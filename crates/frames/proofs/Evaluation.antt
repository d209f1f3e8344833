-- The values of one run or sequence while its gates are evaluated in an order in which operands come first. Assumes nothing.
use mathlib.Core.Path.{◌≡◌, refl, sym, ap, ap₂, ◌∙◌, subst}
use mathlib.Core.Bool.{Bool, ◌&&◌}
use mathlib.Core.List.{List, map}
use mathlib.Core.Logic.{inl, inr}
use Prim.Native.Nat.{ℕ, ◌+◌, ◌≤◌, ◌<◌}
use native.Mathlib.Decide.{dec_lt}
use native.Mathlib.Omega.{arith}
use borrow.Author.Count.{below_none, below_more}
use lib.Dec.{T}
use lib.ListN.{length, get_or, length-map, get_or-map}
use Rattle.aiger.specs.Circuit.{Circuit, Gate, var, literals_right}
use Rattle.aiger.specs.Frames.{value}
use Rattle.layout.specs.Order.{Feeds, Ordered}
use Rattle.meaning.specs.Frame.{Valuation}
use Rattle.meaning.proofs.Defined.{no_gate, gate_at, gate-in, definition, apart-gates, input-gate, latch-gate}
use Rattle.meaning.proofs.Values.{value-eq}
use Rattle.frames.specs.Lanes.{Leaves, Computed}

-- the gate at place j of the order
abbrev pub gate_on : Circuit → List ℕ → ℕ → Gate
gate_on c order j = gate_at c (get_or order j 0)

-- after the first k gates of the order: each of them has the conjunction of its operands, all other values are as before
pub record Upto (c : Circuit) (order : List ℕ) (k : ℕ) (before after : ℕ → Bool) : Type 0 where
  pub others : (v : ℕ) → ((j : ℕ) → j < k → var (gate_on c order j).lit ≡ v → ⊥) → after v ≡ before v
  pub gate : (j : ℕ) → j < k → after (var (gate_on c order j).lit) ≡ (value after (gate_on c order j).left && value after (gate_on c order j).right)

pub upto-start : (c : Circuit) (order : List ℕ) (w : ℕ → Bool) → Upto c order 0 w w
upto-start c order w = record { others = λ v h. refl; gate = below_none _ }

module _ {c : Circuit} (right : T (literals_right c)) {order : List ℕ} (o : Ordered c order) where
  -- two gates define two variables
  gates-differ : (g h : ℕ) → g < length c.gates → h < length c.gates → (g ≡ h → ⊥) → var (gate_at c g).lit ≡ var (gate_at c h).lit → ⊥
  gates-differ g h lg lh n e = go (dec_lt g h)
    where
      lit-at : (i : ℕ) → var (get_or (map (λ x. x.lit) c.gates) i 0) ≡ var (gate_at c i).lit
      lit-at i = ap var (get_or-map (λ (x : Gate). x.lit) c.gates i no_gate)

      go : Dec (g < h) → ⊥
      go (yes l) = apart-gates c right g h l (simp length-map lh) (lit-at g ∙ e ∙ sym (lit-at h))
      go (no l) = apart-gates c right h g (omega arith) (simp length-map lg) (lit-at h ∙ sym e ∙ sym (lit-at g))

  -- the gates at two places define two variables
  places-differ : (j k : ℕ) → j < k → k < length c.gates → var (gate_on c order k).lit ≡ var (gate_on c order j).lit → ⊥
  places-differ j k l h e =
      let there : (get_or order j 0 ≡ get_or order k 0) → ⊥ =
      λ q. omega (arith, ap o.place q, o.there j (omega arith), o.there k h) in
      gates-differ (get_or order j 0) (get_or order k 0) (o.gate j (omega arith)) (o.gate k h) there (sym e)

  -- a gate feeds no gate at its place or before
  feeds-later : (j k : ℕ) → j ≤ k → k < length c.gates → Feeds c (get_or order k 0) (get_or order j 0) → ⊥
  feeds-later j k l h f =
      omega (arith, o.before (get_or order j 0) (get_or order k 0) (o.gate j (omega arith)) f, o.there j (omega arith), o.there k h)

  -- one gate more
  module _ (k : ℕ) (h : k < length c.gates) {before mid after : ℕ → Bool} (u : Upto c order k before mid) (g : Computed (gate_on c order k) mid after) where
    -- the operands of the gates up to there keep their values
    operands-kept : (j : ℕ) → j ≤ k
        → (value mid (gate_on c order j).left && value mid (gate_on c order j).right)
        ≡ (value after (gate_on c order j).left && value after (gate_on c order j).right)
    operands-kept j l =
        ap₂ (λ (x y : Bool). x && y)
        (value-eq mid after (gate_on c order j).left (sym (g.others _ (λ e. feeds-later j k l h (o.gate k h, inl e)))))
        (value-eq mid after (gate_on c order j).right (sym (g.others _ (λ e. feeds-later j k l h (o.gate k h, inr e)))))

    pub upto-more : Upto c order (k + 1) before after
    upto-more =
        record {
          others = λ v n. g.others v (n k (omega arith)) ∙ u.others v (λ j l e. n j (omega arith) e);
          gate = below_more _ k
              (λ j l. g.others _ (places-differ j k l h) ∙ u.gate j l ∙ operands-kept j (omega arith))
              (g.result ∙ operands-kept k (omega arith));
        }

  -- all gates
  pub upto-end : {before after : ℕ → Bool} → Upto c order (length c.gates) before after → (row st : List Bool) → Leaves c row st before → Valuation c row st after
  upto-end {before} {after} u row st leaves =
      let kept : (v : ℕ) → ((i : ℕ) → i < length c.gates → var (gate_at c i).lit ≡ v → ⊥) → after v ≡ before v =
      λ v n. u.others v (λ j l e. n (get_or order j 0) (o.gate j l) e) in
      record {
        constant = kept 0 (λ i l e. omega (arith, (definition c right (gate_at c i).lit (gate-in c i l)).0)) ∙ leaves.constant;
        input = λ i l. kept _ (λ g k e. input-gate c right i g l k (sym e)) ∙ leaves.input i l;
        latch = λ j l. kept _ (λ g k e. latch-gate c right j g l k (sym e)) ∙ leaves.latch j l;
        gate = λ i l.
            let q = o.placed i l in
            subst (λ (g : ℕ). after (var (gate_at c g).lit) ≡ (value after (gate_at c g).left && value after (gate_at c g).right)) q.1
            (u.gate (o.place i) q.0);
      }
